-- At the loop's head the parts behind are stored and listed, but for a run that may go on. Both pieces are those that were lent.
use mathlib.Core.Path.{◌≡◌}
use Prim.Native.Nat.{◌-◌}
use lib.ListN.{length}
use Rattle.torn.proofs.Turns.{State}
use Rattle.torn.proofs.reading.read_all.Given as goal

abbrev pub invariant-loop-found : goal.invariant-loop-found
invariant-loop-found l = record {
  state : State l.input l.fn.records l.fn.list l.taken.records.now l.runs.list.now l.at l.since l.taken.count l.runs.count;
  same_records : l.taken.records.ghost_name ≡ l.initial.taken.records.ghost_name;
  same_list : l.runs.list.ghost_name ≡ l.initial.runs.list.ghost_name;
}

abbrev pub decreases-loop-found : goal.decreases-loop-found
decreases-loop-found l = length l.input - l.at
