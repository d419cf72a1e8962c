-- At the loop's head the run stands where some turns led, and what it took and wrote is theirs.
use mathlib.Core.Path.{◌≡◌}
use mathlib.Core.List.{[]}
use Prim.Native.Nat.{◌+◌, ◌-◌, ◌*◌, ◌/◌, ◌≤◌}
use Rattle.report.specs.Block.{most_number}
use Rattle.report.specs.Program.{first_number}
use Rattle.stream.specs.declared.state.Phase.TheVariants.{Reading}
use Rattle.stream.specs.Step.{standing}
use Rattle.filter.specs.declared.turn.TheConstants.{BUFFER}
use Rattle.filter.specs.Turns.{records, held_most, Reached}
use Rattle.filter.specs.Moves.{Passes}
use Rattle.filter.proofs.turn.turns.Given as goal

abbrev pub invariant-loop : goal.invariant-loop
invariant-loop g l =
    let left = (most_number - first_number) / records - l.counter in
    record {
      few : l.state.phase ≡ Reading → l.state.held ≤ held_most l.job;
      reached : Reached l.job l.arguments (standing l.state l.room.buffer) left;
      numbered : l.state.next + records * left ≤ most_number;
      inside : l.state.held ≤ BUFFER;
      passes : Passes l.job l.arguments (standing l.state l.room.buffer)
          (g.I.Read.remaining l.initial.input) (g.I.Read.remaining l.input) (g.O.Write.contents l.initial.output) (g.O.Write.contents l.output);
      whole : l.state.phase ≡ Reading → passes.part ≡ [];
    }
