-- `filter::turn::turns` meets its contract: the run came to stand where it stands by the turns that it took.
use mathlib.Core.Path.{◌≡◌, refl}
use mathlib.Core.List.{[], ◌∷◌}
use native.Mathlib.Omega.{arith}
use borrow.Author.Rules.{rules}
use Rattle.report.specs.Program.{first_number}
use Rattle.stream.specs.declared.state.Phase.TheVariants.{Reading}
use Rattle.stream.specs.declared.state.State.{State}
use Rattle.stream.specs.Run.{Turn, start, standing_of}
use Rattle.stream.specs.Step.{came_to, read_in, standing}
use Rattle.std.specs.Prelude.{is_ok}
use Rattle.filter.proofs.Turns.{goes_on_to}
use Rattle.filter.proofs.Passing.{passes_none, passes_more}
use Rattle.filter.proofs.turn.turns.Goals as goal

pub loop-init : goal.loop-init
unfolding standing_of
loop-init g c =
    let a = c.args in
    let state : State = record { session = c.open.result; next = first_number; held = 0; phase = c.phase_at_start.result } in
    let begins : standing state a.room.now.buffer ≡ start a.arguments = rw (c.open.ensures, c.phase_at_start.ensures) refl in
    let (passes, none) = passes_none a.job a.arguments (standing state a.room.now.buffer) _ _ begins in
    record {
      few = λ e. omega arith;
      reached = record { turns = []; stands = begins; used = λ e. omega arith };
      numbered = omega arith;
      inside = omega arith;
      passes = passes;
      whole = λ e. none;
    }

pub loop-preserved : goal.loop-preserved
unfolding standing_of
loop-preserved g c =
    let a = c.args in
    let l = c.loop in
    let r = c.turn-turned.result in
    let new = c.turn-turned.new in
    let moves = c.turn-turned.ensures.moves in
    let by = moves.by in
    let before = l.invariant.reached in
    let reading : l.state.phase ≡ Reading = search rules in
    let turn : Turn = record { read = read_in (came_to r.came) by.behind; written = is_ok r.sent } in
    let (passes, none) =
    passes_more a.job a.arguments turn (standing l.state l.room.buffer) (standing r.state new.room.buffer) _ _ _ _ _ _ l.invariant.passes reading
    (l.invariant.whole reading) by.stands moves.moves in
    record {
      few = by.few;
      reached = record {
        turns = turn ∷ before.turns;
        stands = goes_on_to a.job (standing l.state l.room.buffer) (standing_of a.job a.arguments before.turns) _ turn by.stands before.stands reading;
        used = λ e. let u = before.used reading in omega arith;
      };
      numbered = omega (arith, by.numbered, l.invariant.numbered);
      inside = search rules;
      passes = passes;
      whole = none;
    }
