-- `listing::runs::run_lines` meets its contract.
use mathlib.Core.Path.{◌∙◌}
use native.Mathlib.Omega.{arith}
use lib.ListN.{length}
use Rattle.lines.proofs.Buffers.{put_in_part}
use Rattle.listing.proofs.Turns.{ready, turn, finish}
use Rattle.listing.proofs.runs.run_lines.Goals as goal

pub run_line-end-requires : goal.run_line-end-requires
run_line-end-requires c =
    let (state, size) = c.loop-run.invariant in
    let (cut, long) = c.in-Some.ensures.steps.1 in
    ready state _ _ cut (long ∙ size)

pub loop-run-preserved : goal.loop-run-preserved
loop-run-preserved c =
    let (state, size) = c.loop-run.invariant in
    let steps = c.in-Some.ensures.steps in
    let (cut, long) = steps.1 in
    let line = c.run_line-end in
    (turn state _ _ cut (long ∙ size) (omega (arith, line.ensures.upper_bound)) (put_in_part (length c.loop-run.text) line.ensures.put line.auto.text), steps.0 ∙ size)

pub returns-clause-put : goal.returns-clause-put
returns-clause-put c =
    let (state, size) = c.loop-run.invariant in
    (finish state (omega (arith, c.in-None.ensures.steps.1.0, size))).0
