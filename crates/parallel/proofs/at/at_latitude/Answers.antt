-- `parallel::at::at_latitude` meets its contract: the number of a kind answers as its kind, and any other is refused by 1.
use mathlib.Core.Path.{◌∙◌}
use borrow.Author.Rules.{rules}
use mir.Facts.{to_z-of_z}
use Rattle.refusal.specs.Outcome.{unless}
use Rattle.parallel.specs.Answer.{on_latitude, at_latitude}
use Rattle.parallel.proofs.Numbered.{known, unknown}
use Rattle.parallel.proofs.at.at_latitude.Goals as goal

pub returns-in_err-try_from : goal.returns-in_err-try_from
unfolding at_latitude unless
returns-in_err-try_from c =
    let k = unknown c.args.kind c.in_err-try_from.field-0.0 c.in_err-try_from.ensures in
    rw k.0 (search rules)

pub returns : goal.returns
unfolding at_latitude on_latitude unless
returns c =
    let k = known c.args.kind c.in_ok-try_from.field-0 c.in_ok-try_from.ensures in
    rw (to_z-of_z c.ranges.latitude, k.1) at c.at_latitude.ensures ∙ rw k.0
