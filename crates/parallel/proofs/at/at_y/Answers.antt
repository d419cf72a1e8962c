-- `parallel::at::at_y` meets its contract: the number of a kind answers as its kind, and any other is refused by 1.
use mathlib.Core.Path.{◌∙◌}
use borrow.Author.Rules.{rules}
use mir.Facts.{to_z-of_z}
use Rattle.refusal.specs.Outcome.{unless}
use Rattle.parallel.specs.Answer.{found_on, at_y}
use Rattle.parallel.proofs.Numbered.{known, unknown}
use Rattle.parallel.proofs.at.at_y.Goals as goal

pub returns-in_err-try_from : goal.returns-in_err-try_from
unfolding at_y unless
returns-in_err-try_from c =
    let k = unknown c.args.kind c.in_err-try_from.field-0.0 c.in_err-try_from.ensures in
    rw k.0 (search rules)

pub returns : goal.returns
unfolding at_y found_on unless
returns c =
    let k = known c.args.kind c.in_ok-try_from.field-0 c.in_ok-try_from.ensures in
    rw (to_z-of_z c.ranges.y, k.1) at c.at_y.ensures ∙ rw k.0
