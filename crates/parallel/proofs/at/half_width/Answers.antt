-- `parallel::at::half_width` meets its contract: it hands on what the parallel answers.
use mathlib.Core.Path.{◌≡◌, ap, ◌∙◌}
use Prim.Native.Nat.{ℕ}
use borrow.Author.Rules.{rules}
use lib.IntN.{ℤ, nat_abs}
use mir.Facts.{to_z-of_z}
use Rattle.parallel.specs.Table.{row_of}
use Rattle.parallel.specs.Parallel.{half_width}
use Rattle.parallel.specs.Latitude.{y_of}
use Rattle.refusal.specs.Outcome.{Outcome, on_given}
use Rattle.parallel.specs.Answer.{width_order, width_of, at_latitude}
use Rattle.parallel.proofs.Orders.{on_unless}
use Rattle.parallel.proofs.at.half_width.Goals as goal

-- the half-width of a parallel
abbrev width : Outcome (ℕ × ℤ) → Outcome ℕ
width = on_given (λ (p : ℕ × ℤ). p.0)

width_at : (kind : ℕ) (latitude : ℤ) → width (at_latitude kind latitude) ≡ width_of kind latitude
unfolding at_latitude width_of
width_at kind latitude =
    on_unless (λ (p : ℕ × ℤ). p.0) (width_order kind latitude) (half_width (row_of kind) (nat_abs latitude), y_of (row_of kind) latitude)

answered : (kind : ℕ) (latitude : ℤ) (o : Outcome (ℕ × ℤ)) → o ≡ at_latitude kind latitude → width o ≡ width_of kind latitude
answered kind latitude o e = ap width e ∙ width_at kind latitude

pub returns-in_err-w : goal.returns-in_err-w
returns-in_err-w c =
    let e = answered c.args.kind c.args.latitude _ (rw (to_z-of_z c.ranges.latitude) at c.in_err-w.ensures) in
    search rules

pub returns : goal.returns
returns c = answered c.args.kind c.args.latitude _ (rw (to_z-of_z c.ranges.latitude) at c.in_ok-w.ensures)
