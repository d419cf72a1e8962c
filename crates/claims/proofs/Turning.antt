-- Turning: the turned numbers are answered by the turned answer, refusals included.
use mathlib.Core.List.{List}
use mathlib.Core.Path.{refl}
use Prim.Native.Nat.{ℕ}
use lib.IntN.{ℤ, neg_ℤ, nat_abs}
use Rattle.whole.proofs.Signs.{nat_abs_neg}
use Rattle.parallel.specs.Table.{row_of}
use Rattle.parallel.specs.Parallel.{half_width}
use Rattle.parallel.specs.Latitude.{y_of}
use Rattle.refusal.specs.Outcome.{Rule, unless}
use Rattle.parallel.proofs.Heights.{y_turned}
use Rattle.projection.specs.Longitude.{difference_of}
use Rattle.projection.specs.Forward.{x_of, place_of}
use Rattle.projection.specs.Answer.{forward_order, forward_of}
use Rattle.projection.proofs.Places.{x_turned}
use Rattle.claims.specs.Demand3.{numbers, Alike, TurnedX, TurnedY}
use Rattle.claims.proofs.Refusals.{unless_given, same_refusals}

-- answers in a relation are alike after one and the same order of refusals
unless_alike : {A : Type 0} (R : A → A → Type 0) (order : List Rule) (p q : A) → R p q → Alike R (unless order p) (unless order q)
unless_alike R order p q h =
    record {
      refusals = same_refusals order p q;
      answers = λ s t e d. rw ((unless_given order p s e).1, (unless_given order q t d).1) h;
    }

pub forward_x : (kind : ℕ) (c l f : ℤ) → Alike (TurnedX numbers) (forward_of kind c l f) (forward_of kind (neg_ℤ c) (neg_ℤ l) f)
unfolding forward_of place_of
forward_x kind c l f =
    let r = row_of kind in
    rw (nat_abs_neg c, nat_abs_neg l)
    (unless_alike (TurnedX numbers) (forward_order kind c l f) (place_of r c l f) (place_of r (neg_ℤ c) (neg_ℤ l) f)
    (x_turned (half_width r (nat_abs f)) c l, refl))

pub forward_y : (kind : ℕ) (c l f : ℤ) → Alike (TurnedY numbers) (forward_of kind c l f) (forward_of kind c l (neg_ℤ f))
unfolding forward_of place_of
forward_y kind c l f =
    let r = row_of kind in
    let x = x_of (half_width r (nat_abs f)) (difference_of c l) in
    rw (nat_abs_neg f) (unless_alike (TurnedY numbers) (forward_order kind c l f) (place_of r c l f) (x, y_of r (neg_ℤ f)) (refl, y_turned r f))
