-- What the tests of a call say of what it was handed, and what the parallel leaves to answer.
use mathlib.Core.Bool.{Bool}
use mathlib.Core.Path.{◌≡◌, ap, ◌∙◌}
use Prim.Native.Nat.{ℕ}
use lib.IntN.{ℤ}
use mir.Syntax.{w32}
use mir.Val.{SFits, to_z, of_z}
use Rattle.whole.specs.declared.Signed.{Signed}
use Rattle.whole.specs.Signed.{split_of, join_of}
use Rattle.angle.specs.Angle.{outside}
use Rattle.angle.proofs.Judged.{number_is}
use Rattle.refusal.specs.Outcome.{Outcome, on_given, and_then}
use Rattle.parallel.specs.Refusal.{bad_kind}
use Rattle.parallel.specs.declared.table.Row.{Row}
use Rattle.parallel.specs.declared.kind.Kind.{Kind}
use Rattle.parallel.specs.Kind.{number_of}
use Rattle.parallel.specs.Table.{row_of}
use Rattle.parallel.specs.Answer.{on_latitude, found_on}
use Rattle.parallel.proofs.Orders.{Passes}
use Rattle.parallel.proofs.Answers.{Small, on_latitude_small}
use Rattle.projection.specs.Refusal.{bad_central, bad_longitude}
use Rattle.projection.specs.Answer.{forward_of, inverse_of}
use Rattle.projection.proofs.Orders.{place_on, position_on, forward_parallel, inverse_parallel}

-- an angle that was judged is the number handed in, which passes its refusal
pub judged : (n : ℕ) {z : ℤ} (s : Signed) {b : Bool} → SFits w32 z → s ≡ split_of (to_z w32 (of_z w32 z)) → outside n (join_of s) ≡ b →
    outside n z ≡ b
judged n s f e h = rw (number_is s f e) at h

-- the answers by what the parallel answered
pub forward_by : (kind : ℕ) (central longitude latitude : ℤ) {r : Row} (o : Outcome (ℕ × ℤ)) → o ≡ on_latitude r latitude →
    r ≡ row_of kind → Passes (bad_kind kind) → Passes (bad_central central) → Passes (bad_longitude longitude) →
    on_given (place_on central longitude) o ≡ forward_of kind central longitude latitude
forward_by kind central longitude latitude o e n k c l =
    ap (on_given (place_on central longitude)) (e ∙ ap (λ (r : Row). on_latitude r latitude) n)
    ∙ forward_parallel kind central longitude latitude k c l

pub inverse_by : (kind : ℕ) (central x y : ℤ) {r : Row} (o : Outcome (ℕ × ℤ)) → o ≡ found_on r y → r ≡ row_of kind →
    Passes (bad_kind kind) → Passes (bad_central central) → and_then (position_on central x) o ≡ inverse_of kind central x y
inverse_by kind central x y o e n k c =
    ap (and_then (position_on central x)) (e ∙ ap (λ (r : Row). found_on r y) n) ∙ inverse_parallel kind central x y k c

pub small_by : (kind : Kind) (latitude : ℤ) (o : Outcome (ℕ × ℤ)) → o ≡ on_latitude (row_of (number_of kind)) latitude → Small o
small_by kind latitude o e = rw e (on_latitude_small kind latitude)
