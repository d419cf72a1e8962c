-- Either side of each line of demand 3, and its exceptions: by computing.
use mathlib.Core.Logic.{inl, inr, ◌≢◌, ⊎_elim}
use mathlib.Core.Path.{◌≡◌, refl, ap}
use Prim.Native.Nat.{ℕ}
use native.Mathlib.Omega.{arith}
use lib.IntN.{ℤ, pos, nat_abs, ◌+ℤ◌, ◌-ℤ◌}
use Rattle.whole.specs.Nearest.{nearest, carry}
use Rattle.whole.specs.Signed.{plus}
use Rattle.whole.proofs.Signs.{parts, sum, less}
use Rattle.parallel.specs.Table.{rows, row_of}
use Rattle.parallel.specs.Parallel.{radicand, q_by, q_at, one_by, one_of, numerator, half_width, height}
use Rattle.parallel.specs.Latitude.{y_of, latitude_size, latitude_at, width_at}
use Rattle.refusal.specs.Outcome.{unless}
use Rattle.parallel.specs.Refusal.{is_kind}
use Rattle.parallel.specs.Answer.{width_of}
use Rattle.projection.specs.Longitude.{wrap}
use Rattle.projection.specs.Forward.{x_of, place_of}
use Rattle.projection.specs.Inverse.{difference_at, position_of}
use Rattle.projection.specs.Answer.{forward_of, inverse_of}
use Rattle.claims.specs.Sharp.{Sharp}

-- z + n and z are n apart
above : (z : ℤ) (n : ℕ) → nat_abs (z +ℤ pos n -ℤ z) ≡ n
above z n =
    let s = sum z (pos n) in
    let d = less (z +ℤ pos n) z in
    let p = parts (z +ℤ pos n -ℤ z) in
    omega arith

below : (z : ℤ) (n : ℕ) → nat_abs (z -ℤ (z +ℤ pos n)) ≡ n
below z n =
    let s = sum z (pos n) in
    let d = less z (z +ℤ pos n) in
    let p = parts (z -ℤ (z +ℤ pos n)) in
    omega arith

-- numbers of different positive parts differ
differ : {a b : ℤ} → plus a ≢ plus b → a ≢ b
differ h e = h (ap plus e)

pub sharp : Sharp
unfolding width_of forward_of inverse_of unless is_kind place_of x_of y_of position_of latitude_at latitude_size width_at difference_at
    height wrap row_of rows half_width numerator one_of one_by q_at radicand q_by nearest carry
sharp =
    record {
      close = λ z. (rw (above z 2) (omega arith), rw (below z 2) (omega arith));
      not_close = λ z. (λ h. let e = above z 3 in omega arith, λ h. let e = below z 3 in omega arith);
      one_self = λ l. inl refl;
      one = (inr (refl, refl), inr (refl, refl));
      one_only = λ l m h. ⊎_elim (λ e. e) (λ e. absurd (h e.0));
      not_one = (⊎_elim (differ (omega arith)) (omega arith), ⊎_elim (differ (omega arith)) (omega arith));
      same = inr (differ (omega arith), refl, refl);
      same_only = λ c m l h. ⊎_elim (λ e. e) (λ e. absurd (h e.1));
      same_at_0 = λ m l. ⊎_elim (λ e. e) (λ e. absurd (e.0 refl));
      not_same = (⊎_elim (differ (omega arith)) (λ e. omega arith), ⊎_elim (differ (omega arith)) (λ e. omega arith));
      wide = refl;
      longitude_held = λ s. ⊎_elim (differ (omega arith)) (λ e. omega arith) (s.longitude_same (omega arith));
      latitude_held = λ s. differ (omega arith) s.latitude_same;
      narrow = refl;
      narrow_moves = record { forward = refl; back = refl };
      pole_moves = record { forward = refl; back = refl };
      west_as_east = record { forward = refl; back = refl };
      east_as_west = record { forward = refl; back = refl };
      moves_2 = record { back = refl; forward = refl };
      moves_2_below = record { back = refl; forward = refl };
      other_edge = record { back = refl; forward = refl };
      x_held = λ s. ⊎_elim (λ h. omega arith) (λ e. omega arith) s.x_close;
      x_held_at_0 = λ s. ⊎_elim (λ h. omega arith) (λ e. e.1 refl) s.x_close;
      y_held = λ s. omega (arith, s.y_close);
    }
