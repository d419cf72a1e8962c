-- Back and forward: the position of an accepted place is accepted, and comes back to within 2 units.
use mathlib.Core.Logic.{◌⊎◌, inl, inr, ◌≢◌}
use mathlib.Core.Path.{◌≡◌, sym, ap, subst}
use Prim.Native.Nat.{ℕ, zero, suc, ◌+◌, ◌*◌, ◌≤◌, ◌<◌}
use native.Mathlib.Omega.{arith}
use lib.IntN.{ℤ, pos, nat_abs, ◌+ℤ◌, ◌-ℤ◌, +ℤ_comm}
use Rattle.whole.specs.Nearest.{nearest}
use Rattle.whole.proofs.Rounding.{near}
use Rattle.whole.proofs.Scales.{back_within}
use Rattle.whole.proofs.Signs.{nat_abs_on, on_within}
use Rattle.angle.specs.Angle.{N, H}
use Rattle.parallel.specs.declared.table.Row.{Row}
use Rattle.parallel.specs.Table.{row_of}
use Rattle.parallel.specs.Parallel.{half_width, height}
use Rattle.parallel.specs.Latitude.{y_of}
use Rattle.parallel.specs.Latitude.{latitude_size, latitude_at, width_at}
use Rattle.refusal.specs.Outcome.{given}
use Rattle.parallel.specs.Columns.{Columns}
use Rattle.parallel.proofs.Rows.{columns}
use Rattle.parallel.proofs.Scales.{scaled_zero, unscaled_le}
use Rattle.parallel.proofs.Heights.{y_on, height_zero, height_le}
use Rattle.parallel.proofs.Heights.{latitude_le, found_small}
use Rattle.projection.specs.Longitude.{wrap, difference_of, longitude_of}
use Rattle.projection.specs.Forward.{x_of, place_of}
use Rattle.projection.specs.Inverse.{difference_at, position_of}
use Rattle.projection.specs.Answer.{inverse_of}
use Rattle.projection.proofs.Longitudes.{longitude_le}
use Rattle.projection.proofs.Places.{x_on}
use Rattle.projection.proofs.Found.{difference_on}
use Rattle.claims.specs.Demand3.{numbers, Close, Resends}
use Rattle.claims.proofs.Accepted.{Position, accepts, Place, place}
use Rattle.claims.proofs.Returning.{not_zero}
use Rattle.claims.proofs.Wraps.{Ends, there_and_back}

-- a pointed pole too: there w is 0, and so is x
size_close : (w x : ℕ) → x ≤ w → w < 5 * N →
    (nearest (w * nearest (x * N) w) N ≤ x + 2) × (x ≤ nearest (w * nearest (x * N) w) N + 2)
size_close zero x h l = let z = near (0 * nearest (x * N) 0) N (omega arith) in (omega arith, omega arith)
size_close (suc w) x h l =
    let d = nearest (x * N) (suc w) in
    back_within N (suc w) x d (nearest (suc w * d) N) l (near (x * N) (suc w) (omega arith)) (near (suc w * d) N (omega arith))

module _ (kind : ℕ) (c x y : ℤ) (p : Place kind c x y) where
  abbrev r : Row
  r = row_of kind

  abbrev w : ℕ
  w = width_at r y

  abbrev d : ℤ
  d = difference_at w x

  abbrev l : ℤ
  l = longitude_of c d

  abbrev f : ℤ
  f = latitude_at r y

  cols : Columns r
  cols = columns kind p.kind_good

  latitude_size_lem : nat_abs f ≡ latitude_size r (nat_abs y)
  unfolding latitude_at
  latitude_size_lem = nat_abs_on (latitude_size r) y

  size_low : latitude_size r (nat_abs y) ≤ H
  size_low = latitude_le r cols (nat_abs y) p.y_le

  width_same : half_width r (nat_abs f) ≡ w
  unfolding width_at
  width_same = ap (half_width r) latitude_size_lem

  width_below : w < 5 * N
  width_below = found_small r cols y p.y_le

  d_le : nat_abs d ≤ N
  d_le = rw (difference_on w x, nat_abs_on (λ (n : ℕ). nearest (n * N) w) x) (unscaled_le w (nat_abs x) p.x_le)

  here : Position kind c l f
  here = record { kind_good = p.kind_good; c_le = p.c_le; l_le = longitude_le c d p.c_le d_le; f_le = rw latitude_size_lem size_low }

  height_close : (height r (latitude_size r (nat_abs y)) ≤ nat_abs y + 2) × (nat_abs y ≤ height r (latitude_size r (nat_abs y)) + 2)
  unfolding latitude_size height
  height_close = size_close r.ky (nat_abs y) (omega (arith, height_le r H (omega arith))) cols.ky_high

  y_close : Close (y_of r f) y
  unfolding latitude_at
  y_close = rw (y_on r f) (omega (arith, on_within (latitude_size r) (height r) 2 (height_zero r) y height_close))

  x_again : Close (x_of w d) x
  x_again =
      let back : ℕ → ℕ = λ n. nearest (n * N) w in
      let again : ℕ → ℕ = λ n. nearest (w * n) N in
      let b = size_close w (nat_abs x) p.x_le width_below in
      rw (x_on w d, difference_on w x) (omega (arith, on_within back again 2 (scaled_zero w) x b))

  x_close : Close (x_of (half_width r (nat_abs f)) (difference_of c l)) x ⊎ ((nat_abs d ≡ N) × (c ≢ pos 0))
  x_close = rw (width_same, +ℤ_comm c d) (go (there_and_back d c d_le p.c_le))
    where
      go : (wrap (wrap (d +ℤ c) -ℤ c) ≡ d) ⊎ Ends d c (wrap (wrap (d +ℤ c) -ℤ c)) →
          Close (x_of w (wrap (wrap (d +ℤ c) -ℤ c))) x ⊎ ((nat_abs d ≡ N) × (c ≢ pos 0))
      go (inl e) = inl (rw e x_again)
      go (inr e) = inr (e.first, not_zero c e.moved)

  resends : Resends numbers kind c x y l f
  unfolding place_of
  resends =
      record {
        x' = x_of (half_width r (nat_abs f)) (difference_of c l);
        y' = y_of r f;
        accepted = accepts kind c l f here;
        close = record { y_close = y_close; x_close = x_close };
      }

pub back_forward : (kind : ℕ) (c x y l f : ℤ) → inverse_of kind c x y ≡ given (l, f) → Resends numbers kind c x y l f
unfolding position_of
back_forward kind c x y l f e =
    let t = place kind c x y (l, f) e in
    subst (λ (q : ℤ × ℤ). Resends numbers kind c x y q.0 q.1) (sym t.1) (resends kind c x y t.0)
