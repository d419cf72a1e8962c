-- Forward and back: the place of an accepted position is accepted, and comes back to where it was.
use mathlib.Core.Logic.{◌⊎◌, inl, inr, ◌≢◌}
use mathlib.Core.Path.{◌≡◌, sym, ap, subst, ◌∙◌}
use Prim.Native.Nat.{ℕ, ◌*◌, ◌≤◌, ◌<◌}
use native.Mathlib.Omega.{arith}
use lib.IntN.{ℤ, pos, neg_ℤ, nat_abs, ◌+ℤ◌, ◌-ℤ◌, +ℤ_comm, neg_ℤ-neg_ℤ}
use Rattle.whole.specs.Nearest.{nearest}
use Rattle.whole.specs.Signed.{on_size}
use Rattle.whole.proofs.Rounding.{near}
use Rattle.whole.proofs.Scales.{return}
use Rattle.whole.proofs.Signs.{nat_abs_neg, nat_abs_on, on_back}
use Rattle.angle.specs.Angle.{N}
use Rattle.parallel.specs.declared.table.Row.{Row}
use Rattle.parallel.specs.Table.{row_of}
use Rattle.parallel.specs.Parallel.{half_width, height}
use Rattle.parallel.specs.Latitude.{y_of}
use Rattle.parallel.specs.Latitude.{latitude_size, latitude_at, width_at}
use Rattle.refusal.specs.Outcome.{given}
use Rattle.parallel.specs.Columns.{Columns}
use Rattle.parallel.proofs.Rows.{columns}
use Rattle.parallel.proofs.Scales.{scaled_le, unscaled_zero}
use Rattle.parallel.proofs.Heights.{y_on, height_mono}
use Rattle.parallel.proofs.Heights.{latitude_zero}
use Rattle.projection.specs.Longitude.{wrap, difference_of, longitude_of}
use Rattle.projection.specs.Forward.{x_of, place_of}
use Rattle.projection.specs.Inverse.{difference_at, position_of}
use Rattle.projection.specs.Answer.{forward_of}
use Rattle.projection.proofs.Longitudes.{difference_le}
use Rattle.projection.proofs.Places.{x_on}
use Rattle.projection.proofs.Found.{difference_on}
use Rattle.claims.specs.Demand3.{numbers, SameAt, Returns}
use Rattle.claims.proofs.Accepted.{Position, position, Place, admits}
use Rattle.claims.proofs.Wraps.{Ends, there_and_back}

-- on a scale of N or more, a size comes back
size_back : (w d : ℕ) → N ≤ w → nearest (nearest (w * d) N * N) w ≡ d
size_back w d h =
    return N w d (nearest (w * d) N) (nearest (nearest (w * d) N * N) w) (omega arith) h (near (w * d) N (omega arith))
    (near (nearest (w * d) N * N) w (omega arith))

pub not_zero : (c : ℤ) → 0 < nat_abs c → c ≢ pos 0
not_zero c h e = let z = ap nat_abs e in omega arith

module _ (kind : ℕ) (c l f : ℤ) (p : Position kind c l f) where
  abbrev r : Row
  r = row_of kind

  abbrev w : ℕ
  w = half_width r (nat_abs f)

  abbrev d : ℤ
  d = difference_of c l

  abbrev x : ℤ
  x = x_of w d

  abbrev y : ℤ
  y = y_of r f

  cols : Columns r
  cols = columns kind p.kind_good

  y_size : nat_abs y ≡ height r (nat_abs f)
  y_size = ap nat_abs (y_on r f) ∙ nat_abs_on (height r) f

  size_comes_back : latitude_size r (height r (nat_abs f)) ≡ nat_abs f
  unfolding latitude_size height
  size_comes_back = size_back r.ky (nat_abs f) (omega (arith, cols.ky_low))

  latitude_back : latitude_at r y ≡ f
  unfolding latitude_at
  latitude_back = ap (on_size (latitude_size r)) (y_on r f) ∙ on_back (height r) (latitude_size r) (latitude_zero r) f size_comes_back

  width_same : width_at r y ≡ w
  unfolding width_at
  width_same = ap (λ (n : ℕ). half_width r (latitude_size r n)) y_size ∙ ap (half_width r) size_comes_back

  d_le : nat_abs d ≤ N
  d_le = difference_le c l p.c_le p.l_le

  x_fits : nat_abs x ≤ width_at r y
  x_fits = rw (width_same, x_on w d, nat_abs_on (λ (n : ℕ). nearest (w * n) N) d) (scaled_le w (nat_abs d) d_le)

  there : Place kind c x y
  there = record { kind_good = p.kind_good; c_le = p.c_le; y_le = rw y_size (height_mono r p.f_le); x_le = x_fits }

  difference_back : N ≤ w → difference_at (width_at r y) x ≡ d
  difference_back h =
      rw (width_same, difference_on w x, x_on w d)
      (on_back (λ (n : ℕ). nearest (w * n) N) (λ (n : ℕ). nearest (n * N) w) (unscaled_zero w) d (size_back w (nat_abs d) h))

  longitude_same : N ≤ w → SameAt c (longitude_of c (difference_at (width_at r y) x)) l
  longitude_same h = rw (difference_back h, +ℤ_comm c d) (go (there_and_back l (neg_ℤ c) p.l_le (rw (nat_abs_neg c) p.c_le)))
    where
      go : (wrap (wrap (l +ℤ neg_ℤ c) -ℤ neg_ℤ c) ≡ l) ⊎ Ends l (neg_ℤ c) (wrap (wrap (l +ℤ neg_ℤ c) -ℤ neg_ℤ c)) →
          SameAt c (wrap (wrap (l -ℤ c) +ℤ c)) l
      go (inl e) = inl (rw (neg_ℤ-neg_ℤ c) at e)
      go (inr e) = inr (not_zero c (rw (nat_abs_neg c) at e.moved), rw (neg_ℤ-neg_ℤ c) at e.last, e.first)

  returns : Returns numbers kind c l f x y
  unfolding position_of
  returns =
      record {
        longitude = longitude_of c (difference_at (width_at r y) x);
        latitude = latitude_at r y;
        accepted = admits kind c x y there;
        same = record { latitude_same = latitude_back; longitude_same = longitude_same };
      }

pub forward_back : (kind : ℕ) (c l f x y : ℤ) → forward_of kind c l f ≡ given (x, y) → Returns numbers kind c l f x y
unfolding place_of
forward_back kind c l f x y e =
    let t = position kind c l f (x, y) e in
    subst (λ (q : ℤ × ℤ). Returns numbers kind c l f q.0 q.1) (sym t.1) (returns kind c l f t.0)
