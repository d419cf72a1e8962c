-- Sharing: on a parallel narrower than N, two different meridians have one place.
use mathlib.Core.Logic.{inl, inr}
use mathlib.Core.Path.{◌≡◌, refl, sym, ap, ◌∙◌}
use Prim.Native.Nat.{ℕ, zero, suc, ◌*◌, ◌≤◌, ◌<◌}
use native.Mathlib.Omega.{arith}
use lib.IntN.{ℤ, pos, negsuc, neg_ℤ, nat_abs, ◌+ℤ◌, ◌-ℤ◌, +ℤ_comm, +ℤ-neg_ℤ_cancel, neg_ℤ-neg_ℤ}
use Rattle.whole.specs.Nearest.{nearest}
use Rattle.whole.specs.Signed.{plus, minus}
use Rattle.whole.proofs.Scales.{share}
use Rattle.whole.proofs.Signs.{parts, sum, nat_abs_neg}
use Rattle.angle.specs.Angle.{N}
use Rattle.parallel.specs.declared.table.Row.{Row}
use Rattle.parallel.specs.Table.{row_of}
use Rattle.parallel.specs.Parallel.{half_width}
use Rattle.refusal.specs.Outcome.{given}
use Rattle.projection.specs.Longitude.{wrap, difference_of}
use Rattle.projection.specs.Forward.{x_of, place_of}
use Rattle.projection.specs.Answer.{forward_of}
use Rattle.projection.proofs.Longitudes.{wrap_near}
use Rattle.projection.proofs.Places.{x_on, x_turned}
use Rattle.claims.specs.Demand3.{numbers, OneMeridian, Shares}
use Rattle.claims.proofs.Accepted.{position, accepts}

-- two longitudes of different meridians with one x
record Pair (r : Row) (c f : ℤ) : Type 0 where
  first : ℤ
  second : ℤ
  first_le : nat_abs first ≤ N
  second_le : nat_abs second ≤ N
  different : OneMeridian first second → ⊥
  same : x_of (half_width r (nat_abs f)) (difference_of c first) ≡ x_of (half_width r (nat_abs f)) (difference_of c second)

add_sub : (c z : ℤ) → c +ℤ z -ℤ c ≡ z
add_sub c z = ap (λ (t : ℤ). t -ℤ c) (+ℤ_comm c z) ∙ +ℤ-neg_ℤ_cancel z c

-- east of a central meridian that is not above 0
module _ (c : ℤ) (c_le : nat_abs c ≤ N) (west : plus c ≡ 0) where
  east_le : (d : ℕ) → d ≤ N → nat_abs (c +ℤ pos d) ≤ N
  east_le d h = let s = sum c (pos d) in let p = parts (c +ℤ pos d) in let q = parts c in omega arith

  neighbours : (d : ℕ) → OneMeridian (c +ℤ pos d) (c +ℤ pos (suc d)) → ⊥
  neighbours d (inl e) =
      let s = sum c (pos d) in
      let t = sum c (pos (suc d)) in
      let p = ap plus e in
      let m = ap minus e in
      omega arith
  neighbours d (inr e) =
      let s = sum c (pos d) in
      let t = sum c (pos (suc d)) in
      let p = parts (c +ℤ pos d) in
      let q = parts (c +ℤ pos (suc d)) in
      omega arith

  x_east : (w d : ℕ) → d ≤ N → x_of w (difference_of c (c +ℤ pos d)) ≡ pos (nearest (w * d) N)
  x_east w d h = ap (x_of w) (ap wrap (add_sub c (pos d)) ∙ wrap_near (pos d) h) ∙ x_on w (pos d)

  east_pair : (r : Row) (f : ℤ) → half_width r (nat_abs f) < N → Pair r c f
  east_pair r f h =
      let w = half_width r (nat_abs f) in
      let s = share N w (omega arith) h in
      let d = s.0 in
      let l : d < N = s.1 in
      record {
        first = c +ℤ pos d;
        second = c +ℤ pos (suc d);
        first_le = east_le d (omega arith);
        second_le = east_le (suc d) l;
        different = neighbours d;
        same = x_east w d (omega arith) ∙ ap pos s.2 ∙ sym (x_east w (suc d) l);
      }

turn_different : (l m : ℤ) → (OneMeridian l m → ⊥) → OneMeridian (neg_ℤ l) (neg_ℤ m) → ⊥
turn_different l m h (inl e) = h (inl (sym (neg_ℤ-neg_ℤ l) ∙ ap neg_ℤ e ∙ neg_ℤ-neg_ℤ m))
turn_different l m h (inr e) = h (inr (rw (nat_abs_neg l) at e.0, rw (nat_abs_neg m) at e.1))

-- a pair turned with its central meridian
turn_pair : (r : Row) (c f : ℤ) → Pair r c f → Pair r (neg_ℤ c) f
turn_pair r c f p =
    let w = half_width r (nat_abs f) in
    record {
      first = neg_ℤ p.first;
      second = neg_ℤ p.second;
      first_le = rw (nat_abs_neg p.first) p.first_le;
      second_le = rw (nat_abs_neg p.second) p.second_le;
      different = turn_different p.first p.second p.different;
      same = x_turned w c p.first ∙ ap neg_ℤ p.same ∙ sym (x_turned w c p.second);
    }

pair : (r : Row) (c f : ℤ) → nat_abs c ≤ N → half_width r (nat_abs f) < N → Pair r c f
pair r (negsuc n) f h k = east_pair (negsuc n) h refl r f k
pair r (pos zero) f h k = east_pair (pos 0) h refl r f k
pair r (pos (suc n)) f h k = turn_pair r (negsuc n) f (east_pair (negsuc n) h refl r f k)

pub sharing : (kind : ℕ) (c l f : ℤ) (p : ℤ × ℤ) → forward_of kind c l f ≡ given p → half_width (row_of kind) (nat_abs f) < N →
    Shares numbers kind c f
unfolding place_of
sharing kind c l f p e h =
    let a = (position kind c l f p e).0 in
    let r = row_of kind in
    let t = pair r c f a.c_le h in
    record {
      first = t.first;
      second = t.second;
      different = t.different;
      place₁ = place_of r c t.first f;
      place₂ = place_of r c t.second f;
      accepted₁ = accepts kind c t.first f (record { kind_good = a.kind_good; c_le = a.c_le; l_le = t.first_le; f_le = a.f_le });
      accepted₂ = accepts kind c t.second f (record { kind_good = a.kind_good; c_le = a.c_le; l_le = t.second_le; f_le = a.f_le });
      same_x = t.same;
      same_y = refl;
    }
