-- A place that a position had becomes the place that it has, where the old parallel kept longitudes apart.
use mathlib.Core.List.{List}
use mathlib.Core.Logic.{◌⊎◌, inl, inr, ◌≢◌}
use mathlib.Core.Path.{◌≡◌, refl, sym, ap, subst, ◌∙◌}
use Prim.Native.Nat.{ℕ, zero, suc, ◌+◌, ◌≤◌, ◌<◌}
use native.Mathlib.Omega.{arith}
use lib.Dec.{T}
use lib.IntN.{ℤ, pos, negsuc, nat_abs, ◌-ℤ◌}
use Rattle.whole.specs.Signed.{plus, minus}
use Rattle.whole.proofs.Signs.{Parts, parts, less, ext}
use Rattle.angle.specs.Angle.{N}
use Rattle.parallel.specs.declared.table.Row.{Row}
use Rattle.parallel.specs.Table.{neg, row_of}
use Rattle.parallel.specs.Parallel.{half_width}
use Rattle.refusal.specs.Outcome.{given}
use Rattle.parallel.specs.Refusal.{is_kind}
use Rattle.projection.specs.Longitude.{wrap, difference_of}
use Rattle.projection.specs.Forward.{place_of}
use Rattle.projection.specs.Answer.{forward_of}
use Rattle.projection.proofs.Longitudes.{Wrapped, stay, down, up, wrapped}
use Rattle.record.specs.Record.{kind_in, central_in, first_in, second_in}
use Rattle.reprojection.specs.Inside.{Formerly}
use Rattle.reprojection.specs.Reprojected.{position_in, reprojected}
use Rattle.reprojection.proofs.Places.{back_is}
use Rattle.claims.specs.Demand3.{numbers, SameAt, Returns}
use Rattle.claims.specs.Reprojection.{StoredPlace, old_row, PlaceOf, Reprojection}
use Rattle.claims.proofs.Accepted as accepted
use Rattle.claims.proofs.Returning.{forward_back}
use Rattle.claims.proofs.Reprojections.{kept, others, by_3, by_6, by_7, formerly, kind_good, moved, moves}

-- ---- the two ends of a parallel

-- what is linear in a central meridian c, and in the differences z of 180 east and y of 180 west from it
record Linear (c z y : ℤ) : Type 0 where
  c_some : 0 < nat_abs c
  c_le : nat_abs c ≤ N
  pc : Parts c
  pz : Parts z
  py : Parts y
  z_is : plus z + plus c ≡ minus z + (N + minus c)
  y_is : plus y + (N + plus c) ≡ minus y + minus c

by_cases : (c z y d b : ℤ) → Linear c z y → Wrapped z d → Wrapped y b → d ≡ b
by_cases c z y d b r (stay e f) (stay g h) = absurd (omega arith)
by_cases c z y d b r (stay e f) (down g h) = absurd (omega arith)
by_cases c z y d b r (stay e f) (up g h) = ext d b (omega arith)
by_cases c z y d b r (down e f) (stay g h) = ext d b (omega arith)
by_cases c z y d b r (down e f) (down g h) = absurd (omega arith)
by_cases c z y d b r (down e f) (up g h) = absurd (omega arith)
by_cases c z y d b r (up e f) w = absurd (omega arith)

-- with a central meridian that is not 0, 180 east and 180 west are one difference from it
ends_one : (c : ℤ) → 0 < nat_abs c → nat_abs c ≤ N → difference_of c (pos N) ≡ difference_of c (neg N)
ends_one c h k =
    let z = pos N -ℤ c in
    let y = neg N -ℤ c in
    by_cases c z y (wrap z) (wrap y)
    (record {
      c_some = h;
      c_le = k;
      pc = parts c;
      pz = parts z;
      py = parts y;
      z_is = omega (arith, less (pos N) c);
      y_is = omega (arith, less (neg N) c);
    })
    (wrapped z) (wrapped y)

an_end : (l : ℤ) → nat_abs l ≡ N → (l ≡ pos N) ⊎ (l ≡ neg N)
an_end (pos n) e = inl (ap pos e)
an_end (negsuc n) e = inr (ap negsuc (omega arith))

ends_alike : (c l m : ℤ) → 0 < nat_abs c → nat_abs c ≤ N → nat_abs l ≡ N → nat_abs m ≡ N → difference_of c l ≡ difference_of c m
ends_alike c l m h k e g = go (an_end l e) (an_end m g)
  where
    go : (l ≡ pos N) ⊎ (l ≡ neg N) → (m ≡ pos N) ⊎ (m ≡ neg N) → difference_of c l ≡ difference_of c m
    go (inl e) (inl g) = rw (e, g)
    go (inl e) (inr g) = rw (e, g) (ends_one c h k)
    go (inr e) (inl g) = rw (e, g) (sym (ends_one c h k))
    go (inr e) (inr g) = rw (e, g)

some : (c : ℤ) → c ≢ pos 0 → 0 < nat_abs c
some (pos zero) h = absurd (h refl)
some (pos (suc n)) h = omega arith
some (negsuc n) h = omega arith

-- ---- the place that a position had

one_place : (r : Row) (c l m f : ℤ) → difference_of c l ≡ difference_of c m → place_of r c l f ≡ place_of r c m f
unfolding place_of
one_place r c l m f d = rw d

-- longitudes that count as one have one place
same_place : (kind : ℕ) (c l m f : ℤ) → accepted.Position kind c l f → SameAt c m l → forward_of kind c l f ≡ forward_of kind c m f
same_place kind c l m f a (inl e) = rw e
same_place kind c l m f a (inr e) =
    let b : accepted.Position kind c m f = record { kind_good = a.kind_good; c_le = a.c_le; l_le = omega (arith, e.1); f_le = a.f_le } in
    let d = ends_alike c l m (some c e.0) a.c_le e.2 e.1 in
    accepted.accepts kind c l f a ∙ ap given (one_place (row_of kind) c l m f d) ∙ sym (accepted.accepts kind c m f b)

module _ (s : List ℕ) (l f : ℤ) (p : StoredPlace s) (c_le : nat_abs (central_in s) ≤ N) (q : PlaceOf s l f)
    (h : N ≤ half_width (old_row s) (nat_abs f)) where
  other : ℕ
  other = (formerly (kind_in s) p.kind_is).0

  had : Formerly (kind_in s) other
  unfolding other
  had = (formerly (kind_in s) p.kind_is).1

  here : (kind : ℕ) → T (is_kind kind) → accepted.Position kind (central_in s) l f
  here kind t = record { kind_good = t; c_le = c_le; l_le = q.longitude_le; f_le = q.latitude_le }

  -- under the old row the place goes back to where it came from
  was : Returns numbers other (central_in s) l f (first_in s) (second_in s)
  was =
      forward_back other (central_in s) l f (first_in s) (second_in s)
      (accepted.accepts other (central_in s) l f (here other (subst T (sym had.is_kind_lem) tt)) ∙ rw had.row_is (ap given q.place_is))

  back_there : position_in s ≡ given (was.longitude, was.latitude)
  unfolding position_in
  back_there = sym (back_is had (central_in s) (first_in s) (second_in s)) ∙ was.accepted

  follows : forward_of (kind_in s) (central_in s) l f ≡ given (first_in (reprojected s), second_in (reprojected s))
  follows =
      same_place (kind_in s) (central_in s) l was.longitude f (here (kind_in s) (kind_good (kind_in s) p.kind_is))
      (was.same.longitude_same (rw had.row_is h))
      ∙ ap (forward_of (kind_in s) (central_in s) was.longitude) (sym was.same.latitude_same)
      ∙ (moved s p was.longitude was.latitude back_there).forward

pub reprojection : Reprojection
reprojection = record { kept = kept; others = others; by_3 = by_3; by_6 = by_6; by_7 = by_7; moves = moves; follows = follows }
