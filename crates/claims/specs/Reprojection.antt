-- What becomes of a record when it is reprojected, by order 2 and document 01's rules.
use Rattle.std.specs.Prelude.{List, ◌⊎◌, ◌≡◌, ℕ, ◌≤◌, ◌<◌, ℤ, nat_abs, length, get_or, take}
use Rattle.angle.specs.Angle.{N, H}
use Rattle.parallel.specs.declared.table.Row.{Row}
use Rattle.parallel.specs.Parallel.{half_width}
use Rattle.parallel.specs.Latitude.{width_at}
use Rattle.refusal.specs.Outcome.{given}
use Rattle.projection.specs.Forward.{place_of}
use Rattle.projection.specs.Inverse.{position_of}
use Rattle.projection.specs.Answer.{forward_of}
use Rattle.record.specs.Record.{kind_in, form_in, central_in, first_in, second_in}
use Rattle.record.specs.Answer.{convert_of}
use Rattle.reprojection.specs.Retired.{retired_row}
use Rattle.reprojection.specs.Reprojected.{reprojected}
use Rattle.claims.specs.Demand3.{numbers, Returns}

-- a record with the mark, which holds a place of kind 3 or 4
pub record StoredPlace (s : List ℕ) : Type 0 where
  pub length_is : length s ≡ 16
  pub mark_0 : get_or s 0 0 ≡ 0x4D
  pub mark_1 : get_or s 1 0 ≡ 0xD2
  pub kind_is : (get_or s 2 0 ≡ 3) ⊎ (get_or s 2 0 ≡ 4)
  pub form_is : get_or s 3 0 ≡ 1

-- the row that its kind had
abbrev pub old_row : List ℕ → Row
old_row s = retired_row (kind_in s)

-- the old row accepts it: what 3, 6, 18, 7 and 17 are given for is not so. The pole's y is the same for both kinds, then and now
pub record Accepted (s : List ℕ) : Type 0 where
  pub central_le : nat_abs (central_in s) ≤ 64800000
  pub y_le : nat_abs (second_in s) ≤ 148825098
  pub x_le : nat_abs (first_in s) ≤ width_at (old_row s) (second_in s)

-- its position under the old row
abbrev pub position : List ℕ → ℤ × ℤ
position s = position_of (old_row s) (central_in s) (first_in s) (second_in s)

-- r is the record s but for its place, which the last 8 of 16 bytes hold: mark, kind, form and central meridian are the same
pub record OtherPlace (s r : List ℕ) : Type 0 where
  pub length_same : length r ≡ length s
  pub first_8_same : take 8 r ≡ take 8 s
  pub mark_same : take 2 r ≡ take 2 s
  pub kind_same : kind_in r ≡ kind_in s
  pub form_same : form_in r ≡ form_in s
  pub central_same : central_in r ≡ central_in s

-- s became r, which has the place that forward gives the position (l, f). Inverse accepts that place, and its position is (l, f) as
-- far as demand 3 says it of every position: the same latitude and, where the new parallel's half-width is 64,800,000 or more, the
-- same longitude
pub record Moved (s r : List ℕ) (l f : ℤ) : Type 0 where
  pub forward : forward_of (kind_in s) (central_in s) l f ≡ given (first_in r, second_in r)
  pub returns : Returns numbers (kind_in s) (central_in s) l f (first_in r) (second_in r)
  pub accepted : convert_of r 16 ≡ given (returns.longitude, returns.latitude)

-- a record holds the place that a position (l, f) had under the old row
pub record PlaceOf (s : List ℕ) (l f : ℤ) : Type 0 where
  pub longitude_le : nat_abs l ≤ N
  pub latitude_le : nat_abs f ≤ H
  pub place_is : place_of (old_row s) (central_in s) l f ≡ (first_in s, second_in s)

pub record Reprojection : Type 0 where
  -- whatever becomes of it, a record keeps mark, kind, form and central meridian
  pub kept : (s : List ℕ) → OtherPlace s (reprojected s)
  -- all other records stay: other kinds, positions, another mark or form, and what is not of 16 bytes
  pub others : (s : List ℕ) → (StoredPlace s → ⊥) → reprojected s ≡ s
  -- and so do the places that the old row refuses: by 3, by 6 or 18, by 7 or 17
  pub by_3 : (s : List ℕ) → 64800000 < nat_abs (central_in s) → reprojected s ≡ s
  pub by_6 : (s : List ℕ) → 148825098 < nat_abs (second_in s) → reprojected s ≡ s
  pub by_7 : (s : List ℕ) → width_at (old_row s) (second_in s) < nat_abs (first_in s) → reprojected s ≡ s
  -- every other place of kind 3 or 4 goes back under the old row and forward under the new one
  pub moves : (s : List ℕ) → StoredPlace s → Accepted s → Moved s (reprojected s) (position s).0 (position s).1
  -- a place that a position had, on a parallel that kept longitudes apart, becomes the place that this position has now
  pub follows : (s : List ℕ) (l f : ℤ) → StoredPlace s → nat_abs (central_in s) ≤ N → PlaceOf s l f →
      N ≤ half_width (old_row s) (nat_abs f) →
      forward_of (kind_in s) (central_in s) l f ≡ given (first_in (reprojected s), second_in (reprojected s))
