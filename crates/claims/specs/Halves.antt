-- Order 8, halves go to the even neighbour, in each number that is rounded. The rule itself is in `Arithmetic`, P1 to P12 with it in
-- `Examples`.
use Rattle.std.specs.Prelude.{Bool, true, false, [], ◌∷◌, map, ◌≢◌, ◌≡◌, ℕ, suc, ◌+◌, ◌-◌, ◌*◌, ◌^◌, ◌%◌, ◌≤◌, ◌<◌, T, pos, negsuc}
use Rattle.std.specs.Float.{fin}
use Rattle.whole.specs.Signed.{with_sign}
use Rattle.angle.specs.Angle.{N}
use Rattle.parallel.specs.Table.{neg, row_of}
use Rattle.refusal.specs.Outcome.{given}
use Rattle.parallel.specs.Refusal.{is_kind}
use Rattle.parallel.specs.Answer.{width_of}
use Rattle.projection.specs.Answer.{forward_of, inverse_of}
use Rattle.reading.specs.Reading.{read_of, centiseconds, units}

-- by size, k and a half is above an even number where it goes down, and above an odd one where it goes up
pub record Halves : Type 0 where
  -- x and y of kind 1: 3490658 and a half at 2 degrees, 10471975 and a half at 6
  pub place_down : forward_of 1 (pos 0) (pos 720000) (neg 720000) ≡ given (pos 3490658, neg 3490658)
  pub place_up : forward_of 1 (pos 0) (neg 2160000) (pos 2160000) ≡ given (neg 10471976, pos 10471976)
  -- half-widths: 136034952 and a half at the pole of kind 6, 275762021 and a half at some 43.1 degrees of kind 2
  pub width_down : width_of 6 (pos 32400000) ≡ given 136034952
  pub width_up : width_of 2 (neg 15521804) ≡ given 275762022
  -- differences of longitude on kind 6's parallel of 43 degrees: 25312 and a half, 8437 and a half
  pub longitude_down : inverse_of 6 (pos 0) (pos 96753) (pos 75049158) ≡ given (pos 25312, pos 15480000)
  pub longitude_up : inverse_of 6 (pos 0) (neg 32251) (pos 75049158) ≡ given (neg 8438, pos 15480000)
  -- the latitude of a y is never k and a half: y N / KY is none
  pub no_latitude : (kind y k : ℕ) → T (is_kind kind) → 2 * (y * N) ≢ (row_of kind).ky * (2 * k + 1)
  -- a float m / 2^(j + 1), read times `by`: k and a half, anything past that, and anything short of it
  pub at_half : (by m j k : ℕ) (s : Bool) → m * by ≡ 2 ^ j * (2 * k + 1) → read_of by (fin s m (negsuc j)) ≡ with_sign s (k + k % 2)
  pub past_half : (by m j k : ℕ) (s : Bool) → 2 ^ j * (2 * k + 1) < m * by → m * by ≤ 2 ^ j * (2 * k + 2) →
      read_of by (fin s m (negsuc j)) ≡ with_sign s (suc k)
  pub short_of_half : (by m j k : ℕ) (s : Bool) → 2 ^ j * (2 * k) ≤ m * by → m * by < 2 ^ j * (2 * k + 1) →
      read_of by (fin s m (negsuc j)) ≡ with_sign s k
  -- 0.0078125 degrees, which are 2812 and a half, and three times that, each between the floats next to it
  pub degrees_down : map centiseconds
      (fin false (2 ^ 53 - 1) (negsuc 59) ∷ fin false (2 ^ 52) (negsuc 58) ∷ fin false (2 ^ 52 + 1) (negsuc 58) ∷ [])
      ≡ pos 2812 ∷ pos 2812 ∷ pos 2813 ∷ []
  pub degrees_up : map centiseconds
      (fin true (3 * 2 ^ 51 - 1) (negsuc 57) ∷ fin true (3 * 2 ^ 51) (negsuc 57) ∷ fin true (3 * 2 ^ 51 + 1) (negsuc 57) ∷ [])
      ≡ neg 8437 ∷ neg 8438 ∷ neg 8438 ∷ []
  -- a half and 1 and a half of a map unit, likewise
  pub units_down : map units
      (fin false (2 ^ 53 - 1) (negsuc 53) ∷ fin false (2 ^ 52) (negsuc 52) ∷ fin false (2 ^ 52 + 1) (negsuc 52) ∷ [])
      ≡ pos 0 ∷ pos 0 ∷ pos 1 ∷ []
  pub units_up : map units
      (fin true (3 * 2 ^ 51 - 1) (negsuc 51) ∷ fin true (3 * 2 ^ 51) (negsuc 51) ∷ fin true (3 * 2 ^ 51 + 1) (negsuc 51) ∷ [])
      ≡ neg 1 ∷ neg 2 ∷ neg 2 ∷ []
