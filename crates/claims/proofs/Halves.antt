-- Halves, in each number that is rounded.
use mathlib.Core.Bool.{Bool}
use mathlib.Core.Logic.{◌≢◌}
use mathlib.Core.Path.{◌≡◌, refl, sym, ap}
use Prim.Native.Nat.{ℕ, suc, ◌+◌, ◌-◌, ◌*◌, ◌/◌, ◌%◌, ◌^◌, ◌≤◌, ◌<◌}
use native.Mathlib.Nat.{pow-succ', mul-one}
use native.Mathlib.Omega.{arith}
use lib.Dec.{T, ltb, ltb→lt}
use lib.Ieee.{fin}
use lib.IntN.{negsuc}
use lib.Pow.{pow_pos}
use Rattle.whole.specs.Nearest.{nearest, carry}
use Rattle.whole.specs.Root.{root, root_in}
use Rattle.whole.specs.Signed.{with_sign}
use Rattle.whole.proofs.Rounding.{half}
use Rattle.whole.proofs.Scales.{nearest_strict}
use Rattle.angle.specs.Angle.{N}
use Rattle.parallel.specs.declared.table.Row.{Row}
use Rattle.parallel.specs.Table.{rows, no_row, row_of}
use Rattle.parallel.specs.Parallel.{radicand, q_by, q_at, one_by, one_of, numerator, half_width, height}
use Rattle.parallel.specs.Latitude.{y_of, latitude_size, latitude_at, width_at}
use Rattle.refusal.specs.Outcome.{unless}
use Rattle.parallel.specs.Refusal.{is_kind}
use Rattle.parallel.specs.Answer.{width_of}
use Rattle.parallel.proofs.Every.{every, every_at}
use Rattle.parallel.proofs.Rows.{kind_range}
use Rattle.projection.specs.Longitude.{wrap}
use Rattle.projection.specs.Forward.{x_of, place_of}
use Rattle.projection.specs.Inverse.{difference_at, position_of}
use Rattle.projection.specs.Answer.{forward_of, inverse_of}
use Rattle.reading.specs.Reading.{read_of}
use Rattle.claims.specs.Halves.{Halves}

-- ---- no latitude of a y is k and a half: 2 N is a multiple of 8, and no KY is

has_rest : Row → Bool
has_rest r = ltb 0 (r.ky % 8)

all_rest : T (every has_rest rows)
unfolding has_rest rows
all_rest = tt

ky_rest : (kind : ℕ) → T (is_kind kind) → 0 < (row_of kind).ky % 8
unfolding has_rest row_of
ky_rest kind t =
    let k = kind_range kind t in
    ltb→lt 0 ((row_of kind).ky % 8) (every_at has_rest no_row rows all_rest (kind - 1) (omega arith))

-- a factor of an even number, where the other factor is odd, is even, and its half is a factor of the half
record Halved (a k y : ℕ) : Type 0 where
  by_two : ℕ
  twice : a ≡ 2 * by_two
  product : by_two * (2 * k + 1) ≡ y

halved : (a k y : ℕ) → a * (2 * k + 1) ≡ 2 * y → Halved a k y
halved a k y e =
    let b = y - a * k in
    let t : a ≡ 2 * b = omega arith in
    record { by_two = b; twice = t; product = omega (arith, ap (λ (x : ℕ). x * (2 * k + 1)) t) }

no_latitude : (kind y k : ℕ) → T (is_kind kind) → 2 * (y * N) ≢ (row_of kind).ky * (2 * k + 1)
no_latitude kind y k t e =
    let first = halved (row_of kind).ky k (y * N) (sym e) in
    let second = halved first.by_two k (y * (N / 2)) (omega (arith, first.product)) in
    let third = halved second.by_two k (y * (N / 4)) (omega (arith, second.product)) in
    omega (arith, ky_rest kind t, first.twice, second.twice, third.twice)

-- ---- floats

module _ (by m j k : ℕ) (s : Bool) where
  read : (n : ℕ) → nearest (m * by) (2 * 2 ^ j) ≡ n → read_of by (fin s m (negsuc j)) ≡ with_sign s n
  unfolding read_of
  read n e = ap (with_sign s) (rw (mul-one m, pow-succ' 2 j) e)

  at_half : m * by ≡ 2 ^ j * (2 * k + 1) → read_of by (fin s m (negsuc j)) ≡ with_sign s (k + k % 2)
  at_half e =
      let split : m * by ≡ 2 * 2 ^ j * k + 2 ^ j = omega arith in
      read (k + k % 2) (rw split (half k (2 ^ j) (pow_pos j)))

  past_half : 2 ^ j * (2 * k + 1) < m * by → m * by ≤ 2 ^ j * (2 * k + 2) → read_of by (fin s m (negsuc j)) ≡ with_sign s (suc k)
  past_half h l =
      let p = pow_pos j in
      read (suc k) (nearest_strict (m * by) (2 * 2 ^ j) (suc k) (omega arith) (omega arith) (omega arith))

  short_of_half : 2 ^ j * (2 * k) ≤ m * by → m * by < 2 ^ j * (2 * k + 1) → read_of by (fin s m (negsuc j)) ≡ with_sign s k
  short_of_half h l =
      let p = pow_pos j in
      read k (nearest_strict (m * by) (2 * 2 ^ j) k (omega arith) (omega arith) (omega arith))

pub halves : Halves
unfolding width_of forward_of inverse_of unless is_kind place_of x_of y_of position_of latitude_at latitude_size width_at difference_at
    height wrap row_of rows half_width numerator one_of one_by q_at radicand q_by root root_in nearest carry read_of
halves =
    record {
      place_down = refl;
      place_up = refl;
      width_down = refl;
      width_up = refl;
      longitude_down = refl;
      longitude_up = refl;
      no_latitude = no_latitude;
      at_half = at_half;
      past_half = past_half;
      short_of_half = short_of_half;
      degrees_down = refl;
      degrees_up = refl;
      units_down = refl;
      units_up = refl;
    }
