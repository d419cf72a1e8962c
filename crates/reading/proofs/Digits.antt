-- A product of digits that is worked out in two parts, and what is read from it.
use mathlib.Core.Path.{◌≡◌, sym, ap, ap₂, ◌∙◌}
use Prim.Native.Nat.{ℕ, ◌+◌, ◌-◌, ◌*◌, ◌/◌, ◌%◌, ◌^◌, ◌≤◌, ◌<◌, min}
use native.Mathlib.Nat.{le_trans, le_of_lt, lt_of_le_of_lt, mul_comm, mul_right_comm, add-mul, mul-le-mul, div-div-eq-div-mul, div-add-mod', mul-add-div_right, mul-add-mod_self_right, mul-pos}
use native.Mathlib.Omega.{arith}
use lib.Arith.{mod-mul}
use lib.Dec.{lit<, lit≤}
use lib.Pow.{pow_pos, pow-add, pow_mono}
use Rattle.whole.specs.Nearest.{nearest}
use Rattle.whole.proofs.Products.{shifted}
use Rattle.whole.proofs.Rounding.{near, nearest_scale, nearest_halves}
use Rattle.whole.proofs.Scales.{nearest_strict, near_ge}
use Rattle.angle.specs.Angle.{per_degree}
use Rattle.reading.specs.Held.{most}

module _ (q by : ℕ) where
  parts : q / 4096 * by * 4096 + q % 4096 * by ≡ q * by
  parts =
      ap (λ (x : ℕ). x + q % 4096 * by) (mul_right_comm (q / 4096) by 4096)
      ∙ sym (add-mul (q / 4096 * 4096) (q % 4096) by)
      ∙ ap (λ (x : ℕ). x * by) (div-add-mod' q 4096)

  pub high_is : q / 4096 * by + q % 4096 * by / 4096 ≡ q * by / 4096
  high_is = sym (mul-add-div_right (lit< tt) (q / 4096 * by) (q % 4096 * by)) ∙ ap (λ (x : ℕ). x / 4096) parts

  pub low_is : q % 4096 * by % 4096 ≡ q * by % 4096
  low_is = sym (mul-add-mod_self_right (q / 4096 * by) 4096 (q % 4096 * by)) ∙ ap (λ (x : ℕ). x % 4096) parts

  pub product_fits : q < 2 ^ 53 → by ≤ per_degree → q * by < 2 ^ 72
  product_fits h k = lt_of_le_of_lt (mul-le-mul (le_of_lt h) k) (lit< tt)

-- the same, as halves of 2 ^ (13 + d) and what is left over
pub halves_are : (n d : ℕ) → n / 4096 / 2 ^ d ≡ n / (2 ^ d * 4096)
halves_are n d = div-div-eq-div-mul n 4096 (2 ^ d) ∙ ap (λ (x : ℕ). n / x) (mul_comm 4096 (2 ^ d))

pub left_is : (n d : ℕ) → n % (2 ^ d * 4096) ≡ n / 4096 % 2 ^ d * 4096 + n % 4096
left_is n d = mod-mul n (pow_pos d) (lit< tt)

-- what is to be returned, by what is worked out
pub counted : (q d by : ℕ) → d < 64 →
    2 * (q * by / (2 ^ d * 4096)) + min 1 (q * by % (2 ^ d * 4096))
    ≡ 2 * ((q / 4096 * by + q % 4096 * by / 4096) / (1 * 2 ^ d % 18446744073709551616))
    + min 1 ((q / 4096 * by + q % 4096 * by / 4096) % (1 * 2 ^ d % 18446744073709551616) + q % 4096 * by % 4096)
counted q d by h =
    rw (left_is (q * by) d, ← halves_are (q * by) d, ← high_is q by, shifted d h)
    (omega (arith, low_is q by))

-- digits * 2 ^ p / 2 ^ 1074 times `by`, where p leaves places behind the point
steps : (p : ℕ) → p ≤ 1061 → 1 + (1061 - p + 12) + p ≡ 1074
steps p h = omega arith

denominator : (p : ℕ) → p ≤ 1061 → 2 * (2 ^ (1061 - p) * 4096) * 2 ^ p ≡ 2 ^ 1074
denominator p h =
    rw (← pow-add 2 (1061 - p) 12, ← pow-add 2 1 (1061 - p + 12), ← pow-add 2 (1 + (1061 - p + 12)) p) (ap (λ (x : ℕ). 2 ^ x) (steps p h))

pub at_power : (q p by : ℕ) → p ≤ 1061 → nearest (q * 2 ^ p * by) (2 ^ 1074) ≡ nearest (q * by) (2 * (2 ^ (1061 - p) * 4096))
at_power q p by h =
    let j = 2 ^ (1061 - p) * 4096 in
    ap₂ (λ (x y : ℕ). nearest x y) (mul_right_comm q (2 ^ p) by) (sym (denominator p h))
    ∙ nearest_scale (q * by) (2 * j) (2 ^ p) (mul-pos {m = 2} (lit< tt) (mul-pos (pow_pos (1061 - p)) (lit< tt))) (pow_pos p)

-- and by the quarters
pub by_quarters : (q p by : ℕ) → p ≤ 1061 →
    nearest (q * 2 ^ p * by) (2 ^ 1074)
    ≡ nearest (2 * (q * by / (2 ^ (1061 - p) * 4096)) + min 1 (q * by % (2 ^ (1061 - p) * 4096))) 4
by_quarters q p by h =
    at_power q p by h ∙ sym (nearest_halves (q * by) (2 ^ (1061 - p) * 4096) (mul-pos (pow_pos (1061 - p)) (lit< tt)))

-- a product below 2 ^ 72 over 2 ^ 77 or more is less than a half
pub tiny : (q p by : ℕ) → q < 2 ^ 53 → by ≤ per_degree → p ≤ 1061 → 64 ≤ 1061 - p → nearest (q * 2 ^ p * by) (2 ^ 1074) ≡ 0
tiny q p by h k l m =
    let f = product_fits q by h k in
    let P = 2 ^ (1061 - p) in
    let w : 2 ^ 64 ≤ P = pow_mono m in
    at_power q p by l ∙ nearest_strict (q * by) (2 * (P * 4096)) 0 (omega arith) (omega arith) (omega arith)

-- 2 ^ 40 is reached, far past the most that is held
pub large : (q p by : ℕ) → 2 ^ 52 ≤ q → 0 < by → 1061 < p → most ≤ nearest (q * 2 ^ p * by) (2 ^ 1074)
large q p by h k l =
    near_ge (q * 2 ^ p * by) (2 ^ 1074) most (nearest (q * 2 ^ p * by) (2 ^ 1074)) (pow_pos 1074)
    (le_trans (lit≤ tt) (mul-le-mul (mul-le-mul h (pow_mono l)) k))
    (near (q * 2 ^ p * by) (2 ^ 1074) (pow_pos 1074))
