-- Products: a common factor is cancelled where one side has less than the factor to spare; a bit shifted.
use mathlib.Core.Path.{◌≡◌}
use Prim.Native.Nat.{ℕ, suc, ◌+◌, ◌*◌, ◌%◌, ◌^◌, ◌≤◌, ◌<◌}
use native.Mathlib.Nat.{one-mul, mul-suc, le_of_suc-le-suc, lt_of_mul-lt-mul_left, mod-eq_of_lt}
use lib.Pow.{pow-lt}

pub cancel : (w : ℕ) {a b : ℕ} → w * a < w * b + w → a ≤ b
cancel w {a} {b} h = le_of_suc-le-suc (lt_of_mul-lt-mul_left w {m = a} {n = suc b} (rw mul-suc h))

-- a bit shifted by less than 64
pub shifted : (k : ℕ) → k < 64 → 1 * 2 ^ k % 2 ^ 64 ≡ 2 ^ k
shifted k h = rw (one-mul (2 ^ k)) (mod-eq_of_lt (pow-lt h))
