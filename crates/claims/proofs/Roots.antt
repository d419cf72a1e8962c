-- From the floor of a root to its exact value: what is near y times the floor is near y times the root.
use mathlib.Core.Logic.{◌↔◌}
use mathlib.Core.Path.{◌≡◌}
use Prim.Native.Nat.{ℕ, zero, suc, ◌+◌, ◌*◌, ◌≤◌, ◌<◌}
use native.Mathlib.Nat.{mul-suc, mul-mul-mul_comm, mul-le-mul_left, le_of_lt, lt_of_lt_of_le, lt_of_le_of_lt}
use native.Mathlib.Omega.{arith}
use lib.Dec.{ltb→lt, lt→ltb}
use lib.IntN.{ℤ, pos, negsuc, neg_ℤ, nat_abs, ◌-ℤ◌, ◌*ℤ◌}
use lib.Signed.{◌<ℤ◌}
use Rattle.whole.specs.Root.{IsRoot}
use Rattle.whole.specs.Signed.{plus, minus}
use Rattle.whole.proofs.Squares.{square_lt, square_mono_lt}
use Rattle.whole.proofs.Signs.{less, plus_neg, minus_neg, nat_abs_neg}
use Rattle.claims.specs.ExactRoot.{BelowRoot, NearRoot}

-- g ≤ y q + m, and y q ≤ g + m
abbrev pub AtMost : ℤ → ℤ → ℕ → ℕ → Type 0
AtMost g y q m = plus g + minus y * q ≤ minus g + plus y * q + m

abbrev pub AtLeast : ℤ → ℤ → ℕ → ℕ → Type 0
AtLeast g y q m = minus g + plus y * q ≤ plus g + minus y * q + m

-- u is g - 2 m: below y q by m or more where q is a floor, and so below y times the root
below_by : (u y : ℤ) (g : ℤ) (s q m : ℕ) → plus u + (minus g + 2 * m) ≡ minus u + plus g → IsRoot s q → nat_abs y < m →
    AtMost g y q m → BelowRoot u y s
below_by (pos u) (pos y) g s q m e r h k =
    let l : u < y * q = omega arith in
    lt_of_lt_of_le (square_mono_lt l) (rw (mul-mul-mul_comm y q y q) (mul-le-mul_left (y * y) r.low))
below_by (negsuc u) (pos y) g s q m e r h k = tt
below_by (pos u) (negsuc y) g s q m e r h k = omega arith
below_by (negsuc u) (negsuc y) g s q m e r h k =
    let l : suc y * suc q < suc u = rw mul-suc (omega arith) in
    lt_of_le_of_lt (mul-le-mul_left (suc y * suc y) (le_of_lt r.high)) (rw (← mul-mul-mul_comm (suc y) (suc q) (suc y) (suc q)) (square_mono_lt l))

below : (y g : ℤ) (s q m : ℕ) → IsRoot s q → nat_abs y < m → AtMost g y q m → BelowRoot (g -ℤ pos (2 * m)) y s
below y g s q m r h k = below_by (g -ℤ pos (2 * m)) y g s q m (omega (arith, less g (pos (2 * m)))) r h k

pub near_root : (y g : ℤ) (s q m : ℕ) → IsRoot s q → nat_abs y < m → AtMost g y q m → AtLeast g y q m → NearRoot y s g (2 * m)
near_root y g s q m r h k l = (
  below y g s q m r h k,
  below (neg_ℤ y) (neg_ℤ g) s q m r (rw (nat_abs_neg y) h) (rw (plus_neg g, minus_neg g, plus_neg y, minus_neg y) l),
)

-- where s is a square, the order is that of ℤ
squares : (a b : ℕ) → (a * a < b * b) ↔ (a < b)
squares a b = (square_lt a b, square_mono_lt)

not_negative : (u k : ℕ) → pos u <ℤ neg_ℤ (pos k) → ⊥
not_negative u zero h = omega (arith, ltb→lt u 0 h.lt)
not_negative u (suc k) h = h.lt

negative : (u k : ℕ) → (k < suc u) ↔ (negsuc u <ℤ neg_ℤ (pos k))
negative u zero = (λ h. record { lt = tt }, λ h. omega arith)
negative u (suc k) = (λ h. record { lt = lt→ltb k u (omega arith) }, λ h. omega (arith, ltb→lt k u h.lt))

pub exact : (u y : ℤ) (r : ℕ) → BelowRoot u y (r * r) ↔ (u <ℤ (y *ℤ pos r))
exact (pos u) (pos y) r =
    let e = squares u (y * r) in
    rw (mul-mul-mul_comm y y r r) (λ h. record { lt = lt→ltb u (y * r) (e.0 h) }, λ h. e.1 (ltb→lt u (y * r) h.lt))
exact (negsuc u) (pos y) r = (λ h. record { lt = tt }, λ h. tt)
exact (pos u) (negsuc y) r = (λ h. absurd h, λ h. not_negative u (suc y * r) h)
exact (negsuc u) (negsuc y) r =
    let e = squares (suc y * r) (suc u) in
    let f = negative u (suc y * r) in
    rw (mul-mul-mul_comm (suc y) (suc y) r r) (λ h. f.0 (e.0 h), λ h. e.1 (f.1 h))
