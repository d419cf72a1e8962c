-- A number past a limit on one side of 0 or on the other.
use mathlib.Core.Path.{◌≡◌, refl, ap, ◌∙◌}
use mathlib.Core.Bool.{Bool, true, false, cond, ◌||◌}
use Prim.Native.Nat.{ℕ, ◌≤◌}
use native.Mathlib.Omega.{arith}
use borrow.Author.Tests.{ltb-true, ltb-false, le-ltb}
use lib.Dec.{ltb}
use lib.IntN.{ℤ, pos, negsuc, neg_ℤ, nat_abs}
use Rattle.whole.specs.Signed.{plus, minus, with_sign}
use Rattle.whole.proofs.Signs.{plus_neg, minus_neg, parts}
use Rattle.angle.specs.Angle.{outside, above, below}

nothing_past : (n : ℕ) → ltb n 0 ≡ false
nothing_past n = le-ltb n 0 (omega arith)

-- by sign and size
pub above_sign : (n : ℕ) (b : Bool) (m : ℕ) → above n (with_sign b m) ≡ cond b false (ltb n m)
above_sign n false m = refl
above_sign n true m = ap (ltb n) (plus_neg (pos m)) ∙ nothing_past n

pub below_sign : (n : ℕ) (b : Bool) (m : ℕ) → below n (with_sign b m) ≡ cond b (ltb n m) false
below_sign n false m = nothing_past n
below_sign n true m = ap (ltb n) (minus_neg (pos m))

-- a sign turned exchanges them
pub above_neg : (n : ℕ) (z : ℤ) → above n (neg_ℤ z) ≡ below n z
above_neg n z = ap (ltb n) (plus_neg z)

pub below_neg : (n : ℕ) (z : ℤ) → below n (neg_ℤ z) ≡ above n z
below_neg n z = ap (ltb n) (minus_neg z)

-- only one of them can hold, and one does where the size is greater
pub one_side : (n : ℕ) (z : ℤ) → above n z ≡ true → below n z ≡ true → ⊥
one_side n z a b = omega (arith, parts z, ltb-true n (plus z) a, ltb-true n (minus z) b)

pub either_side : (n : ℕ) (z : ℤ) → (above n z || below n z) ≡ outside n z
either_side n (pos m) = go (ltb n m)
  where
    go : (b : Bool) → (b || ltb n 0) ≡ b
    go true = refl
    go false = nothing_past n
either_side n (negsuc m) = rw (nothing_past n)

-- a size that is not greater is past the limit on neither side
pub not_above : (n : ℕ) (z : ℤ) → nat_abs z ≤ n → above n z ≡ false
not_above n z h = le-ltb n (plus z) (omega (arith, parts z))

pub not_below : (n : ℕ) (z : ℤ) → nat_abs z ≤ n → below n z ≡ false
not_below n z h = le-ltb n (minus z) (omega (arith, parts z))

pub between : (n : ℕ) (z : ℤ) → above n z ≡ false → below n z ≡ false → nat_abs z ≤ n
between n z a b = omega (arith, parts z, ltb-false n (plus z) a, ltb-false n (minus z) b)
