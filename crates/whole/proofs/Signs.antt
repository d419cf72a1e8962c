-- Signed numbers by their positive and negative parts, so that a linear fact of ℤ is one of ℕ.
use mathlib.Core.Path.{◌≡◌, refl, sym, ap, ◌∙◌}
use mathlib.Core.Bool.{Bool, true, false, not, cond}
use Prim.Native.Nat.{ℕ, zero, suc, ◌+◌, ◌-◌, ◌*◌, ◌≤◌, ◌<◌, ◌^◌, min}
use native.Mathlib.Nat.{zero-mul, le_refl, lt_of_le_of_lt}
use native.Mathlib.Omega.{arith}
use borrow.Author.Tests.{ltb-true, ltb-false}
use lib.Dec.{ltb}
use lib.IntN.{ℤ, pos, negsuc, neg_ℤ, nat_abs, sub_ℕ, ◌+ℤ◌, ◌-ℤ◌, ◌*ℤ◌, neg_ℤ-neg_ℤ, neg_ℤ-+ℤ, +ℤ_idl}
use lib.Signed.{mag}
use mir.Syntax.{Width, w32, w64}
use mir.Val.{SFits, hbits, to_z, of_z}
use mir.Facts.{to_z-of_z, to_z_pos}
use Rattle.whole.specs.Nearest.{nearest}
use Rattle.whole.specs.declared.Signed.{Signed}
use Rattle.whole.specs.Signed.{split_of, with_sign, join_of, plus, minus, on_size, nearest_signed}
use Rattle.whole.proofs.Rounding.{nearest_zero}

pub nat_abs_neg : (z : ℤ) → nat_abs (neg_ℤ z) ≡ nat_abs z
nat_abs_neg (pos zero) = refl
nat_abs_neg (pos (suc n)) = refl
nat_abs_neg (negsuc n) = refl

pub join_split : (z : ℤ) → join_of (split_of z) ≡ z
join_split (pos n) = refl
join_split (negsuc n) = refl

pub nat_abs_sign : (b : Bool) (n : ℕ) → nat_abs (with_sign b n) ≡ n
nat_abs_sign true n = nat_abs_neg (pos n)
nat_abs_sign false n = refl

pub nat_abs_join : (s : Signed) → nat_abs (join_of s) ≡ s.size
nat_abs_join s = nat_abs_sign s.negative s.size

pub sign_turned : (b : Bool) (n : ℕ) → with_sign (not b) n ≡ neg_ℤ (with_sign b n)
sign_turned false n = refl
sign_turned true n = sym (neg_ℤ-neg_ℤ (pos n))

-- what a number's parts are
pub record Parts (z : ℤ) : Type 0 where
  pub one : min (plus z) (minus z) ≡ 0
  pub size : nat_abs z ≡ plus z + minus z

pub parts : (z : ℤ) → Parts z
parts (pos n) = record { one = omega arith; size = omega arith }
parts (negsuc n) = record { one = omega arith; size = omega arith }

sub_parts : (a b : ℕ) → plus (sub_ℕ a b) + b ≡ minus (sub_ℕ a b) + a
sub_parts a b = go (ltb a b) refl
  where
    go : (t : Bool) → ltb a b ≡ t →
        plus (cond t (negsuc (b - suc a)) (pos (a - b))) + b ≡ minus (cond t (negsuc (b - suc a)) (pos (a - b))) + a
    go true e = omega (arith, ltb-true a b e)
    go false e = omega (arith, ltb-false a b e)

-- the parts of a sum, of a number turned, of a difference, and of a multiple
pub sum : (x y : ℤ) → plus (x +ℤ y) + (minus x + minus y) ≡ minus (x +ℤ y) + (plus x + plus y)
sum (pos a) (pos b) = omega arith
sum (pos a) (negsuc b) = omega (arith, sub_parts a (suc b))
sum (negsuc a) (pos b) = omega (arith, sub_parts b (suc a))
sum (negsuc a) (negsuc b) = omega arith

pub plus_neg : (z : ℤ) → plus (neg_ℤ z) ≡ minus z
plus_neg (pos zero) = refl
plus_neg (pos (suc n)) = refl
plus_neg (negsuc n) = refl

pub minus_neg : (z : ℤ) → minus (neg_ℤ z) ≡ plus z
minus_neg (pos zero) = refl
minus_neg (pos (suc n)) = refl
minus_neg (negsuc n) = refl

pub less : (x y : ℤ) → plus (x -ℤ y) + (minus x + plus y) ≡ minus (x -ℤ y) + (plus x + minus y)
less x y = omega (arith, sum x (neg_ℤ y), plus_neg y, minus_neg y)

-- numbers with the same parts are the same
pub ext : (x y : ℤ) → plus x + minus y ≡ minus x + plus y → x ≡ y
ext (pos a) (pos b) h = ap pos (omega arith)
ext (pos a) (negsuc b) h = absurd (omega arith)
ext (negsuc a) (pos b) h = absurd (omega arith)
ext (negsuc a) (negsuc b) h = ap negsuc (omega arith)

-- what is left of a where b is taken away, by sign and size
pub less_west : (a b : ℕ) → a ≤ b → pos a -ℤ pos b ≡ with_sign true (b - a)
less_west a b h =
    let p = plus_neg (pos (b - a)) in
    let m = minus_neg (pos (b - a)) in
    ext (pos a -ℤ pos b) (neg_ℤ (pos (b - a))) (omega (arith, less (pos a) (pos b)))

pub plus_mul : (z : ℤ) (k : ℕ) → plus (z *ℤ pos k) ≡ plus z * k
plus_mul (pos n) k = refl
plus_mul (negsuc n) k = plus_neg (pos (suc n * k)) ∙ sym (zero-mul k)

pub minus_mul : (z : ℤ) (k : ℕ) → minus (z *ℤ pos k) ≡ minus z * k
minus_mul (pos n) k = sym (zero-mul k)
minus_mul (negsuc n) k = minus_neg (pos (suc n * k))

pub nat_abs_mul : (z : ℤ) (k : ℕ) → nat_abs (z *ℤ pos k) ≡ nat_abs z * k
nat_abs_mul (pos n) k = refl
nat_abs_mul (negsuc n) k = nat_abs_neg (pos (suc n * k))

-- a function of the size is the same on both sides of 0, if it keeps 0
pub nat_abs_on : (f : ℕ → ℕ) (z : ℤ) → nat_abs (on_size f z) ≡ f (nat_abs z)
nat_abs_on f (pos n) = refl
nat_abs_on f (negsuc n) = nat_abs_neg (pos (f (suc n)))

pub on_neg : (f : ℕ → ℕ) → f 0 ≡ 0 → (z : ℤ) → on_size f (neg_ℤ z) ≡ neg_ℤ (on_size f z)
on_neg f h (pos zero) = rw h
on_neg f h (pos (suc n)) = refl
on_neg f h (negsuc n) = sym (neg_ℤ-neg_ℤ (pos (f (suc n))))

pub on_sign : (f : ℕ → ℕ) → f 0 ≡ 0 → (b : Bool) (n : ℕ) → on_size f (with_sign b n) ≡ with_sign b (f n)
on_sign f h false n = refl
on_sign f h true n = on_neg f h (pos n)

-- the size of what such a function gives
pub size_on : (f : ℕ → ℕ) (s z : Signed) → join_of s ≡ on_size f (join_of z) → s.size ≡ f z.size
size_on f s z e = sym (nat_abs_join s) ∙ ap nat_abs e ∙ nat_abs_on f (join_of z) ∙ ap f (nat_abs_join z)

-- a size that such a function keeps
pub on_same : (f : ℕ → ℕ) (z : ℤ) → f (nat_abs z) ≡ nat_abs z → on_size f z ≡ z
on_same f (pos n) h = ap pos h
on_same f (negsuc n) h = ap (λ (m : ℕ). neg_ℤ (pos m)) h

-- there and back, exactly or to within k
pub on_back : (f g : ℕ → ℕ) → g 0 ≡ 0 → (z : ℤ) → g (f (nat_abs z)) ≡ nat_abs z → on_size g (on_size f z) ≡ z
on_back f g o (pos n) h = ap pos h
on_back f g o (negsuc n) h = on_neg g o (pos (f (suc n))) ∙ ap (λ (m : ℕ). neg_ℤ (pos m)) h

apart_sizes : (a b : ℤ) (k : ℕ) → plus a ≤ plus b + k → plus b ≤ plus a + k → minus a ≡ 0 → minus b ≡ 0 → nat_abs (a -ℤ b) ≤ k
apart_sizes a b k h l e d = let p = parts (a -ℤ b) in omega (arith, less a b)

neg_less : (a b : ℤ) → nat_abs (neg_ℤ a -ℤ neg_ℤ b) ≡ nat_abs (a -ℤ b)
neg_less a b = ap nat_abs (sym (neg_ℤ-+ℤ a (neg_ℤ b))) ∙ nat_abs_neg (a -ℤ b)

pub on_within : (f g : ℕ → ℕ) (k : ℕ) → g 0 ≡ 0 → (z : ℤ) →
    (g (f (nat_abs z)) ≤ nat_abs z + k) × (nat_abs z ≤ g (f (nat_abs z)) + k) → nat_abs (on_size g (on_size f z) -ℤ z) ≤ k
on_within f g k o (pos n) h = apart_sizes (pos (g (f n))) (pos n) k h.0 h.1 refl refl
on_within f g k o (negsuc n) h =
    let m = pos (g (f (suc n))) in
    rw (on_neg g o (pos (f (suc n))), neg_less m (pos (suc n))) (apart_sizes m (pos (suc n)) k h.0 h.1 refl refl)

-- the rounding of a multiple is such a function
pub nearest_left : (k : ℕ) (z : ℤ) (d : ℕ) → nearest_signed (pos k *ℤ z) d ≡ on_size (λ (n : ℕ). nearest (k * n) d) z
nearest_left k (pos n) d = refl
nearest_left k (negsuc n) d = on_neg (λ (m : ℕ). nearest m d) (nearest_zero d) (pos (k * suc n))

pub nearest_right : (z : ℤ) (k d : ℕ) → nearest_signed (z *ℤ pos k) d ≡ on_size (λ (n : ℕ). nearest (n * k) d) z
nearest_right (pos n) k d = refl
nearest_right (negsuc n) k d = on_neg (λ (m : ℕ). nearest m d) (nearest_zero d) (pos (suc n * k))

-- a number with no negative part is its own size
pub nat_abs_whole : (z : ℤ) → minus z ≡ 0 → pos (nat_abs z) ≡ z
nat_abs_whole (pos n) e = refl
nat_abs_whole (negsuc n) e = absurd (omega arith)

-- a signed number whose size fits is read back out of its bits as it was
mag_le : (z : ℤ) → mag z ≤ nat_abs z
mag_le (pos n) = le_refl n
mag_le (negsuc n) = omega arith

pub fits : (w : Width) (z : ℤ) → nat_abs z < 2 ^ hbits w → SFits w z
fits w z h = record { sfits = lt_of_le_of_lt (mag_le z) h }

pub back : (w : Width) (z : ℤ) → nat_abs z < 2 ^ hbits w → to_z w (of_z w z) ≡ z
back w z h = to_z-of_z (fits w z h)

-- a size of fewer bits than the width, turned
pub turned : (w : Width) {n : ℕ} → n < 2 ^ hbits w → pos 0 -ℤ to_z w n ≡ neg_ℤ (pos n)
turned w {n} h = rw (to_z_pos w h) (+ℤ_idl (neg_ℤ (pos n)))

-- a number of less than 32 bits, put together in 64 bits and read in 32
pub join_wide : (s : Signed) {z : ℤ} → s.size < 2 ^ 31 → z ≡ join_of s → to_z w64 (of_z w64 z) ≡ join_of s
join_wide s h e = let n = nat_abs_join s in ap (λ (x : ℤ). to_z w64 (of_z w64 x)) e ∙ back w64 (join_of s) (omega arith)

pub join_fits : (s : Signed) → s.size < 2 ^ 31 → SFits w32 (join_of s)
join_fits s h = fits w32 (join_of s) (rw (nat_abs_join s) h)

pub join_back : (s : Signed) {z : ℤ} → s.size < 2 ^ 31 → z ≡ join_of s → to_z w32 (of_z w32 (to_z w64 (of_z w64 z))) ≡ join_of s
join_back s h e = ap (λ (x : ℤ). to_z w32 (of_z w32 x)) (join_wide s h e) ∙ to_z-of_z (join_fits s h)
