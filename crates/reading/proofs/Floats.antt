-- The value of a float, from its bits, and what is read of a float that has a known value.
use mathlib.Core.Bool.{Bool, true, false, cond, not, ◌||◌, or-false, true≢false}
use mathlib.Core.Path.{◌≡◌, refl, sym, ap, subst, ◌∙◌}
use Prim.Native.Nat.{ℕ, suc, ◌+◌, ◌*◌, ◌/◌, ◌%◌, ◌-◌, ◌^◌, ◌≤◌, ◌<◌, zero-le, min}
use native.Mathlib.Nat.{mul-one, mul_right_comm, mul-le-mul_right}
use native.Mathlib.Omega.{arith}
use borrow.Author.Tests.{ltb-false}
use lib.Dec.{T, leb, ltb, eqb}
use lib.IntN.{pos, nat_abs}
use lib.Pow.{pow_pos}
use lib.Ieee as Ieee
use lib.Ieee.{Float, nan, inf, fin, binary64, up, down, of_bits, of_fields, odd, round}
use lib.Ieee.Bits.{of_bits-to_bits}
use lib.Ieee.Fits.{down_pos}
use lib.Ieee.Exact.{HasValue, odd_sign}
use lib.Ieee.Scale.{finite}
use Rattle.std.specs.Float.{float_is_finite, is_sign_negative}
use Rattle.whole.specs.Nearest.{nearest}
use Rattle.whole.specs.Signed.{with_sign}
use Rattle.whole.proofs.Rounding.{near, nearest_same}
use Rattle.whole.proofs.Scales.{near_le}
use Rattle.whole.proofs.Signs.{nat_abs_sign, on_sign}
use Rattle.reading.specs.Held.{most, held}
use Rattle.reading.specs.Reading.{read_of, outside}

-- a float that has a value is read as that value is
pub read_of_lem : (k : ℕ) (x : Float) (s : Bool) (a c : ℕ) → 0 < c → HasValue x s a c → read_of k x ≡ with_sign s (nearest (a * k) c)
unfolding read_of
read_of_lem k nan s a c h v = absurd v
read_of_lem k (inf t) s a c h v = absurd v
read_of_lem k (fin t m e) s a c h v =
    ap (λ (b : Bool). with_sign b (nearest (m * up e * k) (down e))) v.0
    ∙ ap (with_sign s) (nearest_same (m * up e * k) (down e) (a * k) c (down_pos e) h
    (mul_right_comm (m * up e) k c ∙ ap (λ (x : ℕ). x * k) v.1 ∙ mul_right_comm a (down e) k))

pub size_read : (k : ℕ) (x : Float) (s : Bool) (a c : ℕ) → 0 < c → HasValue x s a c → nat_abs (read_of k x) ≡ nearest (a * k) c
size_read k x s a c h v = ap nat_abs (read_of_lem k x s a c h v) ∙ nat_abs_sign s (nearest (a * k) c)

-- a float that is no number is read as 0
pub read_none : (k : ℕ) (x : Float) → finite x ≡ false → read_of k x ≡ pos 0
unfolding read_of
read_none k nan h = refl
read_none k (inf s) h = refl
read_none k (fin s m e) h = absurd (true≢false h)

-- the value of a pattern of bits, by its sign, its exponent and its digits
pub subnormal : (b : ℕ) → b % 2 ^ 63 / 2 ^ 52 ≡ 0 →
    HasValue (of_bits binary64 b) (leb (2 ^ 63) b) (b % 2 ^ 52 * 2 ^ 0) (2 ^ 1074)
unfolding of_bits of_fields
subnormal b h = rw h (odd_sign 53 (leb (2 ^ 63) b) (b % 2 ^ 52) 0 1074)

with_exponent : (s : Bool) (k t : ℕ) → finite (of_fields binary64 s (suc k) t) ≡ true →
    HasValue (of_fields binary64 s (suc k) t) s ((2 ^ 52 + t) * 2 ^ k) (2 ^ 1074)
unfolding of_fields
with_exponent s k t = go (eqb (suc k) 2047) (eqb t 0)
  where
    go : (a b : Bool) → finite (cond a (cond b (inf s) nan) (odd 53 s (2 ^ 52 + t) k 1074)) ≡ true →
        HasValue (cond a (cond b (inf s) nan) (odd 53 s (2 ^ 52 + t) k 1074)) s ((2 ^ 52 + t) * 2 ^ k) (2 ^ 1074)
    go true true h = absurd (true≢false (sym h))
    go true false h = absurd (true≢false (sym h))
    go false b h = odd_sign 53 s (2 ^ 52 + t) k 1074

pub normal : (b k : ℕ) → b % 2 ^ 63 / 2 ^ 52 ≡ suc k → finite (of_bits binary64 b) ≡ true →
    HasValue (of_bits binary64 b) (leb (2 ^ 63) b) ((2 ^ 52 + b % 2 ^ 52) * 2 ^ k) (2 ^ 1074)
unfolding of_bits
normal b k h f = rw h (with_exponent (leb (2 ^ 63) b) k (b % 2 ^ 52) (rw h at f))

-- a float that is a number, and its pattern
pub no_nan : (x : Float) → finite x ≡ true → T (not (Ieee.is_nan x))
unfolding Ieee.is_nan
no_nan nan h = absurd (true≢false (sym h))
no_nan (inf s) h = tt
no_nan (fin s m e) h = tt

pub bits_back : (x : Float) → Ieee.fits binary64 x ≡ true → of_bits binary64 (Ieee.to_bits binary64 x) ≡ x
bits_back x f = of_bits-to_bits binary64 x (subst T (sym f) tt)

-- the size of what is read, by the pattern's digits and exponent
module _ (k : ℕ) (x : Float) (f : Ieee.fits binary64 x ≡ true) where
  abbrev pattern : ℕ
  pattern = Ieee.to_bits binary64 x

  pub subnormal_read : pattern % 2 ^ 63 / 2 ^ 52 ≡ 0 → nat_abs (read_of k x) ≡ nearest (pattern % 2 ^ 52 * 2 ^ 0 * k) (2 ^ 1074)
  subnormal_read e =
      size_read k x (leb (2 ^ 63) pattern) (pattern % 2 ^ 52 * 2 ^ 0) (2 ^ 1074) (pow_pos 1074)
      (rw (bits_back x f) at (subnormal pattern e))

  pub normal_read : finite x ≡ true → 0 < pattern % 2 ^ 63 / 2 ^ 52 →
      nat_abs (read_of k x) ≡ nearest ((2 ^ 52 + pattern % 2 ^ 52) * 2 ^ (pattern % 2 ^ 63 / 2 ^ 52 - 1) * k) (2 ^ 1074)
  normal_read h e =
      let j = pattern % 2 ^ 63 / 2 ^ 52 - 1 in
      size_read k x (leb (2 ^ 63) pattern) ((2 ^ 52 + pattern % 2 ^ 52) * 2 ^ j) (2 ^ 1074) (pow_pos 1074)
      (rw (bits_back x f) at (normal pattern j (omega arith) (ap finite (bits_back x f) ∙ h)))

-- what is held of a float, by its sign
pub held_none : (k : ℕ) (x : Float) → finite x ≡ false → held (read_of k x) ≡ pos 0
held_none k x h = ap held (read_none k x h)

pub held_sign : (k : ℕ) (x : Float) → finite x ≡ true → held (read_of k x) ≡ with_sign (is_sign_negative x) (min most (nat_abs (read_of k x)))
unfolding read_of is_sign_negative
held_sign k nan h = absurd (true≢false (sym h))
held_sign k (inf s) h = absurd (true≢false (sym h))
held_sign k (fin s m e) h =
    let n = nearest (m * up e * k) (down e) in rw (nat_abs_sign s n) (on_sign (min most) refl s n)

-- a float within n is read as a number within k n
pub read_within : (n k : ℕ) (x : Float) → outside n x ≡ false → nat_abs (read_of k x) ≤ n * k
unfolding read_of outside
read_within n k nan h = zero-le
read_within n k (inf s) h = zero-le
read_within n k (fin s m e) h =
    let d = down e in
    let l = mul-le-mul_right k (ltb-false (n * d) (m * up e) h) in
    rw (nat_abs_sign s (nearest (m * up e * k) d))
    (near_le (m * up e * k) d (n * k) (nearest (m * up e * k) d) (down_pos e) (omega arith)
    (near (m * up e * k) d (down_pos e)))

-- the comparisons with a whole limit are those of the float's own value
pub limit : (x : Float) (n a k : ℕ) → a * 2 ^ k ≡ n →
    (Ieee.lt (fin false a (pos k)) x || Ieee.lt x (Ieee.neg (fin false a (pos k)))) ≡ outside n x
unfolding Ieee.lt Ieee.neg outside
limit nan n a k e = refl
limit (inf true) n a k e = refl
limit (inf false) n a k e = refl
limit (fin true m d) n a k e = rw (e, mul-one (m * up d))
limit (fin false m d) n a k e = rw (e, mul-one (m * up d)) (or-false (ltb (n * down d) (m * up d)))

-- the library's test of a number
pub finite_is : (x : Float) → float_is_finite x ≡ finite x
unfolding float_is_finite
finite_is nan = refl
finite_is (inf s) = refl
finite_is (fin s m e) = refl
