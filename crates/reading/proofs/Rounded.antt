-- The float nearest to n / den, read times den, is n again. It is less than a unit in its last place away from n / den, and
-- den times that is below a half. One law for every den: per_degree for degrees, 1 for map units.
use mathlib.Core.Bool.{Bool, true, false}
use mathlib.Core.Logic.{◌⊎◌, inl, inr}
use mathlib.Core.Path.{◌≡◌, refl, sym, ap, ◌∙◌}
use Prim.Native.Nat.{ℕ, ◌+◌, ◌-◌, ◌*◌, ◌/◌, ◌%◌, ◌^◌, ◌≤◌, ◌<◌, compare}
use native.Mathlib.Nat.{le_trans, le_of_eq, le_of_lt, lt_of_le_of_lt, lt_of_not-le, mul-one, suc-mul, mul_comm, mul_assoc, mul_left_comm, mul_right_comm, mul-pos, mul-le-mul_left, mul-le-mul_right, mul-lt-mul_of_pos_right, lt_of_mul-lt-mul_left, le_of_mul-le-mul_right, le-mul_of_pos_right, mod-lt, mod-one, div-one, div-add-mod', le-div_iff_mul-le, eq-zero-or-pos, sub-add_cancel}
use native.Mathlib.Omega.{arith}
use borrow.Author.Tests.{le-ltb}
use lib.Dec.{lit<}
use lib.Pow.{pow-add, pow_pos, pow_mono}
use lib.IntN.{ℤ, nat_abs}
use lib.Ieee as Ieee
use lib.Ieee.{Float, nan, inf, fin, binary64, up, down, round}
use lib.Ieee.Digits.{size_reaches}
use lib.Ieee.Exact.{HasValue, units_val}
use lib.Ieee.Fits.{round_is, nearest-le}
use lib.Ieee.Nearest.{closest, closest_mono, nearest-ge}
use lib.Ieee.Scale.{finite}
use Rattle.whole.specs.Nearest.{nearest}
use Rattle.whole.specs.Signed.{with_sign}
use Rattle.whole.proofs.Scales.{nearest_strict}
use Rattle.whole.proofs.Signs.{nat_abs_sign}
use Rattle.reading.specs.Reading.{read_of, outside}
use Rattle.reading.proofs.Floats.{read_of_lem}

-- a rounded quotient is less than one away from the quotient
off : (a b : ℕ) → 0 < b → (closest a b * b ≤ a + b) × (a < closest a b * b + b)
off a b h =
    let w = a / b in
    let o = compare (a % b * 2) b in
    let e = div-add-mod' a b in
    let m = mod-lt a h in
    let ge = mul-le-mul_right b (nearest-ge w o) in
    let le = mul-le-mul_right b (nearest-le w o) in
    let s = suc-mul w b in
    (omega arith, omega arith)

-- the unit of the last place, times den, is below a half: in units of 1 / D it is below D / 2
unit_at : (D n den z : ℕ) → 0 < den → 2 * den < D → n < 2 ^ 51 → ((j : ℕ) → j < z → 2 ^ j ≤ n * D / den) →
    2 * (den * 2 ^ (z - 53)) < D
unit_at D n den z h d l reaches = go (eq-zero-or-pos (z - 53))
  where
    go : (z - 53 ≡ 0) ⊎ (0 < z - 53) → 2 * (den * 2 ^ (z - 53)) < D
    go (inl e) = rw (e, mul-one den) d
    go (inr p) =
        let k = z - 53 in
        let a : 2 ^ (52 + k) * den ≤ n * D = (le-div_iff_mul-le h).0 (reaches (52 + k) (omega arith)) in
        let e : 2 ^ 51 * (2 * (den * 2 ^ k)) ≡ 2 ^ (52 + k) * den =
        rw (pow-add 2 52 k, mul_assoc (2 ^ 52) (2 ^ k) den, mul_comm (2 ^ k) den) (omega arith) in
        lt_of_mul-lt-mul_left (2 ^ 51) (lt_of_le_of_lt (le_of_eq e) (lt_of_le_of_lt a (mul-lt-mul_of_pos_right l (omega arith))))

unit : (D n den : ℕ) → 0 < den → 2 * den < D → n < 2 ^ 51 → 2 * (den * 2 ^ (Ieee.size (n * D / den) - 53)) < D
unit D n den h d l = unit_at D n den (Ieee.size (n * D / den)) h d l (size_reaches (n * D / den))

-- so the nearest whole number is n
comes_back : (D n den q k : ℕ) → 2 * (den * 2 ^ k) < D →
    (q * (den * 2 ^ k) ≤ n * D + den * 2 ^ k) × (n * D < q * (den * 2 ^ k) + den * 2 ^ k) →
    nearest (q * 2 ^ k * den) D ≡ n
comes_back D n den q k u o = nearest_strict (q * 2 ^ k * den) D n (omega arith) (omega arith) (omega arith)

-- a whole limit that n / den does not pass is not passed by the float
closest_one : (a : ℕ) → closest a 1 ≡ a
closest_one a = ap (λ (x : ℕ). Ieee.nearest (a / 1) (compare (x * 2) 1)) (mod-one a) ∙ div-one a

limited : (d k n den L : ℕ) → k ≤ d → 0 < den → n ≤ L * den → closest (n * 2 ^ d) (den * 2 ^ k) * 2 ^ k ≤ L * 2 ^ d
limited d k n den L i h l =
    let p : 2 ^ (d - k) * 2 ^ k ≡ 2 ^ d = sym (pow-add 2 (d - k) k) ∙ ap (λ (x : ℕ). 2 ^ x) (sub-add_cancel i) in
    let r : L * 2 ^ (d - k) * (den * 2 ^ k) ≡ L * den * 2 ^ d =
    simp (mul_assoc, mul_comm, mul_left_comm) (simp (mul_assoc, mul_comm) at (ap (λ (x : ℕ). L * den * x) p)) in
    let m : n * 2 ^ d * 1 ≤ L * 2 ^ (d - k) * (den * 2 ^ k) = rw (mul-one (n * 2 ^ d), r) (mul-le-mul_right (2 ^ d) l) in
    let c = closest_mono (n * 2 ^ d) (den * 2 ^ k) (L * 2 ^ (d - k)) 1 (mul-pos h (pow_pos k)) (lit< tt) m in
    le_trans (mul-le-mul_right (2 ^ k) (rw (closest_one (L * 2 ^ (d - k))) at c))
    (le_of_eq (mul_assoc L (2 ^ (d - k)) (2 ^ k) ∙ ap (λ (x : ℕ). L * x) p))

exponent : (d k den : ℕ) → 0 < den → 2 * (den * 2 ^ k) < 2 ^ d → k ≤ d
exponent d k den h l =
    le_of_lt
    (lt_of_not-le (λ (g : d ≤ k).
    let p : 2 ^ d ≤ 2 ^ k = pow_mono g in
    let m = le-mul_of_pos_right (2 ^ k) h in
    omega arith))

within : (L : ℕ) (x : Float) (s : Bool) (a c : ℕ) → 0 < c → HasValue x s a c → a ≤ L * c → outside L x ≡ false
unfolding outside
within L nan s a c h v l = absurd v
within L (inf t) s a c h v l = absurd v
within L (fin t m e) s a c h v l =
    le-ltb (L * down e) (m * up e)
    (le_of_mul-le-mul_right (rw (v.1, mul_right_comm L (down e) c) (mul-le-mul_right (down e) l)) h)

has_finite : (x : Float) (s : Bool) (a c : ℕ) → HasValue x s a c → finite x ≡ true
has_finite nan s a c v = absurd v
has_finite (inf t) s a c v = absurd v
has_finite (fin t m e) s a c v = refl

-- a float that is a number, is read times den as z, and passes no whole limit that z / den does not pass
pub record Stands (den : ℕ) (z : ℤ) (x : Float) : Type 0 where
  pub is_finite : finite x ≡ true
  pub reads : read_of den x ≡ z
  pub stays : (L : ℕ) → nat_abs z ≤ L * den → outside L x ≡ false

-- all of it, of the float nearest to n / den
pub rounded_back : (s : Bool) (n den : ℕ) → 0 < den → 2 * den < 2 ^ 1074 → n < 2 ^ 51 →
    Stands den (with_sign s n) (round binary64 s n den)
rounded_back s n den h d l =
    let D = 2 ^ 1074 in
    let k = Ieee.size (n * D / den) - 53 in
    let u = unit D n den h d l in
    let q = closest (n * D) (den * 2 ^ k) in
    let x = round binary64 s n den in
    let i = exponent 1074 k den h u in
    let room : n ≤ 2 ^ 51 * den = le_trans (rw (mul-one (2 ^ 51)) (le_of_lt l)) (mul-le-mul_left (2 ^ 51) h) in
    let under = lt_of_le_of_lt (limited 1074 k n den (2 ^ 51) i h room) (lit< tt) in
    let v : HasValue x s (q * 2 ^ k) D = rw (round_is binary64 s n den) (units_val binary64 s q k under) in
    record {
      is_finite = has_finite x s (q * 2 ^ k) D v;
      reads =
          read_of_lem den x s (q * 2 ^ k) D (pow_pos 1074) v
          ∙ ap (with_sign s) (comes_back D n den q k u (off (n * D) (den * 2 ^ k) (mul-pos h (pow_pos k))));
      stays = λ L m. within L x s (q * 2 ^ k) D (pow_pos 1074) v (limited 1074 k n den L i h (rw (nat_abs_sign s n) at m));
    }
