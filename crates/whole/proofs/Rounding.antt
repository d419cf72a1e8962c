-- The law of `nearest`. Only worked examples open `carry` besides, so that the decision for halves is proved here alone.
use mathlib.Core.Path.{◌≡◌, refl, sym, ap, ap₂, ◌∙◌}
use mathlib.Core.Bool.{Bool, true, false}
use Prim.Native.Nat.{ℕ, zero, suc, ◌+◌, ◌*◌, ◌/◌, ◌%◌, ◌≤◌, ◌<◌, min}
use native.Mathlib.Nat.{div-add-mod', mod-lt, mul-add, mul_comm, mul-add-div, div-eq_of_lt, mul-add-mod_self_left, mod-eq_of_lt, le_antisymm, mul-pos, mul-lt-mul_of_pos_right, mul-div-mul_right, mul-div_cancel, mul-mod_left, div-div-eq-div-mul, add-zero}
use native.Mathlib.Omega.{arith}
use borrow.Author.Tests.{ltb-true, ltb-false, lt-ltb, le-ltb, ne_eqb}
use lib.Arith.{mod-mul}
use lib.Dec.{ltb}
use Rattle.whole.specs.Nearest.{carry, nearest, Near}
use Rattle.whole.proofs.Products.{cancel}

-- what is left over is less than a half, more, or a half
data Rest (r d : ℕ) : Type 0 where
  low : 2 * r < d → Rest r d
  high : d < 2 * r → Rest r d
  tie : 2 * r ≡ d → Rest r d

rest : (r d : ℕ) → Rest r d
rest r d = go (ltb (2 * r) d) (ltb d (2 * r)) refl refl
  where
    go : (a b : Bool) → ltb (2 * r) d ≡ a → ltb d (2 * r) ≡ b → Rest r d
    go true b e f = low (ltb-true (2 * r) d e)
    go false true e f = high (ltb-true d (2 * r) f)
    go false false e f = tie (le_antisymm (ltb-false d (2 * r) f) (ltb-false (2 * r) d e))

carry_low : (q r d : ℕ) → 2 * r < d → carry q r d ≡ 0
unfolding carry
carry_low q r d h = rw (lt-ltb (2 * r) d h)

carry_high : (q r d : ℕ) → d < 2 * r → carry q r d ≡ 1
unfolding carry
carry_high q r d h = rw (le-ltb (2 * r) d (omega arith), lt-ltb d (2 * r) h)

carry_tie : (q r d : ℕ) → 2 * r ≡ d → carry q r d ≡ q % 2
unfolding carry
carry_tie q r d h = rw (le-ltb (2 * r) d (omega arith), le-ltb d (2 * r) (omega arith))

-- the floor's parity counted with what is left over, one comparison decides
pub carry_one : (q r d : ℕ) → d < 2 * r + q % 2 → carry q r d ≡ 1
carry_one q r d h = go (rest r d)
  where
    go : Rest r d → carry q r d ≡ 1
    go (low l) = absurd (omega arith)
    go (high l) = carry_high q r d l
    go (tie l) = rw (carry_tie q r d l) (omega arith)

pub carry_none : (q r d : ℕ) → 2 * r + q % 2 ≤ d → carry q r d ≡ 0
carry_none q r d h = go (rest r d)
  where
    go : Rest r d → carry q r d ≡ 0
    go (low l) = carry_low q r d l
    go (high l) = absurd (omega arith)
    go (tie l) = rw (carry_tie q r d l) (omega arith)

-- what is added to the floor is nearest to what is left over
carry_near : (q r d : ℕ) → r < d → Near r d (carry q r d)
carry_near q r d h = go (ltb d (2 * r + q % 2)) refl
  where
    go : (b : Bool) → ltb d (2 * r + q % 2) ≡ b → Near r d (carry q r d)
    go true e =
        let k = ltb-true d (2 * r + q % 2) e in
        rw (carry_one q r d k) (record { hi = omega arith; lo = omega arith })
    go false e =
        let k = ltb-false d (2 * r + q % 2) e in
        rw (carry_none q r d k) (record { hi = omega arith; lo = omega arith })

pub nearest_is : (n d : ℕ) → 0 < d → nearest n d ≡ n / d + carry (n / d) (n % d) d
unfolding nearest
nearest_is n d h = rw (ne_eqb d 0 (λ e. omega arith))

pub near : (n d : ℕ) → 0 < d → Near n d (nearest n d)
near n d h =
    let c = carry_near (n / d) (n % d) d (mod-lt n h) in
    let e = div-add-mod' n d in
    let p = mul_comm d (n / d) in
    let s = mul-add d (n / d) (carry (n / d) (n % d) d) in
    rw (nearest_is n d h) (record { hi = omega arith; lo = omega arith })

pub nearest_zero : (d : ℕ) → nearest 0 d ≡ 0
unfolding nearest
nearest_zero zero = refl
nearest_zero (suc d) = let n = near 0 (suc d) (omega arith) in le_antisymm (cancel (suc d) (omega arith)) (omega arith)

pub nearest_by_zero : (n : ℕ) → nearest n 0 ≡ 0
unfolding nearest
nearest_by_zero n = refl

-- k and a half goes to the even neighbour
pub half : (k h : ℕ) → 0 < h → nearest (2 * h * k + h) (2 * h) ≡ k + k % 2
half k h l =
    let p : 0 < 2 * h = omega arith in
    let s : h < 2 * h = omega arith in
    rw (nearest_is (2 * h * k + h) (2 * h) p, mul-add-div p k h, div-eq_of_lt s, add-zero k, mul-add-mod_self_left (2 * h) k h, mod-eq_of_lt s)
    (ap (λ (x : ℕ). k + x) (carry_tie k h (2 * h) refl))

-- a common factor changes nothing
carry_scale : (q r d c : ℕ) → 0 < c → carry q (r * c) (d * c) ≡ carry q r d
carry_scale q r d c h = go (rest r d)
  where
    go : Rest r d → carry q (r * c) (d * c) ≡ carry q r d
    go (low l) =
        let k = mul-lt-mul_of_pos_right l h in
        carry_low q (r * c) (d * c) (omega arith) ∙ sym (carry_low q r d l)
    go (high l) =
        let k = mul-lt-mul_of_pos_right l h in
        carry_high q (r * c) (d * c) (omega arith) ∙ sym (carry_high q r d l)
    go (tie l) =
        let k = ap (λ (x : ℕ). x * c) l in
        carry_tie q (r * c) (d * c) (omega arith) ∙ sym (carry_tie q r d l)

mod_scale : (n d c : ℕ) → 0 < d → 0 < c → n * c % (d * c) ≡ n % d * c
mod_scale n d c h k = rw (mod-mul (n * c) h k, mul-div_cancel n k, mul-mod_left n c) (add-zero (n % d * c))

pub nearest_scale : (n d c : ℕ) → 0 < d → 0 < c → nearest (n * c) (d * c) ≡ nearest n d
nearest_scale n d c h k =
    rw (nearest_is (n * c) (d * c) (mul-pos h k), nearest_is n d h, mul-div-mul_right n d k, mod_scale n d c h k)
    (ap (λ (x : ℕ). n / d + x) (carry_scale (n / d) (n % d) d c k))

-- equal fractions have one nearest number
pub nearest_same : (n d m e : ℕ) → 0 < d → 0 < e → n * e ≡ m * d → nearest n d ≡ nearest m e
nearest_same n d m e h k q =
    sym (nearest_scale n d e h k) ∙ ap₂ (λ (x y : ℕ). nearest x y) q (mul_comm d e) ∙ nearest_scale m e d k h

-- b halves and something less than a half: what is carried depends on no more than that, and whether anything is there beside a half
carry_halves : (q b j s : ℕ) → b < 2 → s < j → carry q (2 * b + min 1 s) 4 ≡ carry q (b * j + s) (2 * j)
carry_halves q zero j s h l = carry_low q (2 * 0 + min 1 s) 4 (omega arith) ∙ sym (carry_low q (0 * j + s) (2 * j) (omega arith))
carry_halves q (suc zero) j zero h l = carry_tie q (2 * 1 + min 1 0) 4 refl ∙ sym (carry_tie q (1 * j + 0) (2 * j) (omega arith))
carry_halves q (suc zero) j (suc s) h l =
    carry_high q (2 * 1 + min 1 (suc s)) 4 (omega arith) ∙ sym (carry_high q (1 * j + suc s) (2 * j) (omega arith))
carry_halves q (suc (suc b)) j s h l = absurd (omega arith)

-- halves counted, and whether anything is left over, are enough to round by
pub nearest_halves : (n j : ℕ) → 0 < j → nearest (2 * (n / j) + min 1 (n % j)) 4 ≡ nearest n (2 * j)
nearest_halves n j h =
    let m = 2 * (n / j) + min 1 (n % j) in
    let q : m / 4 ≡ n / (2 * j) = rw (mul_comm 2 j, ← div-div-eq-div-mul n j 2) (omega arith) in
    let r : m % 4 ≡ 2 * (n / j % 2) + min 1 (n % j) = omega arith in
    rw (nearest_is m 4 (omega arith), nearest_is n (2 * j) (omega arith), q, r, mod-mul n {m = 2} {c = j} (omega arith) h)
    (ap (λ (x : ℕ). n / (2 * j) + x) (carry_halves (n / (2 * j)) (n / j % 2) j (n % j) (omega arith) (mod-lt n h)))
