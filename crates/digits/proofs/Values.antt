-- Digits and the number that they stand for: each gives back the other.
use mathlib.Core.Path.{◌≡◌, refl, sym, ap, ◌∙◌}
use mathlib.Core.Bool.{Bool, true, false, cond, false≢true}
use mathlib.Core.List.{List, [], ◌∷◌, ◌++◌, append-nil}
use Prim.Native.Nat.{ℕ, zero, suc, ◌+◌, ◌-◌, ◌*◌, ◌/◌, ◌%◌, ◌^◌, ◌≤◌, ◌<◌}
use native.Mathlib.Nat.{add-zero, zero-add, le_refl, le_of_suc-le-suc, not-suc-le-zero, mul_assoc, mul-le-mul_right, pow-succ'}
use native.Mathlib.Numerals.{add-one}
use native.Mathlib.Omega.{arith}
use borrow.Author.Tests.{le-leb, leb-true}
use lib.Dec.{leb}
use lib.ListN.{length, get_or, drop, set, length-append}
use lib.Seq.{drop-cons, append_snoc}
use Rattle.std.proofs.lemmas.List.{drop-set}
use Rattle.digits.specs.Digits.{nought, nine, is_digit, AllDigits, last_digits, value_from, value_of}

-- ---- a digit

pub digit_range : (d : ℕ) → is_digit d ≡ true → (nought ≤ d) × (d ≤ nine)
digit_range d e = go (leb nought d) refl e
  where
    go : (b : Bool) → leb nought d ≡ b → cond b (leb d nine) false ≡ true → (nought ≤ d) × (d ≤ nine)
    go true l u = (leb-true nought d l, leb-true d nine u)
    go false l u = absurd (false≢true u)

pub digit_in : (d : ℕ) → nought ≤ d → d ≤ nine → is_digit d ≡ true
digit_in d l u = rw (le-leb nought d l) (le-leb d nine u)

-- ---- the last digits

pub last_digit : (n : ℕ) → is_digit (nought + n % 10) ≡ true
last_digit n = digit_in (nought + n % 10) (omega arith) (omega arith)

pub last_length : (k n : ℕ) → length (last_digits k n) ≡ k
unfolding last_digits
last_length zero n = refl
last_length (suc k) n =
    length-append (last_digits k (n / 10)) ((nought + n % 10) ∷ []) ∙ add-one (length (last_digits k (n / 10))) ∙ ap suc (last_length k (n / 10))

-- a digit put in front of those that stand: the last of the number that is left
pub digit_put : (piece : List ℕ) (i n : ℕ) → 0 < i → i ≤ length piece →
    last_digits (i - 1) (n / 10) ++ drop (i - 1) (set piece (i - 1) (nought + n % 10)) ≡ last_digits i n ++ drop i piece
unfolding last_digits
digit_put piece zero n h k = absurd (omega arith)
digit_put piece (suc i) n h k =
    let e : suc i - 1 ≡ i = omega arith in
    rw (e, drop-set piece i (nought + n % 10) k, add-one i) (sym (append_snoc (last_digits i (n / 10)) (nought + n % 10) (drop (suc i) piece)))

digits_behind : (ds : List ℕ) (d : ℕ) → AllDigits ds → is_digit d ≡ true → AllDigits (ds ++ (d ∷ []))
digits_behind [] d a e = (e, tt)
digits_behind (c ∷ ds) d a e = (a.0, digits_behind ds d a.1 e)

pub last_are_digits : (k n : ℕ) → AllDigits (last_digits k n)
unfolding last_digits
last_are_digits zero n = tt
last_are_digits (suc k) n =
    digits_behind (last_digits k (n / 10)) (nought + n % 10) (last_are_digits k (n / 10)) (last_digit n)

-- ---- the number

value_behind : (ds : List ℕ) (v d : ℕ) → value_from v (ds ++ (d ∷ [])) ≡ value_from v ds * 10 + (d - nought)
unfolding value_from
value_behind [] v d = refl
value_behind (e ∷ ds) v d = value_behind ds (v * 10 + (e - nought)) d

-- a number below 10 ^ k is the one that its last k digits stand for
pub value_last : (k n : ℕ) → n < 10 ^ k → value_of (last_digits k n) ≡ n
unfolding last_digits value_from
value_last zero n h = omega arith
value_last (suc k) n h =
    let e : value_of (last_digits k (n / 10)) ≡ n / 10 = value_last k (n / 10) (omega arith) in
    value_behind (last_digits k (n / 10)) 0 (nought + n % 10) ∙ rw e (omega arith)

-- digits read behind v, of which the last k stand before them
last_from : (ds : List ℕ) (k v : ℕ) → AllDigits ds → last_digits (k + length ds) (value_from v ds) ≡ last_digits k v ++ ds
unfolding value_from last_digits
last_from [] k v a = rw (add-zero k) (sym (append-nil (last_digits k v)))
last_from (d ∷ ds) k v a =
    let r = digit_range d a.0 in
    let n : k + length (d ∷ ds) ≡ suc k + length ds = omega arith in
    let q : (v * 10 + (d - nought)) / 10 ≡ v = omega arith in
    let m : nought + (v * 10 + (d - nought)) % 10 ≡ d = omega arith in
    rw n (last_from ds (suc k) (v * 10 + (d - nought)) a.1 ∙ rw (q, m) (append_snoc (last_digits k v) d ds))

-- digits are the last ones of the number that they stand for
pub last_value : (ds : List ℕ) → AllDigits ds → last_digits (length ds) (value_of ds) ≡ ds
unfolding last_digits
last_value ds a = rw (zero-add (length ds)) at (last_from ds 0 0 a)

-- ---- digits one after the other

pub value_next : (ds : List ℕ) (v i : ℕ) → i < length ds → value_from v (drop i ds) ≡ value_from (v * 10 + (get_or ds i 0 - nought)) (drop (suc i) ds)
unfolding value_from
value_next ds v i h = rw (drop-cons ds i 0 h)

pub digit_at : (ds : List ℕ) (i : ℕ) → AllDigits ds → i < length ds → is_digit (get_or ds i 0) ≡ true
digit_at [] i a h = absurd (not-suc-le-zero h)
digit_at (d ∷ ds) zero a h = a.0
digit_at (d ∷ ds) (suc i) a h = digit_at ds i a.1 (le_of_suc-le-suc h)

-- what was read before is never more than what is read
pub value_grows : (ds : List ℕ) (v : ℕ) → v ≤ value_from v ds
unfolding value_from
value_grows [] v = le_refl v
value_grows (d ∷ ds) v = let h = value_grows ds (v * 10 + (d - nought)) in omega arith

value_from_below : (ds : List ℕ) (v : ℕ) → AllDigits ds → value_from v ds < suc v * 10 ^ length ds
unfolding value_from
value_from_below [] v a = omega arith
value_from_below (d ∷ ds) v a =
    let w : ℕ = v * 10 + (d - nought) in
    let p : ℕ = 10 ^ length ds in
    let r = digit_range d a.0 in
    let h : suc w * p ≤ suc v * 10 * p = mul-le-mul_right p (omega arith) in
    let e : suc v * 10 * p ≡ suc v * 10 ^ suc (length ds) = mul_assoc (suc v) 10 p ∙ ap (λ (q : ℕ). suc v * q) (sym (pow-succ' 10 (length ds))) in
    omega (arith, value_from_below ds w a.1, e)

-- k digits stand for a number below 10 ^ k
pub value_below : (ds : List ℕ) → AllDigits ds → value_of ds < 10 ^ length ds
value_below ds a = let h = value_from_below ds 0 a in omega arith
