-- Decimal text: how long it is, that it is the last digits of its number, and so what it should be.
use mathlib.Core.Path.{◌≡◌, refl, sym, ap, ◌∙◌}
use mathlib.Core.Bool.{true, false}
use mathlib.Core.List.{List, [], ◌∷◌, ◌++◌}
use Prim.Native.Nat.{ℕ, zero, suc, ◌+◌, ◌-◌, ◌*◌, ◌/◌, ◌%◌, ◌^◌, ◌≤◌, ◌<◌}
use native.Mathlib.Nat.{le_refl, one-le-pow, pow-succ'}
use native.Mathlib.Numerals.{add-one}
use native.Mathlib.Omega.{arith}
use lib.IntN.{ℤ, pos, negsuc}
use Rattle.std.specs.Prelude.{Option, Some, None, IfNone, IfSome, unwrap_or}
use lib.ListN.{length, take, drop, get_or, length-append}
use Rattle.whole.specs.declared.Signed.{Signed}
use Rattle.whole.specs.Signed.{split_of}
use Rattle.digits.specs.Digits.{nought, last_digits}
use Rattle.digits.specs.Put.{Put}
use Rattle.digits.proofs.Puts.{put_digits}
use Rattle.digits.proofs.Values.{last_are_digits, value_last}
use Rattle.lines.specs.Decimal.{hyphen, digits_in, decimal_of, number_text, DecimalText}

no_digits : (turns : ℕ) → digits_in turns 0 ≡ []
unfolding digits_in
no_digits zero = refl
no_digits (suc turns) = refl

-- ---- how long it is

length_behind : (ds : List ℕ) (d : ℕ) → length (ds ++ (d ∷ [])) ≡ suc (length ds)
length_behind ds d = length-append ds (d ∷ []) ∙ add-one (length ds)

digits_le : (k turns n : ℕ) → n < 10 ^ k → length (digits_in turns n) ≤ k
unfolding digits_in
digits_le k zero n h = omega arith
digits_le k (suc turns) zero h = omega arith
digits_le zero (suc turns) (suc m) h = absurd (omega arith)
digits_le (suc k) (suc turns) (suc m) h =
    let n : ℕ = suc m / 10 in
    let l : length (digits_in turns n) ≤ k = digits_le k turns n (omega arith) in
    rw (length_behind (digits_in turns n) (nought + suc m % 10)) (omega arith)

-- a number below 10 ^ k has k digits at most
pub decimal_le : (k n : ℕ) → 0 < k → n < 10 ^ k → length (decimal_of n) ≤ k
unfolding decimal_of
decimal_le k zero p h = p
decimal_le k (suc m) p h = digits_le k (suc m) (suc m) h

-- so numbers of 8, 32 and 64 bits have 3, 10 and 20
pub decimal_le_8 : (n : ℕ) → n < 2 ^ 8 → length (decimal_of n) ≤ 3
decimal_le_8 n h = decimal_le 3 n (omega arith) (omega arith)

pub decimal_le_32 : (n : ℕ) → n < 2 ^ 32 → length (decimal_of n) ≤ 10
decimal_le_32 n h = decimal_le 10 n (omega arith) (omega arith)

pub decimal_le_64 : (n : ℕ) → n < 2 ^ 64 → length (decimal_of n) ≤ 20
decimal_le_64 n h = decimal_le 20 n (omega arith) (omega arith)

digits_length : (k turns n : ℕ) → n ≤ turns → 10 ^ k ≤ n → n < 10 * 10 ^ k → length (digits_in turns n) ≡ suc k
unfolding digits_in
digits_length k zero n h l u = absurd (omega arith)
digits_length k (suc turns) zero h l u = absurd (omega arith)
digits_length zero (suc turns) (suc m) h l u =
    let e : suc m / 10 ≡ 0 = omega arith in
    rw (e, no_digits turns)
digits_length (suc k) (suc turns) (suc m) h l u =
    length_behind (digits_in turns (suc m / 10)) (nought + suc m % 10)
    ∙ ap suc (digits_length k turns (suc m / 10) (omega arith) (omega arith) (omega arith))

-- a number from 10 ^ k up to 10 ^ (k + 1) has one digit more than k
pub decimal_length : (k n : ℕ) → 0 < n → 10 ^ k ≤ n → n < 10 * 10 ^ k → length (decimal_of n) ≡ suc k
unfolding decimal_of
decimal_length k zero p l u = absurd (omega arith)
decimal_length k (suc m) p l u = digits_length k (suc m) (suc m) (le_refl (suc m)) l u

-- they are one more than its logarithm has whole units, and 0 has one
pub digits_counted : (n : ℕ) (log : Option ℕ) → IfNone log (n ≡ 0) → IfSome log (λ k. 10 ^ k ≤ n) → IfSome log (λ k. n < 10 * 10 ^ k) →
    unwrap_or log 0 + 1 ≡ length (decimal_of n)
unfolding decimal_of
digits_counted n None z l u = rw z
digits_counted zero (Some k) z l u = absurd (omega (arith, one-le-pow k 10 (omega arith)))
digits_counted (suc m) (Some k) z l u = add-one k ∙ sym (decimal_length k (suc m) (omega arith) l u)

-- ---- the digits as they are put

last_digits_in : (turns n : ℕ) → last_digits (length (digits_in turns n)) n ≡ digits_in turns n
unfolding digits_in last_digits
last_digits_in zero n = refl
last_digits_in (suc turns) zero = refl
last_digits_in (suc turns) (suc m) =
    rw (length_behind (digits_in turns (suc m / 10)) (nought + suc m % 10))
    (ap (λ (ds : List ℕ). ds ++ ((nought + suc m % 10) ∷ [])) (last_digits_in turns (suc m / 10)))

pub last_digits_lem : (n : ℕ) → last_digits (length (decimal_of n)) n ≡ decimal_of n
unfolding decimal_of last_digits
last_digits_lem zero = refl
last_digits_lem (suc m) = last_digits_in (suc m) (suc m)

-- the digits of a number put in the place of a part that is as long as they are
pub put_decimal_part : (l part : List ℕ) (at count n : ℕ) → count ≡ length (decimal_of n) → at + count ≤ length l →
    part ≡ last_digits (length (take (at + count - at) (drop at l))) n →
    Put l at (decimal_of n) (at + count) (take at l ++ (part ++ drop (at + count - at) (drop at l)))
put_decimal_part l part at count n e h p =
    let t : last_digits count n ≡ decimal_of n = ap (λ (k : ℕ). last_digits k n) e ∙ last_digits_lem n in
    rw t at (put_digits l part at count n h p)

-- ---- what it is

-- a number has the digits to hold it
digits_hold : (turns n : ℕ) → n ≤ turns → n < 10 ^ length (digits_in turns n)
unfolding digits_in
digits_hold zero n h = omega arith
digits_hold (suc turns) zero h = omega arith
digits_hold (suc turns) (suc m) h =
    let k : ℕ = length (digits_in turns (suc m / 10)) in
    let l : suc m / 10 < 10 ^ k = digits_hold turns (suc m / 10) (omega arith) in
    rw (length_behind (digits_in turns (suc m / 10)) (nought + suc m % 10), pow-succ' 10 k) (omega arith)

decimal_holds : (n : ℕ) → n < 10 ^ length (decimal_of n)
unfolding decimal_of
decimal_holds zero = omega arith
decimal_holds (suc m) = digits_hold (suc m) (suc m) (le_refl (suc m))

-- the first digit of a text and one behind it
first_behind : (ds : List ℕ) (d : ℕ) → nought < get_or ds 0 nought → nought < get_or (ds ++ (d ∷ [])) 0 nought
first_behind [] d h = absurd (omega arith)
first_behind (e ∷ ds) d h = h

first_alone : (ds : List ℕ) (d : ℕ) → ds ≡ [] → nought < d → nought < get_or (ds ++ (d ∷ [])) 0 nought
first_alone ds d e h = rw e h

first_digit : (turns n : ℕ) → n ≤ turns → 0 < n → nought < get_or (digits_in turns n) 0 nought
unfolding digits_in
first_digit zero n h p = absurd (omega arith)
first_digit (suc turns) zero h p = absurd (omega arith)
first_digit (suc turns) (suc m) h p = go (suc m / 10) refl (first_digit turns (suc m / 10) (omega arith))
  where
    go : (q : ℕ) → q ≡ suc m / 10 → (0 < q → nought < get_or (digits_in turns q) 0 nought) →
        nought < get_or (digits_in turns q ++ ((nought + suc m % 10) ∷ [])) 0 nought
    go zero e f = first_alone (digits_in turns 0) (nought + suc m % 10) (no_digits turns) (omega arith)
    go (suc q) e f = first_behind (digits_in turns (suc q)) (nought + suc m % 10) (f (omega arith))

first_decimal : (n : ℕ) → 0 < n → nought < get_or (decimal_of n) 0 nought
unfolding decimal_of
first_decimal zero p = absurd (omega arith)
first_decimal (suc m) p = first_digit (suc m) (suc m) (le_refl (suc m)) p

pub is_decimal : DecimalText
is_decimal n =
    let k : ℕ = length (decimal_of n) in
    record {
      all_digits = rw (last_digits_lem n) at (last_are_digits k n);
      reads_back = rw (last_digits_lem n) at (value_last k n (decimal_holds n));
      no_leading_zero = first_decimal n;
    }

-- ---- signs

pub text_above : (z : ℤ) (s : Signed) → s ≡ split_of z → s.negative ≡ false → number_text z ≡ decimal_of s.size
unfolding number_text
text_above (pos n) s e h = rw e
text_above (negsuc m) s e h = cc

pub text_below : (z : ℤ) (s : Signed) → s ≡ split_of z → s.negative ≡ true → number_text z ≡ hyphen ∷ decimal_of s.size
unfolding number_text
text_below (pos n) s e h = cc
text_below (negsuc m) s e h = rw e
