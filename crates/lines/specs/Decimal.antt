-- Numbers as decimal text, in ASCII.
use Rattle.std.specs.Prelude.{◌≡◌, List, [], ◌∷◌, ◌++◌, ℕ, zero, suc, ◌+◌, ◌/◌, ◌%◌, ◌<◌, ℤ, pos, negsuc, get_or}
use Rattle.digits.specs.Digits.{nought, AllDigits, value_of}

-- '-'
abbrev pub hyphen : ℕ
hyphen = 45

-- the digits of n, the most significant first: those of n / 10, and then the last; 0 has none, and n / 10 is 0 after at most
-- n turns
unfoldable pub digits_in : ℕ → ℕ → List ℕ
digits_in zero n = []
digits_in (suc turns) zero = []
digits_in (suc turns) (suc m) = let n = suc m in digits_in turns (n / 10) ++ ((nought + n % 10) ∷ [])

-- a whole number: its digits, and "0" for 0
unfoldable pub decimal_of : ℕ → List ℕ
decimal_of zero = nought ∷ []
decimal_of (suc m) = digits_in (suc m) (suc m)

-- a number below 0 has a minus sign in front of its size
unfoldable pub number_text : ℤ → List ℕ
number_text (pos n) = decimal_of n
number_text (negsuc m) = hyphen ∷ decimal_of (suc m)

-- what makes it the decimal text: digits, which read back are the number, with no zero in front but for 0 itself
pub record IsDecimal (n : ℕ) (text : List ℕ) : Type 0 where
  pub all_digits : AllDigits text
  pub reads_back : value_of text ≡ n
  pub no_leading_zero : 0 < n → nought < get_or text 0 nought

abbrev pub DecimalText : Type 0
DecimalText = (n : ℕ) → IsDecimal n (decimal_of n)
