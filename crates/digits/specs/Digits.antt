-- Decimal digits, in ASCII: the last ones of a number, and the number that digits stand for.
use Rattle.std.specs.Prelude.{Bool, true, false, cond, List, [], ◌∷◌, ◌++◌, ◌≡◌, ℕ, zero, suc, ◌+◌, ◌-◌, ◌*◌, ◌/◌, ◌%◌, leb}

-- '0' and '9'
abbrev pub nought : ℕ
nought = 48

abbrev pub nine : ℕ
nine = 57

abbrev pub is_digit : ℕ → Bool
is_digit byte = cond (leb nought byte) (leb byte nine) false

-- nothing but digits
abbrev pub AllDigits : List ℕ → Type 0
AllDigits [] = Unit {0}
AllDigits (d ∷ ds) = (is_digit d ≡ true) × AllDigits ds

-- the last k digits of n, with zeros in front where it has fewer
unfoldable pub last_digits : ℕ → ℕ → List ℕ
last_digits zero n = []
last_digits (suc k) n = last_digits k (n / 10) ++ ((nought + n % 10) ∷ [])

-- the number of a text of digits, read from its front behind what was read before
unfoldable pub value_from : ℕ → List ℕ → ℕ
value_from v [] = v
value_from v (d ∷ ds) = value_from (v * 10 + (d - nought)) ds

abbrev pub value_of : List ℕ → ℕ
value_of ds = value_from 0 ds
