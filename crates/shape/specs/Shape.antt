-- The shape of a position's text, as +450000.00+0900000.00/: what may stand at each of its 22 places.
use Rattle.std.specs.Prelude.{Bool, true, false, cond, List, [], ◌∷◌, ℕ, eqb}
use Rattle.digits.specs.Digits.{is_digit}

-- '+', '-', '.' and '/'
abbrev pub plus : ℕ
plus = 43

abbrev pub minus : ℕ
minus = 45

abbrev pub point : ℕ
point = 46

abbrev pub slash : ℕ
slash = 47

abbrev pub is_sign : ℕ → Bool
is_sign byte = cond (eqb byte plus) true (eqb byte minus)

pub data Place : Type 0 where
  Sign : Place
  Digit : Place
  Point : Place
  Slash : Place

abbrev pub may_stand : Place → ℕ → Bool
may_stand Sign byte = is_sign byte
may_stand Digit byte = is_digit byte
may_stand Point byte = eqb byte point
may_stand Slash byte = eqb byte slash

-- the latitude's places and then the longitude's: a sign, two or three digits of degrees, two of minutes, two of seconds, a point
-- and two decimals; and the slash
unfoldable pub shape : List Place
shape =
    Sign ∷ Digit ∷ Digit ∷ Digit ∷ Digit ∷ Digit ∷ Digit ∷ Point ∷ Digit ∷ Digit
    ∷ Sign ∷ Digit ∷ Digit ∷ Digit ∷ Digit ∷ Digit ∷ Digit ∷ Digit ∷ Point ∷ Digit ∷ Digit
    ∷ Slash ∷ []

-- the length of a text
abbrev pub size : ℕ
size = 22

-- there is a byte for each place and none besides, and each may stand at its own
unfoldable pub stand : List Place → List ℕ → Bool
stand [] [] = true
stand [] (byte ∷ bytes) = false
stand (place ∷ places) [] = false
stand (place ∷ places) (byte ∷ bytes) = cond (may_stand place byte) (stand places bytes) false
