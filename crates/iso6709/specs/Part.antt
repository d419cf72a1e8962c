-- The part of a text for an angle: a sign, digits of degrees, two of minutes, two of seconds, a point and two decimals.
use Rattle.std.specs.Prelude.{Bool, true, false, List, ◌∷◌, ◌++◌, ℕ, ◌+◌, eqb, get_or, take, drop}
use Rattle.digits.specs.Digits.{last_digits, value_of}
use Rattle.angle.specs.declared.sexagesimal.Sexagesimal.{Sexagesimal}
use Rattle.shape.specs.Shape.{plus, minus, point}

-- so many bytes of a text from a place on
abbrev pub bytes_at : List ℕ → ℕ → ℕ → List ℕ
bytes_at text at count = take count (drop at text)

-- the angle that a part's digits stand for; the part begins at a place and has so many digits of degrees
unfoldable pub part_at : List ℕ → ℕ → ℕ → Sexagesimal
part_at text at width =
    record {
      negative = eqb (get_or text at 0) minus;
      degrees = value_of (bytes_at text (at + 1) width);
      minutes = value_of (bytes_at text (at + 1 + width) 2);
      seconds = value_of (bytes_at text (at + 1 + width + 2) 2);
      hundredths = value_of (bytes_at text (at + 1 + width + 5) 2);
    }

-- the part of an angle
abbrev pub sign_of : Bool → ℕ
sign_of true = minus
sign_of false = plus

-- minutes, seconds and decimals
abbrev pub minutes_of : Sexagesimal → List ℕ
minutes_of t = last_digits 2 t.minutes ++ (last_digits 2 t.seconds ++ (point ∷ last_digits 2 t.hundredths))

unfoldable pub part_of : ℕ → Sexagesimal → List ℕ
part_of width t = sign_of t.negative ∷ (last_digits width t.degrees ++ minutes_of t)
