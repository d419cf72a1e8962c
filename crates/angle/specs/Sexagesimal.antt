-- An angle in degrees, minutes, seconds and hundredths of a second.
use Rattle.std.specs.Prelude.{Bool, false, cond, ℕ, ◌+◌, ◌*◌, ◌/◌, ◌%◌, ltb}
use Rattle.whole.specs.declared.Signed.{Signed}
use Rattle.angle.specs.Angle.{per_second, per_minute, per_degree}
use Rattle.angle.specs.declared.sexagesimal.Sexagesimal.{Sexagesimal}

-- an angle's sign and size so, and back
abbrev pub sexagesimal_of : Signed → Sexagesimal
sexagesimal_of s =
    record {
      negative = s.negative;
      degrees = s.size / per_degree;
      minutes = s.size / per_minute % 60;
      seconds = s.size / per_second % 60;
      hundredths = s.size % per_second;
    }

abbrev pub size_of : Sexagesimal → ℕ
size_of t = t.degrees * per_degree + t.minutes * per_minute + t.seconds * per_second + t.hundredths

abbrev pub signed_of : Sexagesimal → Signed
signed_of t = record { negative = t.negative; size = size_of t }

abbrev pub below_sixty : Sexagesimal → Bool
below_sixty t = cond (ltb t.minutes 60) (ltb t.seconds 60) false
