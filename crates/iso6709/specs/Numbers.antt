-- What the private functions that read a part ask for: digits, and numbers that fit.
use Rattle.std.specs.Prelude.{List, ℕ, ◌+◌, ◌≤◌, ◌<◌, length}
use Rattle.digits.specs.Digits.{AllDigits}
use Rattle.angle.specs.declared.sexagesimal.Sexagesimal.{Sexagesimal}
use Rattle.iso6709.specs.Part.{bytes_at}

-- digits stand where they are read
pub record HasDigits (text : List ℕ) (at width : ℕ) : Type 0 where
  pub narrow : width ≤ 3
  pub room : at + 1 + width + 7 ≤ length text
  pub degrees : AllDigits (bytes_at text (at + 1) width)
  pub minutes : AllDigits (bytes_at text (at + 1 + width) 2)
  pub seconds : AllDigits (bytes_at text (at + 1 + width + 2) 2)
  pub hundredths : AllDigits (bytes_at text (at + 1 + width + 5) 2)

-- three digits of degrees and two of each other number can hold it
pub record Narrow (t : Sexagesimal) : Type 0 where
  pub degrees : t.degrees < 1000
  pub minutes : t.minutes < 100
  pub seconds : t.seconds < 100
  pub hundredths : t.hundredths < 100
