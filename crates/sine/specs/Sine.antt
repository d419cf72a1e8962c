-- The house sine: between the entries of its table the straight line, rounded down.
use Rattle.std.specs.Prelude.{ℕ, suc, ◌+◌, ◌*◌, ◌-◌, ◌/◌, ◌%◌, min, get_or}
use Rattle.angle.specs.Angle.{H}
use Rattle.sine.specs.Table.{table}

-- an arcminute in hundredths of an arcsecond
abbrev pub minute : ℕ
minute = 6000

-- one in billionths
abbrev pub billion : ℕ
billion = 1000000000

-- the straight line from the entry at the place i to the next, f hundredths of an arcsecond on, rounded down
unfoldable pub line : ℕ → ℕ → ℕ
line i f = (get_or table i 0 * (minute - f) + get_or table (suc i) 0 * f) / minute

-- the sine of c hundredths of an arcsecond; past 90 degrees, which no projection asks for, it stays
unfoldable pub sine_of : ℕ → ℕ
sine_of c = line (min c H / minute) (min c H % minute)

-- the cosine: the sine of 90 degrees less p
unfoldable pub cosine_of : ℕ → ℕ
cosine_of p = sine_of (H - p)
