-- That the house sine is order 5's: the series, the table and the line by the request's numerals, and what holds of every place.
use Rattle.std.specs.Prelude.{◌≡◌, ℕ, zero, suc, ◌+◌, ◌*◌, ◌-◌, ◌^◌, ◌≤◌, ◌<◌, length, get_or}
use Rattle.whole.specs.Nearest.{nearest}
use Rattle.angle.specs.Angle.{per_degree, H}
use Rattle.sine.specs.Series.{angle, next, series}
use Rattle.sine.specs.Table.{table}
use Rattle.sine.specs.Sine.{sine_of, cosine_of}

-- k is n / d rounded down
pub record IsFloor (n d k : ℕ) : Type 0 where
  pub low : d * k ≤ n
  pub high : n < d * k + d

-- the entry at a place of the table
abbrev pub entry_at : ℕ → ℕ
entry_at i = get_or table i 0

-- the size of the term of the power 2 k + 1, at an angle
unfoldable pub term_of : ℕ → ℕ → ℕ
term_of a zero = a
term_of a (suc k) = next a (2 * k + 1) (term_of a k)

pub record HouseSine : Type 0 where
  -- in units of 10^-24: the angle of i arcminutes by pi, and the term that follows the term t of the power n, each rounded down once
  pub angles : (i : ℕ) → IsFloor (3141592653589793238460000 * i) 10800 (angle i)
  pub terms : (a n t : ℕ) → IsFloor (t * (a * a)) (10 ^ 24 * 10 ^ 24 * ((n + 1) * (n + 2))) (next a n t)
  -- the terms of the powers 1, 5, .. 21 less those of 3, 7, .. 19, up to an angle of two, which is past 90 degrees
  pub cut : (a : ℕ) → a ≤ 2 * 10 ^ 24 →
      series a + (term_of a 1 + term_of a 3 + term_of a 5 + term_of a 7 + term_of a 9)
      ≡ term_of a 0 + term_of a 2 + term_of a 4 + term_of a 6 + term_of a 8 + term_of a 10
  -- 5,401 entries, each nearest to the series in billionths, from 0 to one, and never falling
  pub entries : length table ≡ 5401
  pub entry : (i : ℕ) → i ≤ 5400 → entry_at i ≡ nearest (series (angle i)) (10 ^ 15)
  pub first_entry : entry_at 0 ≡ 0
  pub last_entry : entry_at 5400 ≡ 1000000000
  pub entries_rise : (i j : ℕ) → i ≤ j → j ≤ 5400 → entry_at i ≤ entry_at j
  -- an arcminute is a sixtieth of a degree, and the last entry is that of 90 degrees
  pub sixtieth : 60 * 6000 ≡ per_degree
  pub quarter : 6000 * 5400 ≡ H
  -- between two entries the straight line, rounded down
  pub line : (i f : ℕ) → i < 5400 → f < 6000 → IsFloor (entry_at i * (6000 - f) + entry_at (suc i) * f) 6000 (sine_of (6000 * i + f))
  pub right_angle : sine_of H ≡ 1000000000
  -- the sine never falls and never passes one
  pub sine_rises : (c d : ℕ) → c ≤ d → sine_of c ≤ sine_of d
  pub sine_most : (c : ℕ) → sine_of c ≤ 1000000000
  -- the cosine, and what it is at the Equator, at 60 degrees and at a pole
  pub cosine : (p : ℕ) → cosine_of p ≡ sine_of (H - p)
  pub cosine_most : cosine_of 0 ≡ 1000000000
  pub cosine_half : cosine_of 21600000 ≡ 500000000
  pub cosine_least : cosine_of 32400000 ≡ 0
