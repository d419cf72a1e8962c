-- The table of the house sine: an entry for each arcminute from 0 to 90 degrees, in billionths.
use Rattle.std.specs.Prelude.{List, [], ◌∷◌, ℕ, zero, suc, ◌^◌}
use Rattle.whole.specs.Nearest.{nearest}
use Rattle.sine.specs.Series.{angle, series}

-- the sine of i arcminutes: nearest to the series
unfoldable pub entry_of : ℕ → ℕ
entry_of i = nearest (series (angle i)) (10 ^ 15)

-- n entries, from that of i arcminutes on
unfoldable pub entries_from : ℕ → ℕ → List ℕ
entries_from i zero = []
entries_from i (suc n) = entry_of i ∷ entries_from (suc i) n

unfoldable pub table : List ℕ
table = entries_from 0 5401

-- the place of the last entry, that of 90 degrees
abbrev pub last_place : ℕ
last_place = 5400
