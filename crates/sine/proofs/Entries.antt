-- The entries of the table: what stands at each place, that they never fall, and that none passes one.
use mathlib.Core.Path.{◌≡◌, refl, ap, ◌∙◌}
use Prim.Native.Nat.{ℕ, zero, suc, ◌+◌, ◌<◌, ◌≤◌}
use native.Mathlib.Nat.{add-zero, zero-add, le_of_suc-le-suc, not-suc-le-zero}
use native.Mathlib.Omega.{arith}
use lib.Dec.{T}
use lib.ListN.{length, get_or}
use Rattle.whole.specs.Nearest.{nearest, carry}
use Rattle.whole.proofs.Everywhere.{rising, rising_at, climbs}
use Rattle.sine.specs.Series.{angle, next, alternating, series}
use Rattle.sine.specs.Table.{entry_of, entries_from, table, last_place}
use Rattle.sine.specs.Sine.{billion}

listed : (i n k : ℕ) → k < n → get_or (entries_from i n) k 0 ≡ entry_of (i + k)
unfolding entries_from
listed i zero k h = absurd (not-suc-le-zero h)
listed i (suc n) zero h = rw (add-zero i)
listed i (suc n) (suc k) h = let e : suc i + k ≡ i + suc k = omega arith in rw (← e) (listed (suc i) n k (le_of_suc-le-suc h))

counted : (i n : ℕ) → length (entries_from i n) ≡ n
unfolding entries_from
counted i zero = refl
counted i (suc n) = rw (counted (suc i) n)

pub table_at : (i : ℕ) → i ≤ last_place → get_or table i 0 ≡ entry_of i
unfolding table
table_at i h = listed 0 5401 i (omega arith) ∙ ap entry_of (zero-add i)

pub table_length : length table ≡ suc last_place
unfolding table
table_length = counted 0 5401

pub first_entry : entry_of 0 ≡ 0
unfolding entry_of series alternating next angle nearest carry
first_entry = refl

pub last_entry : entry_of last_place ≡ billion
unfolding entry_of series alternating next angle nearest carry
last_entry = refl

all_rise : T (rising entry_of last_place (entry_of last_place))
unfolding entry_of series alternating next angle nearest carry
all_rise = tt

pub entries_mono : {i j : ℕ} → i ≤ j → j ≤ last_place → entry_of i ≤ entry_of j
entries_mono {i} {j} h l = climbs entry_of last_place (rising_at entry_of last_place (entry_of last_place) all_rise refl) j h l
