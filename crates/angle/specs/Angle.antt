-- The numbers of the angle's unit, the hundredth of an arcsecond ("centisecond" of document 01): those in a degree, a minute and a
-- second, N, H and M.
use Rattle.std.specs.Prelude.{Bool, ℕ, ◌*◌, ◌/◌, ltb, ℤ, nat_abs}
use Rattle.whole.specs.Signed.{plus, minus}

-- a degree, a minute and a second
abbrev pub per_degree : ℕ
per_degree = 360000

abbrev pub per_minute : ℕ
per_minute = per_degree / 60

abbrev pub per_second : ℕ
per_second = per_minute / 60

-- 180 degrees
abbrev pub N : ℕ
N = 64800000

-- 90 degrees
abbrev pub H : ℕ
H = N / 2

-- 32 times 180 degrees
abbrev pub M : ℕ
M = 32 * N

-- farther from 0 than n, either way
abbrev pub outside : ℕ → ℤ → Bool
outside n z = ltb n (nat_abs z)

-- greater than n, and less than -n
abbrev pub above : ℕ → ℤ → Bool
above n z = ltb n (plus z)

abbrev pub below : ℕ → ℤ → Bool
below n z = ltb n (minus z)
