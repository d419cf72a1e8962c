-- The sine series, in whole units of 10^-24.
use Rattle.std.specs.Prelude.{ℕ, zero, suc, ◌+◌, ◌*◌, ◌-◌, ◌/◌, ◌^◌}

-- one, and pi by its 20 decimals
abbrev pub one : ℕ
one = 10 ^ 24

abbrev pub pi : ℕ
pi = 314159265358979323846 * 10 ^ 4

-- the angle of i arcminutes, of which pi has 10,800, rounded down
unfoldable pub angle : ℕ → ℕ
angle i = pi * i / 10800

-- the size of the term that follows t, the term of the power n: t times the angle squared over the next two factors, rounded down
unfoldable pub next : ℕ → ℕ → ℕ → ℕ
next a n t = t * (a * a) / (one * one * ((n + 1) * (n + 2)))

-- from t, the term of the power n, so many terms more are taken away and added by turns
unfoldable pub alternating : ℕ → ℕ → ℕ → ℕ → ℕ
alternating zero a n t = t
alternating (suc more) a n t = t - alternating more a (n + 2) (next a n t)

-- the first power is the angle itself, and ten terms more lead to the 21st
unfoldable pub series : ℕ → ℕ
series a = alternating 10 a 1 a
