-- How a float is read: the whole number nearest to a multiple of its exact value, which is m * 2 ^ e with the sign s;
-- 2 ^ e is up e / down e.
use Rattle.std.specs.Prelude.{Bool, true, false, ℕ, ◌*◌, ltb, ℤ, pos, Float}
use Rattle.std.specs.Float.{nan, inf, fin}
use Rattle.std.specs.Float.Ieee.{up, down}
use Rattle.whole.specs.Nearest.{nearest}
use Rattle.whole.specs.Signed.{with_sign}
use Rattle.angle.specs.Angle.{per_degree}

-- the whole number nearest to k times a float. A float that is no number counts as 0; forward
-- and inverse refuse it before they read it
unfoldable pub read_of : ℕ → Float → ℤ
read_of k nan = pos 0
read_of k (inf s) = pos 0
read_of k (fin s m e) = with_sign s (nearest (m * up e * k) (down e))

-- degrees as hundredths of an arcsecond, and a coordinate of a place as map units
abbrev pub centiseconds : Float → ℤ
centiseconds x = read_of per_degree x

abbrev pub units : Float → ℤ
units x = read_of 1 x

-- whether a float's own value is farther from 0 than n, either way
unfoldable pub outside : ℕ → Float → Bool
outside n nan = false
outside n (inf s) = true
outside n (fin s m e) = ltb (n * down e) (m * up e)
