-- The floats that are written: degrees, divided by 360,000 and rounded once, and places, exactly. Read in again, they give
-- the same numbers.
use Rattle.std.specs.Prelude.{true, false, ◌≡◌, ◌≤◌, ◌^◌, Float, ℤ, pos, nat_abs}
use Rattle.std.specs.Float.{fin}
use Rattle.std.specs.Float.Ieee.Exact.{HasValue}
use Rattle.std.specs.Float.Ieee.Scale.{finite}
use Rattle.whole.specs.Signed.{split_of}
use Rattle.angle.specs.Angle.{N, H}
use Rattle.reading.specs.Reading.{centiseconds, units, outside}
use Rattle.degrees.specs.Writing.{degrees_of, units_of}

-- the float of z hundredths of an arcsecond
pub record DegreesBack (z : ℤ) : Type 0 where
  pub is_finite : finite (degrees_of z) ≡ true
  pub within_180 : outside 180 (degrees_of z) ≡ false
  pub within_90 : nat_abs z ≤ H → outside 90 (degrees_of z) ≡ false
  pub same : centiseconds (degrees_of z) ≡ z

-- the float of z map units: its value is z, with z's sign
pub record UnitsBack (z : ℤ) : Type 0 where
  pub exact : HasValue (units_of z) (split_of z).negative (nat_abs z) 1
  pub same : units (units_of z) ≡ z

abbrev pub positive_zero : Float
positive_zero = fin false 0 (pos 0)

pub record Written : Type 0 where
  pub degrees : (z : ℤ) → nat_abs z ≤ N → DegreesBack z
  -- every number of 32 bits
  pub places : (z : ℤ) → nat_abs z ≤ 2 ^ 31 → UnitsBack z
  pub zero_degrees : degrees_of (pos 0) ≡ positive_zero
  pub zero_units : units_of (pos 0) ≡ positive_zero
