-- How whole numbers are written as floats.
use Rattle.std.specs.Prelude.{ℤ, pos, Float}
use Rattle.std.specs.Float.{binary64}
use Rattle.std.specs.Float.Ieee.{of_int, div}
use Rattle.angle.specs.Angle.{per_degree}

-- hundredths of an arcsecond as degrees: divided by the float of per_degree, rounded once
unfoldable pub degrees_of : ℤ → Float
degrees_of z = div binary64 (of_int binary64 z) (of_int binary64 (pos per_degree))

-- map units, exactly
unfoldable pub units_of : ℤ → Float
units_of z = of_int binary64 z
