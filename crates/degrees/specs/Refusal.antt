-- The refusals of floats, judged on their own values before anything is rounded.
use Rattle.std.specs.Prelude.{not, Float}
use Rattle.std.specs.Float.Ieee.Scale.{finite}
use Rattle.refusal.specs.Outcome.{Rule}
use Rattle.reading.specs.Reading.{outside}

-- 2: a float is NaN or infinite
abbrev pub bad_float : Float → Rule
bad_float x = record { number = 2; applies = not (finite x) }

-- 3: central meridian outside 180 degrees either way
abbrev pub bad_central : Float → Rule
bad_central central = record { number = 3; applies = outside 180 central }

-- 4: longitude outside 180 degrees either way
abbrev pub bad_longitude : Float → Rule
bad_longitude longitude = record { number = 4; applies = outside 180 longitude }

-- 5: latitude outside 90 degrees either way
abbrev pub bad_latitude : Float → Rule
bad_latitude latitude = record { number = 5; applies = outside 90 latitude }
