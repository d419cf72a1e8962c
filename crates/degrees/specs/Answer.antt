-- What each call on floats answers: the first refusal that applies in document 01's order, or else the place or the
-- position at the numbers read, written as floats.
use Rattle.std.specs.Prelude.{List, [], ◌∷◌, ℕ, ℤ, Float}
use Rattle.parallel.specs.Table.{row_of}
use Rattle.refusal.specs.Outcome.{Rule, Outcome, unless}
use Rattle.parallel.specs.Refusal.{bad_kind}
use Rattle.projection.specs.Forward.{place_of}
use Rattle.projection.specs.Inverse.{position_of}
use Rattle.projection.specs.Answer.{row_order}
use Rattle.reading.specs.Reading.{centiseconds, units}
use Rattle.degrees.specs.declared.writing.Degrees.{Degrees}
use Rattle.degrees.specs.Writing.{degrees_of, units_of}
use Rattle.degrees.specs.Refusal.{bad_float, bad_central, bad_longitude, bad_latitude}

-- a position of the code as a pair: longitude and latitude
abbrev pub pair_of : Degrees → Float × Float
pair_of at = (at.longitude, at.latitude)

-- the order of the refusals, call by call: 2 for any of the three floats
abbrev pub forward_order : ℕ → Float → Float → Float → List Rule
forward_order kind central longitude latitude =
    bad_kind kind ∷ bad_float central ∷ bad_float longitude ∷ bad_float latitude ∷ bad_central central ∷ bad_longitude longitude
    ∷ bad_latitude latitude ∷ []

-- a place is rounded, however large it is, and then judged as a place
abbrev pub inverse_order : ℕ → Float → Float → Float → List Rule
inverse_order kind central x y =
    bad_kind kind ∷ bad_float central ∷ bad_float x ∷ bad_float y ∷ bad_central central ∷ row_order (row_of kind) (units x) (units y)

-- a pair of whole numbers, written
abbrev pub written_place : ℤ × ℤ → Float × Float
written_place p = (units_of p.0, units_of p.1)

abbrev pub written_position : ℤ × ℤ → Float × Float
written_position p = (degrees_of p.0, degrees_of p.1)

-- a position in degrees sent forward: x and y
unfoldable pub forward_of : ℕ → Float → Float → Float → Outcome (Float × Float)
forward_of kind central longitude latitude =
    unless (forward_order kind central longitude latitude)
    (written_place (place_of (row_of kind) (centiseconds central) (centiseconds longitude) (centiseconds latitude)))

-- a place sent back: longitude and latitude in degrees
unfoldable pub inverse_of : ℕ → Float → Float → Float → Outcome (Float × Float)
inverse_of kind central x y =
    unless (inverse_order kind central x y) (written_position (position_of (row_of kind) (centiseconds central) (units x) (units y)))
