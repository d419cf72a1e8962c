-- What reading a text and writing one answer, and what the lent text holds afterwards.
use Rattle.std.specs.Prelude.{List, [], ◌∷◌, ◌++◌, ℕ, ℤ, length}
use Rattle.whole.specs.declared.Signed.{Signed}
use Rattle.whole.specs.Signed.{split_of, join_of}
use Rattle.refusal.specs.Outcome.{Rule, Outcome, unless}
use Rattle.parallel.specs.Refusal.{bad_latitude}
use Rattle.projection.specs.Refusal.{bad_longitude}
use Rattle.angle.specs.declared.sexagesimal.Sexagesimal.{Sexagesimal}
use Rattle.angle.specs.Sexagesimal.{sexagesimal_of, signed_of}
use Rattle.shape.specs.Shape.{slash}
use Rattle.iso6709.specs.Part.{part_at, part_of}
use Rattle.iso6709.specs.Refusal.{bad_length, bad_shape, bad_sixties, bad_zero}

-- the angles in a text, the latitude's part first
abbrev pub latitude_in : List ℕ → Sexagesimal
latitude_in text = part_at text 0 2

abbrev pub longitude_in : List ℕ → Sexagesimal
longitude_in text = part_at text 10 3

-- a position: longitude and latitude
abbrev pub position_in : Signed → Signed → ℤ × ℤ
position_in longitude latitude = (join_of longitude, join_of latitude)

-- the order of the refusals of a text, and of what stands in it: two angles as they are written, and by sign and size
abbrev pub position_order : Signed → Signed → List Rule
position_order longitude latitude = bad_zero longitude latitude ∷ bad_latitude (join_of latitude) ∷ bad_longitude (join_of longitude) ∷ []

abbrev pub angles_order : Sexagesimal → Sexagesimal → List Rule
angles_order longitude latitude = bad_sixties longitude latitude ∷ position_order (signed_of longitude) (signed_of latitude)

abbrev pub read_order : List ℕ → List Rule
read_order text = bad_length (length text) ∷ bad_shape text ∷ angles_order (longitude_in text) (latitude_in text)

-- what each is answered
unfoldable pub position_of : Signed → Signed → Outcome (ℤ × ℤ)
position_of longitude latitude = unless (position_order longitude latitude) (position_in longitude latitude)

unfoldable pub angles_of : Sexagesimal → Sexagesimal → Outcome (ℤ × ℤ)
angles_of longitude latitude = unless (angles_order longitude latitude) (position_in (signed_of longitude) (signed_of latitude))

unfoldable pub read_of : List ℕ → Outcome (ℤ × ℤ)
read_of text = unless (read_order text) (position_in (signed_of (longitude_in text)) (signed_of (latitude_in text)))

-- the text of two angles, and of a position
unfoldable pub both_of : Sexagesimal → Sexagesimal → List ℕ
both_of longitude latitude = part_of 2 latitude ++ (part_of 3 longitude ++ (slash ∷ []))

abbrev pub text_of : ℤ → ℤ → List ℕ
text_of longitude latitude = both_of (sexagesimal_of (split_of longitude)) (sexagesimal_of (split_of latitude))

-- what a position is answered, for a lent text of so many bytes: the bytes to be written
abbrev pub write_order : ℤ → ℤ → ℕ → List Rule
write_order longitude latitude room = bad_length room ∷ bad_latitude latitude ∷ bad_longitude longitude ∷ []

unfoldable pub write_of : ℤ → ℤ → ℕ → Outcome (List ℕ)
write_of longitude latitude room = unless (write_order longitude latitude room) (text_of longitude latitude)
