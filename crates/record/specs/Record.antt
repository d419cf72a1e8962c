-- The record of 16 bytes: the mark, kind, form, then three numbers of 32 bits: central meridian, and longitude and latitude
-- or x and y. Byte places count from 0.
use Rattle.std.specs.Prelude.{Bool, false, cond, ◌&&◌, List, [], ◌∷◌, ◌++◌, ℕ, eqb, ℤ, length, get_or}
use Rattle.little_endian.specs.Number.{bytes_of, number_at}

-- the length of a record
abbrev pub size : ℕ
size = 16

-- the two-byte mark
abbrev pub mark : List ℕ
mark = 0x4D ∷ 0xD2 ∷ []

-- the two forms
abbrev pub position : ℕ
position = 0

abbrev pub place : ℕ
place = 1

abbrev pub other_form : ℕ → ℕ
other_form form = cond (eqb form position) place position

-- a record's bytes
unfoldable pub record_of : ℕ → ℕ → ℤ → ℤ → ℤ → List ℕ
record_of kind form central first second = mark ++ (kind ∷ form ∷ (bytes_of central ++ (bytes_of first ++ bytes_of second)))

-- what stands in a record
abbrev pub has_mark : List ℕ → Bool
has_mark bytes = cond (eqb (get_or bytes 0 0) (get_or mark 0 0)) (eqb (get_or bytes 1 0) (get_or mark 1 0)) false

abbrev pub kind_in : List ℕ → ℕ
kind_in bytes = get_or bytes 2 0

abbrev pub form_in : List ℕ → ℕ
form_in bytes = get_or bytes 3 0

abbrev pub central_in : List ℕ → ℤ
central_in bytes = number_at bytes 4

-- longitude or x
abbrev pub first_in : List ℕ → ℤ
first_in bytes = number_at bytes 8

-- latitude or y
abbrev pub second_in : List ℕ → ℤ
second_in bytes = number_at bytes 12

-- a record of 16 bytes with the mark, which holds a place
abbrev pub holds_place : List ℕ → Bool
holds_place bytes = eqb (length bytes) size && has_mark bytes && eqb (form_in bytes) place

-- a moved record keeps mark, kind and central meridian, and has the other form and the converted pair
unfoldable pub moved_of : List ℕ → ℤ × ℤ → List ℕ
moved_of bytes pair = record_of (kind_in bytes) (other_form (form_in bytes)) (central_in bytes) pair.0 pair.1
