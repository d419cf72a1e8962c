-- The handover note: a mark of two bytes, then moved and refused, each in as many bytes as the note's form says, the least first.
use Rattle.std.specs.Prelude.{Bool, false, cond, List, ◌∷◌, ◌++◌, ℕ, ◌+◌, eqb, get_or, take, drop}
use Rattle.std.proofs.Common.{lit≤, lit<}
use Rattle.little_endian.specs.Whole.{whole_of, least_bytes}
use Rattle.note.specs.declared.form.Form.{Form}

-- from this sum of its counts up a session is full
abbrev pub cap : ℕ
cap = 1000000000

-- a form: the mark's second byte, the bytes of a number, and the greatest sum of the two numbers
abbrev pub narrow : Form
narrow = record { mark = 0xD3; width = 4; cap = cap; in_64_bits = lit≤ tt; cap_fits = lit< tt }

abbrev pub size_of : Form → ℕ
size_of form = 2 + form.width + form.width

-- the note of two counts, moved and refused
unfoldable pub note_of : Form → ℕ × ℕ → List ℕ
note_of form counts = 0x4D ∷ form.mark ∷ (least_bytes form.width counts.0 ++ least_bytes form.width counts.1)

-- what stands in a note
abbrev pub has_mark : Form → List ℕ → Bool
has_mark form note = cond (eqb (get_or note 0 0) 0x4D) (eqb (get_or note 1 0) form.mark) false

unfoldable pub number_at : Form → List ℕ → ℕ → ℕ
number_at form note at = whole_of (take form.width (drop at note))

abbrev pub counts_in : Form → List ℕ → ℕ × ℕ
counts_in form note = (number_at form note 2, number_at form note (2 + form.width))
