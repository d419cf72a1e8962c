-- What writing a note and reading one answer.
use Rattle.std.specs.Prelude.{List, [], ◌∷◌, ℕ, length}
use Rattle.refusal.specs.Outcome.{Rule, Outcome, unless}
use Rattle.note.specs.declared.form.Form.{Form}
use Rattle.note.specs.Note.{narrow, note_of, counts_in}
use Rattle.note.specs.Refusal.{bad_length, bad_mark, too_many}

-- the orders of the refusals: two counts and the length of the piece that is lent for the note, or the bytes of a note
abbrev pub write_order : Form → ℕ × ℕ → ℕ → List Rule
write_order form counts room = bad_length form room ∷ too_many form counts ∷ []

abbrev pub read_order : Form → List ℕ → List Rule
read_order form note = bad_length form (length note) ∷ bad_mark form note ∷ too_many form (counts_in form note) ∷ []

-- what each is answered: the bytes to be written, or the counts that were read
unfoldable pub written_as : Form → ℕ × ℕ → ℕ → Outcome (List ℕ)
written_as form counts room = unless (write_order form counts room) (note_of form counts)

unfoldable pub read_as : Form → List ℕ → Outcome (ℕ × ℕ)
read_as form note = unless (read_order form note) (counts_in form note)

-- by the form that notes have
abbrev pub write_of : ℕ × ℕ → ℕ → Outcome (List ℕ)
write_of = written_as narrow

abbrev pub read_of : List ℕ → Outcome (ℕ × ℕ)
read_of = read_as narrow
