-- The refusals of a note.
use Rattle.std.specs.Prelude.{Bool, not, List, ℕ, ◌+◌, eqb, ltb}
use Rattle.refusal.specs.Outcome.{Rule}
use Rattle.note.specs.declared.form.Form.{Form}
use Rattle.note.specs.Note.{size_of, has_mark}

-- 8: the length is not the form's; to write, the output's
abbrev pub bad_length : Form → ℕ → Rule
bad_length form length = record { number = 8; applies = not (eqb length (size_of form)) }

-- 9: the mark is wrong
abbrev pub bad_mark : Form → List ℕ → Rule
bad_mark form note = record { number = 9; applies = not (has_mark form note) }

-- 16: the two numbers add to more than the cap
abbrev pub is_past : Form → ℕ × ℕ → Bool
is_past form counts = ltb form.cap (counts.0 + counts.1)

abbrev pub too_many : Form → ℕ × ℕ → Rule
too_many form counts = record { number = 16; applies = is_past form counts }
