-- A record's form by name, and what its pair is converted to.
use Rattle.std.specs.Prelude.{cond, List, [], ◌∷◌, ℕ, eqb, ℤ}
use Rattle.refusal.specs.Outcome.{Outcome, refused, given, unless}
use Rattle.projection.specs.Answer.{forward_of, inverse_of}
use Rattle.record.specs.declared.form.Form.{Form}
use Rattle.record.specs.declared.form.Form.TheVariants.{Position, Place}
use Rattle.record.specs.Record.{position, place, kind_in, form_in, central_in, first_in, second_in}
use Rattle.record.specs.Refusal.{bad_mark, bad_form}

-- the byte of a form
abbrev pub code_of : Form → ℕ
code_of Position = position
code_of Place = place

-- the form of a byte, or 10
abbrev pub form_at : ℕ → Outcome Form
form_at code = cond (eqb code position) (given Position) (cond (eqb code place) (given Place) (refused 10))

-- the form of a record, or the first refusal of 9 and 10
unfoldable pub form_of : List ℕ → Outcome Form
form_of bytes = unless (bad_mark bytes ∷ bad_form bytes ∷ []) (cond (eqb (form_in bytes) position) Position Place)

-- what the pair of a record of this form is converted to
unfoldable pub converted_as : Form → List ℕ → Outcome (ℤ × ℤ)
converted_as Position bytes = forward_of (kind_in bytes) (central_in bytes) (first_in bytes) (second_in bytes)
converted_as Place bytes = inverse_of (kind_in bytes) (central_in bytes) (first_in bytes) (second_in bytes)
