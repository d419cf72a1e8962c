-- The answers of a note, refusal by refusal in its order.
use mathlib.Core.List.{List}
use mathlib.Core.Path.{◌≡◌}
use Prim.Native.Nat.{ℕ}
use lib.ListN.{length}
use Rattle.refusal.specs.Outcome.{refused, given, unless}
use Rattle.parallel.proofs.Orders.{Applies, Passes}
use Rattle.note.specs.declared.form.Form.{Form}
use Rattle.note.specs.Note.{note_of, counts_in}
use Rattle.note.specs.Refusal.{bad_length, bad_mark, too_many}
use Rattle.note.specs.Answer.{written_as, read_as}

module _ (form : Form) (counts : ℕ × ℕ) (room : ℕ) where
  pub written_8 : Applies (bad_length form room) → refused 8 ≡ written_as form counts room
  unfolding written_as unless
  written_8 b = rw b

  pub written_16 : Passes (bad_length form room) → Applies (too_many form counts) → refused 16 ≡ written_as form counts room
  unfolding written_as unless
  written_16 b t = rw (b, t)

  pub written : Passes (bad_length form room) → Passes (too_many form counts) →
      given (note_of form counts) ≡ written_as form counts room
  unfolding written_as unless
  written b t = rw (b, t)

module _ (form : Form) (note : List ℕ) where
  pub read_8 : Applies (bad_length form (length note)) → refused 8 ≡ read_as form note
  unfolding read_as unless
  read_8 b = rw b

  pub read_9 : Passes (bad_length form (length note)) → Applies (bad_mark form note) → refused 9 ≡ read_as form note
  unfolding read_as unless
  read_9 b m = rw (b, m)

  pub read_16 : Passes (bad_length form (length note)) → Passes (bad_mark form note) →
      Applies (too_many form (counts_in form note)) → refused 16 ≡ read_as form note
  unfolding read_as unless
  read_16 b m t = rw (b, m, t)

  pub read : Passes (bad_length form (length note)) → Passes (bad_mark form note) →
      Passes (too_many form (counts_in form note)) → given (counts_in form note) ≡ read_as form note
  unfolding read_as unless
  read b m t = rw (b, m, t)
