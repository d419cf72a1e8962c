-- A session saved as a note, and restored from one.
use Rattle.std.specs.Prelude.{List, ℕ}
use Rattle.refusal.specs.Outcome.{Outcome, on_given}
use Rattle.note.specs.Answer.{write_of, read_of}
use Rattle.session.specs.declared.Session.{Session}

-- what saving into a piece of so many bytes is answered: the bytes of the note
abbrev pub save_of : Session → ℕ → Outcome (List ℕ)
save_of session room = write_of (session.moved, session.refused) room

-- what restoring is answered, whatever the session: the one that the note says
abbrev pub with_counts : ℕ × ℕ → Session
with_counts counts = record { moved = counts.0; refused = counts.1 }

abbrev pub restore_of : List ℕ → Outcome Session
restore_of note = on_given with_counts (read_of note)
