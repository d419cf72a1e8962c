-- The session: two counts, and what each call adds to them.
use Rattle.std.specs.Prelude.{Bool, true, false, cond, List, ◌∷◌, ℕ, ◌+◌, T, leb, eqb, ℤ}
use Rattle.refusal.specs.Outcome.{Rule, Outcome, refused, given, OfNumber, unless}
use Rattle.record.specs.Refusal.{bad_pieces}
use Rattle.record.specs.Answer.{record_order, pair_of}
use Rattle.note.specs.Note.{cap}
use Rattle.session.specs.declared.Session.{Session}

-- both counts are 0 when opened
abbrev pub opened : Session
opened = record { moved = 0; refused = 0 }

-- from the cap up
abbrev pub is_full : Session → Bool
is_full session = leb cap (session.moved + session.refused)

-- 11: session is full
abbrev pub full : Session → Rule
full session = record { number = 11; applies = is_full session }

abbrev pub feed_order : Session → List ℕ → ℕ → List Rule
feed_order session input output = bad_pieces input output ∷ full session ∷ record_order input

-- what a call is answered: a session, an input piece, and the length of the output piece
unfoldable pub feed_of : Session → List ℕ → ℕ → Outcome (ℤ × ℤ)
feed_of session input output = unless (feed_order session input output) (pair_of input)

-- refusals 8 and 11 change neither count
abbrev pub is_counted : ℕ → Bool
is_counted n = cond (eqb n 8) false (cond (eqb n 11) false true)

abbrev pub one_moved : Session → Session
one_moved session = record { moved = session.moved + 1; refused = session.refused }

abbrev pub one_refused : Session → Session
one_refused session = record { moved = session.moved; refused = session.refused + 1 }

-- the session after a call that was answered so
unfoldable pub session_after : Session → Outcome (ℤ × ℤ) → Session
session_after session (given pair) = one_moved session
session_after session (refused n) = cond (is_counted n) (one_refused session) session

-- an answer that adds to a count
abbrev pub Counts : Outcome (ℤ × ℤ) → Type 0
Counts = OfNumber (λ n. T (is_counted n))
