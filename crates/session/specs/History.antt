-- A history: the events of one session since it was opened, and what came of them, by the list of the events alone.
use Rattle.std.specs.Prelude.{Bool, true, false, cond, List, [], ◌∷◌, ◌≡◌, ℕ, suc, ◌+◌, leb, ℤ, length}
use Rattle.refusal.specs.Outcome.{Outcome, refused, given, or_else}
use Rattle.record.specs.Refusal.{both_of_size}
use Rattle.record.specs.Answer.{convert_of}
use Rattle.note.specs.Note.{cap}
use Rattle.session.specs.declared.Session.{Session}
use Rattle.session.specs.Session.{opened, feed_of, is_counted, session_after}
use Rattle.session.specs.Handover.{restore_of}

-- a call of feed: its input piece, and the length of its output piece
pub record Call : Type 0 where
  pub input : List ℕ
  pub output : ℕ

-- a record fed, the session saved into a piece of so many bytes, or bytes to restore it from
pub data Event : Type 0 where
  fed : Call → Event
  saved : ℕ → Event
  restored : List ℕ → Event

abbrev pub is_moved : Outcome (ℤ × ℤ) → Bool
is_moved (given pair) = true
is_moved (refused n) = false

-- refused by a number other than 8 and 11
abbrev pub is_refused : Outcome (ℤ × ℤ) → Bool
is_refused (given pair) = false
is_refused (refused n) = is_counted n

-- how many answers are such
unfoldable pub count : (Outcome (ℤ × ℤ) → Bool) → List (Outcome (ℤ × ℤ)) → ℕ
count such [] = 0
count such (answer ∷ answers) = cond (such answer) (suc (count such answers)) (count such answers)

-- what a history comes to: the session of the last note that was accepted, or the opened one where none was, and what the
-- records fed since then were answered, the latest first
pub record Account : Type 0 where
  pub note : Session
  pub since : List (Outcome (ℤ × ℤ))

-- each count is the note's number plus what followed it
abbrev pub moved_in : Account → ℕ
moved_in account = account.note.moved + count is_moved account.since

abbrev pub refused_in : Account → ℕ
refused_in account = account.note.refused + count is_refused account.since

-- what a call is answered: 11 where its pieces are of 16 bytes and the two counts add to at least the cap; else by the record's
-- own rule
unfoldable pub answer_after : Account → Call → Outcome (ℤ × ℤ)
answer_after account call =
    cond
    (cond (both_of_size (length call.input) call.output) (leb cap (moved_in account + refused_in account)) false)
    (refused 11)
    (convert_of call.input call.output)

-- the account with one answer more, and the one that begins with an accepted note; a refused one changes nothing
abbrev pub with_answer : Account → Outcome (ℤ × ℤ) → Account
with_answer account answer = record { note = account.note; since = answer ∷ account.since }

abbrev pub with_note : Account → Outcome Session → Account
with_note account (given session) = record { note = session; since = [] }
with_note account (refused n) = account

-- the account of a history, whose latest event stands first
unfoldable pub account_of : List Event → Account
account_of [] = record { note = opened; since = [] }
account_of (fed call ∷ earlier) = with_answer (account_of earlier) (answer_after (account_of earlier) call)
account_of (saved room ∷ earlier) = account_of earlier
account_of (restored note ∷ earlier) = with_note (account_of earlier) (restore_of note)

-- the session after one event more, and after a history, each event taking the session that the one before handed back
abbrev pub session_by : Session → Event → Session
session_by session (fed call) = session_after session (feed_of session call.input call.output)
session_by session (saved room) = session
session_by session (restored note) = or_else session (restore_of note)

unfoldable pub session_of : List Event → Session
session_of [] = opened
session_of (event ∷ earlier) = session_by (session_of earlier) event

-- a session that feeding and restoring can reach from an opened one
pub record Reachable (session : Session) : Type 0 where
  pub events : List Event
  pub reached : session_of events ≡ session
