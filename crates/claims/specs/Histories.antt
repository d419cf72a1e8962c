-- What a session's counts say: after any list of events since it was opened, each count is the last accepted note's number plus
-- the records since then which the rules convert, or refuse by a number other than 8 and 11; and what a note hands over.
use Rattle.std.specs.Prelude.{true, List, [], ◌∷◌, ◌++◌, ◌↔◌, ◌≡◌, ℕ, ◌+◌, ◌≤◌, length}
use Rattle.refusal.specs.Outcome.{refused, given}
use Rattle.session.specs.declared.Session.{Session}
use Rattle.session.specs.Session.{is_full, feed_of, session_after}
use Rattle.session.specs.Handover.{save_of, restore_of}
use Rattle.session.specs.History.{Call, Event, fed, saved, restored, is_moved, is_refused, count, answer_after, account_of, session_by, session_of, Reachable}

-- a session is handed over: it is within the cap, it has a note, and the note gives it back whatever session takes it
pub record HandsOver (session : Session) : Type 0 where
  pub within : session.moved + session.refused ≤ 1000000000
  pub note : List ℕ
  pub long : length note ≡ 10
  pub is_saved : save_of session 10 ≡ given note
  pub is_restored : (other : Session) → session_by other (restored note) ≡ session

pub record Histories : Type 0 where
  -- what a history is counted from: 0 and 0 when opened, then each note that is accepted; and the answers since then
  pub from_opened : account_of [] ≡ record { note = record { moved = 0; refused = 0 }; since = [] }
  pub from_note : (note : List ℕ) (session : Session) (earlier : List Event) → restore_of note ≡ given session →
      account_of (restored note ∷ earlier) ≡ record { note = session; since = [] }
  pub after_refused : (note : List ℕ) (n : ℕ) (earlier : List Event) → restore_of note ≡ refused n →
      account_of (restored note ∷ earlier) ≡ account_of earlier
  pub after_save : (room : ℕ) (earlier : List Event) → account_of (saved room ∷ earlier) ≡ account_of earlier
  pub after_feed : (call : Call) (earlier : List Event) →
      account_of (fed call ∷ earlier)
      ≡ record {
        note = (account_of earlier).note;
        since = feed_of (session_of earlier) call.input call.output ∷ (account_of earlier).since;
      }
  -- each count is the last accepted note's number plus what followed it
  pub moved_is : (events : List Event) →
      (session_of events).moved ≡ (account_of events).note.moved + count is_moved (account_of events).since
  pub refused_is : (events : List Event) →
      (session_of events).refused ≡ (account_of events).note.refused + count is_refused (account_of events).since
  -- the session is full from this sum up
  pub full_from : (session : Session) → (is_full session ≡ true) ↔ (1000000000 ≤ session.moved + session.refused)
  -- refusals 8 and 11 change neither
  pub kept_by_8 : (session : Session) → session_after session (refused 8) ≡ session
  pub kept_by_11 : (session : Session) → session_after session (refused 11) ≡ session
  -- each call is answered by the same rules, whatever came before
  pub answered : (call : Call) (earlier : List Event) →
      feed_of (session_of earlier) call.input call.output ≡ answer_after (account_of earlier) call
  -- a save changes nothing, nor does a refused restore
  pub kept_by_save : (session : Session) (room : ℕ) → session_by session (saved room) ≡ session
  pub kept_by_refused : (session : Session) (note : List ℕ) (n : ℕ) → restore_of note ≡ refused n →
      session_by session (restored note) ≡ session
  -- the sessions that feeding and restoring can reach from an opened one are those within the cap, and each is handed over
  pub handed_over : (session : Session) → Reachable session → HandsOver session
  pub reached : (session : Session) → session.moved + session.refused ≤ 1000000000 → Reachable session
  -- restoring an older note rewinds the counts, and nothing else: all goes on as if nothing had come between
  pub rewound : (later between earlier : List Event) (note : List ℕ) → save_of (session_of earlier) 10 ≡ given note →
      session_of (later ++ (restored note ∷ (between ++ earlier))) ≡ session_of (later ++ earlier)
  pub answered_alike : (call : Call) (later between earlier : List Event) (note : List ℕ) →
      save_of (session_of earlier) 10 ≡ given note →
      answer_after (account_of (later ++ (restored note ∷ (between ++ earlier)))) call ≡ answer_after (account_of (later ++ earlier)) call
