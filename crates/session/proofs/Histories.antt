-- A session that went through a history has its counts, and answers each call as the history says.
use mathlib.Core.List.{List, [], ◌∷◌}
use mathlib.Core.Path.{◌≡◌, refl}
use native.Mathlib.Omega.{arith}
use lib.IntN.{ℤ}
use Rattle.refusal.specs.Outcome.{Outcome, refused, given, or_else}
use Rattle.record.proofs.Orders.{converted_8}
use Rattle.session.specs.declared.Session.{Session}
use Rattle.session.specs.Session.{feed_of, session_after}
use Rattle.session.specs.Handover.{restore_of}
use Rattle.session.specs.History.{Call, Event, fed, saved, restored, Account, moved_in, refused_in, count, answer_after, with_answer, with_note, account_of, session_of}
use Rattle.session.proofs.Orders.{fed_8, fed_11, fed as fed-on}

-- the session's counts are those of the account
pub record Agrees (session : Session) (account : Account) : Type 0 where
  pub moved : session.moved ≡ moved_in account
  pub refused : session.refused ≡ refused_in account

-- so it answers the next call as the history says
pub answers_alike : (session : Session) (account : Account) (call : Call) → Agrees session account →
    feed_of session call.input call.output ≡ answer_after account call
unfolding answer_after
answers_alike session account call a =
    grind (arith, fed_8 session call.input call.output, fed_11 session call.input call.output, fed-on session call.input call.output, converted_8 call.input call.output)

-- and agrees with the account that has one answer more
agrees_after : (session : Session) (account : Account) (answer : Outcome (ℤ × ℤ)) → Agrees session account →
    Agrees (session_after session answer) (with_answer account answer)
unfolding session_after count
agrees_after session account (given pair) a = record { moved = omega arith; refused = a.refused }
agrees_after session account (refused n) a = grind arith

-- or with the one that begins with a note
agrees_noted : (session : Session) (account : Account) (note : Outcome Session) → Agrees session account →
    Agrees (or_else session note) (with_note account note)
unfolding count
agrees_noted session account (given noted) a = record { moved = omega arith; refused = omega arith }
agrees_noted session account (refused n) a = a

pub agrees : (events : List Event) → Agrees (session_of events) (account_of events)
unfolding session_of account_of count
agrees [] = record { moved = refl; refused = refl }
agrees (fed call ∷ earlier) =
    rw (← answers_alike (session_of earlier) (account_of earlier) call (agrees earlier))
    (agrees_after (session_of earlier) (account_of earlier) (feed_of (session_of earlier) call.input call.output) (agrees earlier))
agrees (saved room ∷ earlier) = agrees earlier
agrees (restored note ∷ earlier) = agrees_noted (session_of earlier) (account_of earlier) (restore_of note) (agrees earlier)
