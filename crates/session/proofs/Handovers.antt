-- A session stays within the cap whatever it is fed and restored from, so that it has a note, and the note gives it back.
use mathlib.Core.List.{List, [], ◌∷◌, ◌++◌}
use mathlib.Core.Path.{◌≡◌, sym, ap, subst, ◌∙◌}
use Prim.Native.Nat.{ℕ, ◌+◌, ◌≤◌}
use native.Mathlib.Omega.{arith}
use lib.IntN.{ℤ}
use Rattle.refusal.specs.Outcome.{Outcome, refused, given, or_else, on_given, unless}
use Rattle.parallel.proofs.Orders.{on_unless, all_pass}
use Rattle.note.specs.Note.{cap, narrow, size_of, note_of, counts_in}
use Rattle.note.specs.Answer.{read_order, read_as}
use Rattle.note.proofs.Stored.{is_written, is_read, read_within}
use Rattle.session.specs.declared.Session.{Session}
use Rattle.session.specs.Session.{feed_of, session_after}
use Rattle.session.specs.Handover.{with_counts, save_of, restore_of}
use Rattle.session.specs.History.{Event, fed, saved, restored, session_by, session_of, Reachable}
use Rattle.session.proofs.Orders.{fed_8, fed_11}

abbrev pub sum_of : Session → ℕ
sum_of session = session.moved + session.refused

-- ---- the sum

at_most_one : (session : Session) (answer : Outcome (ℤ × ℤ)) → sum_of (session_after session answer) ≤ sum_of session + 1
unfolding session_after
at_most_one session (given pair) = omega arith
at_most_one session (refused n) = grind arith

-- a call that adds to a count finds the session not full
fed_within : (session : Session) (input : List ℕ) (output : ℕ) → sum_of session ≤ cap →
    sum_of (session_after session (feed_of session input output)) ≤ cap
unfolding session_after
fed_within session input output h =
    grind (arith, at_most_one session (feed_of session input output), fed_8 session input output, fed_11 session input output)

restored_within : (session : Session) (note : List ℕ) → sum_of session ≤ cap → sum_of (or_else session (restore_of note)) ≤ cap
restored_within session note h = grind (arith, read_within narrow note)

pub within : (events : List Event) → sum_of (session_of events) ≤ cap
unfolding session_of
within [] = omega arith
within (fed call ∷ earlier) = fed_within (session_of earlier) call.input call.output (within earlier)
within (saved room ∷ earlier) = within earlier
within (restored note ∷ earlier) = restored_within (session_of earlier) note (within earlier)

-- ---- the note

module _ (session : Session) (h : sum_of session ≤ cap) where
  abbrev counts : ℕ × ℕ
  counts = (session.moved, session.refused)

  pub is_saved : save_of session (size_of narrow) ≡ given (note_of narrow counts)
  is_saved = is_written narrow counts h

  pub is_restored : restore_of (note_of narrow counts) ≡ given session
  is_restored = ap (on_given with_counts) (is_read narrow counts h)

  -- a note that it was saved as is that one
  pub gives_back : (note : List ℕ) → save_of session (size_of narrow) ≡ given note → restore_of note ≡ given session
  unfolding unless
  gives_back note e =
      subst (λ (l : List ℕ). restore_of l ≡ given session) (all_pass (note_of narrow counts) note (sym is_saved ∙ e)) is_restored

  -- so that it can be reached
  pub reached : Reachable session
  unfolding session_of
  reached = record { events = restored (note_of narrow counts) ∷ []; reached = rw is_restored }

-- a session is restored by the order of its note
pub restored_order : (note : List ℕ) → restore_of note ≡ unless (read_order narrow note) (with_counts (counts_in narrow note))
unfolding read_as
restored_order note = on_unless with_counts (read_order narrow note) (counts_in narrow note)

-- ---- an older note

pub rewound : (later between earlier : List Event) (note : List ℕ) → save_of (session_of earlier) (size_of narrow) ≡ given note →
    session_of (later ++ (restored note ∷ (between ++ earlier))) ≡ session_of (later ++ earlier)
unfolding session_of
rewound [] between earlier note e = rw (gives_back (session_of earlier) (within earlier) note e)
rewound (event ∷ later) between earlier note e = ap (λ (s : Session). session_by s event) (rewound later between earlier note e)
