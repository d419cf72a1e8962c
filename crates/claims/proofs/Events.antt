-- The claims of a session's history, each by its law.
use mathlib.Core.List.{List, ◌∷◌, ◌++◌}
use mathlib.Core.Path.{◌≡◌, refl, sym, ap, subst, ◌∙◌}
use Prim.Native.Nat.{ℕ, ◌+◌, ◌≤◌}
use borrow.Author.Tests.{le-leb, leb-true}
use Rattle.refusal.specs.Outcome.{given, or_else}
use Rattle.note.specs.Note.{cap, narrow, note_of}
use Rattle.note.proofs.Stored.{note_length}
use Rattle.session.specs.declared.Session.{Session}
use Rattle.session.specs.Session.{feed_of, session_after}
use Rattle.session.specs.Handover.{save_of}
use Rattle.session.specs.History.{Call, Event, restored, answer_after, with_answer, with_note, account_of, session_of, Reachable}
use Rattle.session.proofs.Histories.{answers_alike, agrees}
use Rattle.session.proofs.Handovers.{within, is_saved, is_restored, reached, rewound}
use Rattle.claims.specs.Histories.{HandsOver, Histories}

answered : (call : Call) (earlier : List Event) →
    feed_of (session_of earlier) call.input call.output ≡ answer_after (account_of earlier) call
answered call earlier = answers_alike (session_of earlier) (account_of earlier) call (agrees earlier)

handed_over : (session : Session) → Reachable session → HandsOver session
handed_over session r =
    let h : session.moved + session.refused ≤ cap =
    subst (λ (s : Session). s.moved + s.refused ≤ cap) r.reached (within r.events) in
    let counts : ℕ × ℕ = (session.moved, session.refused) in
    record {
      within = h;
      note = note_of narrow counts;
      long = note_length narrow counts;
      is_saved = is_saved session h;
      is_restored = λ other. ap (or_else other) (is_restored session h);
    }

answered_alike : (call : Call) (later between earlier : List Event) (note : List ℕ) → save_of (session_of earlier) 10 ≡ given note →
    answer_after (account_of (later ++ (restored note ∷ (between ++ earlier)))) call ≡ answer_after (account_of (later ++ earlier)) call
answered_alike call later between earlier note e =
    sym (answered call (later ++ (restored note ∷ (between ++ earlier))))
    ∙ ap (λ (s : Session). feed_of s call.input call.output) (rewound later between earlier note e)
    ∙ answered call (later ++ earlier)

pub histories : Histories
unfolding session_after account_of
histories =
    record {
      from_opened = refl;
      from_note = λ note session earlier e. ap (with_note (account_of earlier)) e;
      after_refused = λ note n earlier e. ap (with_note (account_of earlier)) e;
      after_save = λ room earlier. refl;
      after_feed = λ call earlier. ap (with_answer (account_of earlier)) (sym (answered call earlier));
      moved_is = λ events. (agrees events).moved;
      refused_is = λ events. (agrees events).refused;
      full_from = λ session. let n = session.moved + session.refused in (leb-true cap n, le-leb cap n);
      kept_by_8 = λ session. refl;
      kept_by_11 = λ session. refl;
      answered = answered;
      kept_by_save = λ session room. refl;
      kept_by_refused = λ session note n e. ap (or_else session) e;
      handed_over = handed_over;
      reached = reached;
      rewound = rewound;
      answered_alike = answered_alike;
    }
