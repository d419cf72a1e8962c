-- The claims of a note, each by its law.
use mathlib.Core.Bool.{Bool, true, false, not, cond}
use mathlib.Core.List.{List, ◌∷◌, ◌++◌}
use mathlib.Core.Path.{◌≡◌, refl, sym, ap, ◌∙◌}
use Prim.Native.Nat.{ℕ, ◌+◌, ◌≤◌, ◌<◌}
use native.Mathlib.Omega.{arith}
use borrow.Author.Tests.{lt-ltb, le-ltb, eq-eqb, ne_eqb, eqb-true}
use lib.Dec.{eqb}
use lib.ListN.{length, take, drop}
use Rattle.refusal.specs.Outcome.{refused, given, on_given, unless}
use Rattle.parallel.proofs.Orders.{Passes}
use Rattle.little_endian.specs.Whole.{whole_of, least_bytes}
use Rattle.little_endian.proofs.Wholes.{whole_four, least_four, four_at}
use Rattle.note.specs.Note.{cap, narrow, note_of, number_at, counts_in}
use Rattle.note.specs.Refusal.{bad_length, bad_mark, is_past}
use Rattle.note.specs.Answer.{read_as}
use Rattle.note.proofs.Orders.{written_8, written_16, written, read_8, read_9, read_16, read}
use Rattle.session.specs.declared.Session.{Session}
use Rattle.session.specs.Handover.{with_counts, save_of, restore_of}
use Rattle.claims.specs.Texts.{byte}
use Rattle.claims.specs.Notes.{Marked, four, bytes_of, session_with, examples, Notes}

-- the number of four bytes, by the part that they are
pub four_is : (l : List ℕ) (at : ℕ) → at + 4 ≤ length l → four l at ≡ whole_of (take 4 (drop at l))
four_is l at h = whole_four (byte l at) (byte l (at + 1)) (byte l (at + 2)) (byte l (at + 3)) ∙ ap whole_of (four_at l at h)

-- ---- saving

saved_as : (session : Session) → session.moved + session.refused ≤ cap → save_of session 10 ≡ given (bytes_of session)
unfolding note_of
saved_as session h =
    let m = session.moved in
    let r = session.refused in
    sym (written narrow (m, r) 10 refl (le-ltb cap (m + r) h))
    ∙ ap (λ (l : List ℕ). given (0x4D ∷ 0xD3 ∷ (l ++ least_bytes 4 r))) (sym (least_four m (omega arith)))
    ∙ ap (λ (l : List ℕ). given (take 6 (bytes_of session) ++ l)) (sym (least_four r (omega arith)))

-- ---- restoring

module _ (note : List ℕ) (long : length note ≡ 10) where
  length_good : Passes (bad_length narrow (length note))
  length_good = rw long

  restored_9 : (Marked note → ⊥) → restore_of note ≡ refused 9
  restored_9 h = ap (on_given with_counts) (sym (read_9 narrow note length_good (go (eqb (byte note 0) 0x4D) (eqb (byte note 1) 0xD3) refl refl)))
    where
      go : (a b : Bool) → eqb (byte note 0) 0x4D ≡ a → eqb (byte note 1) 0xD3 ≡ b → not (cond a b false) ≡ true
      go true true e f = absurd (h (eqb-true _ _ e, eqb-true _ _ f))
      go true false e f = refl
      go false b e f = refl

  number_is : (at : ℕ) → at + 4 ≤ length note → number_at narrow note at ≡ four note at
  unfolding number_at
  number_is at h = sym (four_is note at h)

  counts_are : counts_in narrow note ≡ (four note 2, four note 6)
  counts_are = rw (number_is 2 (omega arith), number_is 6 (omega arith))

  module _ (mark : Marked note) where
    mark_good : Passes (bad_mark narrow note)
    mark_good = rw (eq-eqb (byte note 0) 0x4D mark.0, eq-eqb (byte note 1) 0xD3 mark.1)

    restored_16 : cap < four note 2 + four note 6 → restore_of note ≡ refused 16
    restored_16 h =
        let past = ap (is_past narrow) counts_are ∙ lt-ltb cap (four note 2 + four note 6) h in
        ap (on_given with_counts) (sym (read_16 narrow note length_good mark_good past))

    restored_as : four note 2 + four note 6 ≤ cap → restore_of note ≡ given (session_with (four note 2) (four note 6))
    restored_as h =
        let within = ap (is_past narrow) counts_are ∙ le-ltb cap (four note 2 + four note 6) h in
        ap (on_given with_counts) (sym (read narrow note length_good mark_good within) ∙ ap given counts_are)

pub notes : Notes
unfolding examples read_as unless number_at
notes =
    record {
      saved_8 = λ s room h. sym (written_8 narrow (s.moved, s.refused) room (rw (ne_eqb room 10 h)));
      saved_16 = λ s h. sym (written_16 narrow (s.moved, s.refused) 10 refl (lt-ltb cap (s.moved + s.refused) h));
      saved_as = saved_as;
      restored_8 = λ note h. ap (on_given with_counts) (sym (read_8 narrow note (rw (ne_eqb (length note) 10 h))));
      restored_9 = restored_9;
      restored_16 = restored_16;
      restored_as = restored_as;
      written = λ piece note. refl;
      kept = λ piece n. refl;
      worked = refl;
    }
