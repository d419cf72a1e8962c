-- A note's bytes: how they are written, and that what is written is read again.
use mathlib.Core.Bool.{false}
use mathlib.Core.List.{List, [], ◌∷◌, ◌++◌}
use mathlib.Core.Path.{◌≡◌, refl, sym, ap, subst, ◌∙◌}
use Prim.Native.Nat.{ℕ, suc, ◌+◌, ◌≤◌}
use native.Mathlib.Omega.{arith}
use borrow.Author.Tests.{le-ltb, ltb-false, eq-eqb}
use lib.ListN.{length, take, drop, length-append}
use lib.Seq.{take_at, drop_at, take_all}
use Rattle.refusal.specs.Outcome.{given}
use Rattle.parallel.proofs.Orders.{passes, all_pass}
use Rattle.little_endian.specs.Whole.{whole_of, least_bytes}
use Rattle.little_endian.proofs.Wholes.{least_length, whole_least}
use Rattle.note.specs.declared.form.Form.{Form}
use Rattle.note.specs.Note.{size_of, note_of, number_at, counts_in}
use Rattle.note.specs.Refusal.{bad_length, bad_mark, too_many, is_past}
use Rattle.note.specs.Answer.{written_as, read_as}
use Rattle.note.proofs.Orders.{written, read}

pub note_length : (form : Form) (counts : ℕ × ℕ) → length (note_of form counts) ≡ size_of form
unfolding note_of
note_length form counts =
    let w = form.width in
    rw (length-append (least_bytes w counts.0) (least_bytes w counts.1), least_length w counts.0, least_length w counts.1)
    (omega arith)

module _ (form : Form) (counts : ℕ × ℕ) (h : counts.0 + counts.1 ≤ form.cap) where
  abbrev w : ℕ
  w = form.width

  abbrev note : List ℕ
  note = note_of form counts

  abbrev moved : List ℕ
  moved = least_bytes w counts.0

  abbrev refused : List ℕ
  refused = least_bytes w counts.1

  behind_moved : drop (2 + w) note ≡ refused
  unfolding note_of
  behind_moved =
      let two : 2 + w ≡ suc (suc w) = omega arith in
      ap (λ (n : ℕ). drop n note) two ∙ drop_at moved refused w (least_length w counts.0)

  counts_back : counts_in form note ≡ counts
  unfolding number_at note_of
  counts_back =
      let f = form.cap_fits in
      let n = least_length w counts.1 in
      let m : whole_of (take w (moved ++ refused)) ≡ counts.0 =
      rw (take_at moved refused w (least_length w counts.0)) (whole_least w counts.0 (omega arith)) in
      let r : whole_of (take w (drop (2 + w) note)) ≡ counts.1 =
      rw (behind_moved, take_all w refused (omega arith)) (whole_least w counts.1 (omega arith)) in
      rw (m, r)

  -- counts within the cap have a note, and it is read as them
  pub is_written : written_as form counts (size_of form) ≡ given note
  is_written =
      sym (written form counts (size_of form) (rw (eq-eqb (size_of form) (size_of form) refl)) (le-ltb form.cap (counts.0 + counts.1) h))

  pub is_read : read_as form note ≡ given counts
  unfolding note_of
  is_read =
      let within : is_past form (counts_in form note) ≡ false =
      subst (λ (c : ℕ × ℕ). is_past form c ≡ false) (sym counts_back) (le-ltb form.cap (counts.0 + counts.1) h) in
      sym (read form note (rw (note_length form counts, eq-eqb (size_of form) (size_of form) refl)) (rw (eq-eqb form.mark form.mark refl)) within)
      ∙ ap given counts_back

-- what is read is within the cap
pub read_within : (form : Form) (note : List ℕ) (counts : ℕ × ℕ) → read_as form note ≡ given counts →
    counts.0 + counts.1 ≤ form.cap
unfolding read_as
read_within form note counts e =
    let found = counts_in form note in
    let sum = too_many form found in
    let marked = (passes (bad_length form (length note)) (bad_mark form note ∷ sum ∷ []) found counts e).1 in
    let p = passes sum [] found counts (passes (bad_mark form note) (sum ∷ []) found counts marked).1 in
    rw (← all_pass found counts p.1) (ltb-false form.cap (found.0 + found.1) p.0)
