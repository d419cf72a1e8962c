-- What the work of a job leaves in the text.
use mathlib.Core.Path.{◌≡◌, refl, sym, ap, ◌∙◌}
use mathlib.Core.List.{List, ◌++◌, append_assoc}
use Prim.Native.Nat.{ℕ, ◌*◌, ◌≤◌}
use native.Mathlib.Omega.{arith}
use borrow.Author.Tests.{le-leb}
use lib.Dec.{leb}
use lib.ListN.{length, take, drop, take-append-drop}
use lib.Seq.{length-take-le, take_at, drop_at, drop-append-le}
use Rattle.std.specs.Prelude.{Option, Some, Result, Ok, Err, IsOk}
use Rattle.refusal.specs.declared.Refusal.{Refusal}
use Rattle.refusal.specs.Outcome.{Outcome, given}
use Rattle.refusal.specs.Number.{meaning}
use Rattle.record.specs.Record.{size}
use Rattle.record.specs.Records.{records_in}
use Rattle.reprojection.specs.All.{whole_reprojected, reprojected_all}
use Rattle.reprojection.proofs.Runs.{whole_long, whole_alone}
use Rattle.digits.specs.Put.{put_front, Put}
use Rattle.digits.proofs.Puts.{front_put, put_front_lem}
use Rattle.torn.specs.Parts.{taken_of, closed_up}
use Rattle.torn.specs.Answer.{counts_of, salvage_of, records_after}
use Rattle.torn.proofs.Answers.{accepts}
use Rattle.torn.specs.Pieces.{most}
use Rattle.torn.proofs.Sizes.{taken_long, taken_fits}
use Rattle.lines.specs.Buffer.{Placed}
use Rattle.lines.proofs.Buffers.{placed, was_placed, was_put}
use Rattle.jobs.specs.Job.{salvaged_of}
use Rattle.jobs.specs.Inside.{Lent}

-- ---- `reproject`

-- the whole records of s are copied to the front of a text, and reprojected there
pub block_holds : (s text copied part : List ℕ) {answer : Option ℕ} {end : ℕ} → let n = size * records_in s in
    Placed (leb (length (take n s)) (length text)) (take n s) text answer copied → answer ≡ Some end → part ≡ reprojected_all (take n copied) →
    Placed (leb n (length text)) (whole_reprojected s) text (Some n) (part ++ drop n copied)
unfolding put_front
block_holds s text copied part c a p =
    let n : ℕ = size * records_in s in
    let whole : List ℕ = take n s in
    let l : length whole ≡ n = length-take-le n s (omega arith) in
    let e : copied ≡ put_front text whole = (put_front_lem (was_put _ c a)).1 in
    let front : take n copied ≡ whole = rw e (take_at whole (drop (length whole) text) n l) in
    let behind : drop n copied ≡ drop n text = rw e (drop_at whole (drop (length whole) text) n l ∙ ap (λ (k : ℕ). drop k text) l) in
    let made : part ≡ whole_reprojected s = p ∙ ap reprojected_all front ∙ whole_alone s in
    placed (rw l at (was_placed _ c a)) (front_put text (whole_reprojected s) (sym (whole_long s)) (rw (made, behind, whole_long s)))

-- ---- `salvage`

-- the taken records stand at the front of the first bytes of a text, as many as the file has, and the others stay
taken_stand : (s text part : List ℕ) → length s ≤ length text → length s ≤ most →
    part ≡ put_front (take (length s) text) (closed_up (taken_of s)) →
    Put text 0 (salvaged_of s) (size * length (taken_of s)) (part ++ drop (length s) text)
unfolding salvaged_of put_front
taken_stand s text part h k e =
    let rs : List ℕ = closed_up (taken_of s) in
    let fits : length rs ≤ length (take (length s) text) = rw (length-take-le (length s) text h) (taken_fits s) in
    let stays : drop (length rs) (take (length s) text) ++ drop (length s) text ≡ drop (length rs) text =
    sym (drop-append-le (length rs) (take (length s) text) (drop (length s) text) fits) ∙ ap (drop (length rs)) (take-append-drop (length s) text) in
    rw (le-leb (length s) most k)
    (front_put text rs (sym (taken_long s)) (rw (e, append_assoc rs (drop (length rs) (take (length s) text)) (drop (length s) text), stays)))

module _ {s text list : List ℕ} (lent : Lent s text list) where
  abbrev pub answer : Outcome (ℕ × ℕ)
  answer = salvage_of s (length (take (length s) text)) (length list)

  answer_is : answer ≡ given (counts_of s)
  answer_is = accepts s _ _ lent.short (length-take-le (length s) text lent.room) lent.listed

  -- nothing is refused
  pub is_ok : (r : Result (ℕ × ℕ) Refusal) → meaning r ≡ answer → IsOk r
  is_ok (Ok counts) m = refl
  is_ok (Err refusal) m = let a = answer_is in absurd cc

  counted : (r : Result (ℕ × ℕ) Refusal) {counts : ℕ × ℕ} → meaning r ≡ answer → r ≡ Ok counts → counts ≡ counts_of s
  counted r m e = let a = answer_is in cc

  pub salvage_puts : (r : Result (ℕ × ℕ) Refusal) {counts : ℕ × ℕ} {part : List ℕ} → meaning r ≡ answer → r ≡ Ok counts →
      part ≡ records_after s (take (length s) text) answer → Put text 0 (salvaged_of s) (size * counts.0) (part ++ drop (length s) text)
  unfolding records_after
  salvage_puts r {part = part} m e p = rw (counted r m e) (taken_stand s text part lent.room lent.short (rw answer_is at p))

  -- the count has 64 bits
  pub count_fits : (r : Result (ℕ × ℕ) Refusal) {counts : ℕ × ℕ} → meaning r ≡ answer → r ≡ Ok counts → size * counts.0 ≤ most
  count_fits r m e = omega (arith, ap (λ (p : ℕ × ℕ). p.0) (counted r m e), taken_long s, taken_fits s, lent.short)
