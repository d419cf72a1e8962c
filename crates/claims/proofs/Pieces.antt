-- Both calls on a record answer 8 by the pieces, 11 by the session, and else what the record's own bytes ask for.
use mathlib.Core.Bool.{Bool, true, false, not, false≢true}
use mathlib.Core.List.{List}
use mathlib.Core.Path.{◌≡◌, refl, sym, ap, ◌∙◌}
use Prim.Native.Nat.{ℕ, ◌≤◌}
use native.Mathlib.Omega.{arith}
use lib.IntN.{ℤ}
use lib.ListN.{length}
use Rattle.refusal.specs.Outcome.{Outcome, refused, given}
use Rattle.parallel.proofs.Orders.{not_both}
use Rattle.record.specs.Refusal.{both_of_size}
use Rattle.record.specs.Answer.{judged_of}
use Rattle.record.proofs.Orders.{converted_8, converted}
use Rattle.session.proofs.Orders.{fed_8, fed_11, fed}
use Rattle.claims.specs.RecordLaws.{RecordCall, converting, feeding}

pub record Answers (h : RecordCall) : Type 0 where
  pub short : (t : h.State) (s : List ℕ) (output : ℕ) → both_of_size (length s) output ≡ false → h.answer t s output ≡ refused 8
  pub filled : (t : h.State) (s : List ℕ) (output : ℕ) → both_of_size (length s) output ≡ true → h.is_full t ≡ true →
      h.answer t s output ≡ refused 11
  pub judged : (t : h.State) (s : List ℕ) (output : ℕ) → both_of_size (length s) output ≡ true → h.is_full t ≡ false →
      h.answer t s output ≡ judged_of s

pub converting_answers : Answers converting
converting_answers =
    record {
      short = λ t s output b. sym (converted_8 s output (ap not b));
      filled = λ t s output b f. absurd (false≢true f);
      judged = λ t s output b f. sym (converted s output (ap not b));
    }

pub feeding_answers : Answers feeding
feeding_answers =
    record {
      short = λ t s output b. sym (fed_8 t s output (ap not b));
      filled = λ t s output b f. sym (fed_11 t s output (ap not b) f);
      judged = λ t s output b f. sym (converted s output (ap not b) ∙ fed t s output f);
    }

-- a relation in which the refusals that records add, 8 to 11, stand with themselves
abbrev pub Stays : (Outcome (ℤ × ℤ) → Outcome (ℤ × ℤ) → Type 0) → Type 0
Stays P = (n : ℕ) → 8 ≤ n → n ≤ 11 → P (refused n) (refused n)

module _ (h : RecordCall) (a : Answers h) where
  -- a call that converts had both pieces and room
  pub record Converted (t : h.State) (s : List ℕ) (output : ℕ) (p : ℤ × ℤ) : Type 0 where
    pub pieces : both_of_size (length s) output ≡ true
    pub room : h.is_full t ≡ false
    pub record_is : judged_of s ≡ given p

  pub converted_as : (t : h.State) (s : List ℕ) (output : ℕ) (p : ℤ × ℤ) → h.answer t s output ≡ given p → Converted t s output p
  converted_as t s output p e = go (both_of_size (length s) output) (h.is_full t) refl refl
    where
      go : (b f : Bool) → both_of_size (length s) output ≡ b → h.is_full t ≡ f → Converted t s output p
      go false f eb ef = absurd (not_both 8 p (sym (a.short t s output eb) ∙ e))
      go true true eb ef = absurd (not_both 11 p (sym (a.filled t s output eb ef) ∙ e))
      go true false eb ef = record { pieces = eb; room = ef; record_is = sym (a.judged t s output eb ef) ∙ e }

  -- records whose own answers stand in such a relation have answers of the call in it, with pieces as long and the same session
  pub alike : (P : Outcome (ℤ × ℤ) → Outcome (ℤ × ℤ) → Type 0) → Stays P → (t : h.State) (s s' : List ℕ) (output : ℕ) →
      length s' ≡ length s → P (judged_of s) (judged_of s') → P (h.answer t s output) (h.answer t s' output)
  alike P stays t s s' output l k = go (both_of_size (length s) output) (h.is_full t) refl refl
    where
      go : (b f : Bool) → both_of_size (length s) output ≡ b → h.is_full t ≡ f → P (h.answer t s output) (h.answer t s' output)
      go false f eb ef = rw (a.short t s output eb, a.short t s' output (rw l eb)) (stays 8 (omega arith) (omega arith))
      go true true eb ef = rw (a.filled t s output eb ef, a.filled t s' output (rw l eb) ef) (stays 11 (omega arith) (omega arith))
      go true false eb ef = rw (a.judged t s output eb ef, a.judged t s' output (rw l eb) ef) k
