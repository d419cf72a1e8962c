-- What a record is answered, refusal by refusal in its order.
use mathlib.Core.Bool.{Bool, true, false, not, cond, and-eq-true_iff}
use mathlib.Core.List.{List}
use mathlib.Core.Path.{◌≡◌, sym, subst}
use Prim.Native.Nat.{ℕ}
use native.Mathlib.Omega.{arith}
use borrow.Author.Tests.{eq-eqb, ne_eqb, eqb-true}
use lib.Dec.{T, eqb, eqb→eq}
use lib.IntN.{ℤ}
use lib.ListN.{length, get_or}
use Rattle.whole.proofs.Tests.{conj}
use borrow.Author.Tests.{not-false}
use Rattle.refusal.specs.Outcome.{Outcome, refused, given, is_given, unless}
use Rattle.parallel.proofs.Orders.{Applies, Passes, OfNumbers}
use Rattle.projection.specs.Answer.{forward_order, inverse_order, forward_of, inverse_of}
use Rattle.record.specs.Record.{size, mark, position, place, has_mark, kind_in, form_in, central_in, first_in, second_in, moved_of}
use Rattle.record.specs.Refusal.{both_of_size, bad_pieces, bad_mark}
use Rattle.record.specs.Answer.{pair_order, pair_of, judged_of, convertible, convert_of, output_after}

-- the same is made of equal numbers
pub at_numbers : {A : Type 0} (make : ℕ → ℤ → ℤ → ℤ → A) {n n' : ℕ} {c c' f f' s s' : ℤ} → n ≡ n' → c ≡ c' → f ≡ f' → s ≡ s' →
    make n c f s ≡ make n' c' f' s'
at_numbers make n c f s = rw (n, c, f, s)

module _ (bytes : List ℕ) where
  pub judged_9 : Applies (bad_mark bytes) → refused 9 ≡ judged_of bytes
  unfolding judged_of unless
  judged_9 m = rw m

  pub judged_10 : Passes (bad_mark bytes) → (form_in bytes ≡ position → ⊥) → (form_in bytes ≡ place → ⊥) → refused 10 ≡ judged_of bytes
  unfolding judged_of unless
  judged_10 m h k = rw (m, ne_eqb (form_in bytes) position h, ne_eqb (form_in bytes) place k)

  pub judged_position : Passes (bad_mark bytes) → form_in bytes ≡ position →
      forward_of (kind_in bytes) (central_in bytes) (first_in bytes) (second_in bytes) ≡ judged_of bytes
  unfolding judged_of forward_of pair_order pair_of unless
  judged_position m h = rw (m, eq-eqb (form_in bytes) position h)

  pub judged_place : Passes (bad_mark bytes) → form_in bytes ≡ place →
      inverse_of (kind_in bytes) (central_in bytes) (first_in bytes) (second_in bytes) ≡ judged_of bytes
  unfolding judged_of inverse_of pair_order pair_of unless
  judged_place m h =
      rw (m, ne_eqb (form_in bytes) position (λ k. omega arith), eq-eqb (form_in bytes) place h)

module _ (input : List ℕ) (output : ℕ) where
  pub converted_8 : Applies (bad_pieces input output) → refused 8 ≡ convert_of input output
  unfolding convert_of unless
  converted_8 b = rw b

  pub converted : Passes (bad_pieces input output) → judged_of input ≡ convert_of input output
  unfolding convert_of judged_of unless
  converted b = rw b

-- what holds of a position's and of a place's numbers holds of the numbers of the pair that a record holds
pub pair_numbers : (P : ℕ → Type 0) (bytes : List ℕ) → P 1 → P 3 → P 4 → P 5 → P 6 → P 18 → P 7 → P 17 → OfNumbers P (pair_order bytes)
unfolding pair_order
pair_numbers P bytes p1 p3 p4 p5 p6 p18 p7 p17 = go (eqb (form_in bytes) position)
  where
    go : (b : Bool) →
        OfNumbers P (cond b (forward_order (kind_in bytes) (central_in bytes) (first_in bytes) (second_in bytes))
        (inverse_order (kind_in bytes) (central_in bytes) (first_in bytes) (second_in bytes)))
    go true = (p1, (p3, (p4, (p5, tt))))
    go false = (p1, (p3, (p6, (p18, (p7, (p17, tt))))))

-- two pieces that pass are of a record's length
pub sizes : (input output : ℕ) → not (both_of_size input output) ≡ false → (input ≡ size) × (output ≡ size)
sizes input output h =
    let t = conj (eqb input size) (eqb output size) (rw (not-false (both_of_size input output) h) tt) in
    (eqb→eq input size t.0, eqb→eq output size t.1)

-- a record that passes begins with the mark's two bytes
pub mark_bytes : (bytes : List ℕ) → has_mark bytes ≡ true → (get_or bytes 0 0 ≡ get_or mark 0 0) × (get_or bytes 1 0 ≡ get_or mark 1 0)
mark_bytes bytes h =
    let t = conj (eqb (get_or bytes 0 0) (get_or mark 0 0)) (eqb (get_or bytes 1 0) (get_or mark 1 0)) (subst T (sym h) tt) in
    (eqb→eq (get_or bytes 0 0) (get_or mark 0 0) t.0, eqb→eq (get_or bytes 1 0) (get_or mark 1 0) t.1)

module _ (input output : List ℕ) {answer : Outcome (ℤ × ℤ)} where
  -- what the output piece holds after a conversion
  pub written : (pair : ℤ × ℤ) → given pair ≡ answer → moved_of input pair ≡ output_after input output answer
  unfolding output_after
  written pair e = rw (sym e)

-- ---- whether bytes are a record that the rules convert

pub not_a_record : (bytes : List ℕ) → (length bytes ≡ size → ⊥) → false ≡ convertible bytes
unfolding convertible
not_a_record bytes h = rw (ne_eqb (length bytes) size h)

pub by_judgement : (bytes : List ℕ) (answer : Outcome (ℤ × ℤ)) → length bytes ≡ size → answer ≡ judged_of bytes →
    is_given answer ≡ convertible bytes
unfolding convertible
by_judgement bytes answer h e = rw (eq-eqb (length bytes) size h, e)

-- such a record has its length
pub convertible_length : (bytes : List ℕ) → convertible bytes ≡ true → length bytes ≡ size
unfolding convertible
convertible_length bytes e =
    eqb-true (length bytes) size ((and-eq-true_iff (eqb (length bytes) size) (is_given (judged_of bytes))).0 e).0
