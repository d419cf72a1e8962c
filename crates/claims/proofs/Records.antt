-- Demand 3 for records, from demand 3 for numbers.
use mathlib.Core.Bool.{Bool, true, false, not, true≢false}
use mathlib.Core.List.{List, [], ◌∷◌, ◌++◌}
use mathlib.Core.Logic.{inl, inr, ◌≢◌}
use mathlib.Core.Path.{◌≡◌, refl, sym, ap, ap₂, ◌∙◌}
use Prim.Native.Nat.{ℕ, ◌*◌, ◌≤◌, ◌<◌}
use native.Mathlib.Omega.{arith}
use borrow.Author.Tests.{eqb-true, eqb-false, eq-eqb}
use lib.Dec.{eqb}
use lib.IntN.{ℤ, nat_abs}
use lib.ListN.{length, get_or, take}
use mir.Syntax.{w32}
use mir.Val.{SFits}
use Rattle.whole.proofs.Signs.{fits}
use Rattle.angle.specs.Angle.{N}
use Rattle.refusal.specs.Outcome.{Outcome, refused, given}
use Rattle.parallel.proofs.Orders.{not_both}
use Rattle.projection.specs.Answer.{forward_of, inverse_of}
use Rattle.little_endian.specs.Number.{bytes_of}
use Rattle.record.specs.Record.{size, mark, position, place, other_form, record_of, has_mark, kind_in, form_in, central_in, first_in, second_in, moved_of}
use Rattle.record.specs.Refusal.{both_of_size}
use Rattle.record.specs.Answer.{judged_of, output_after}
use Rattle.record.proofs.Orders.{judged_9, judged_10, judged_position, judged_place, mark_bytes, sizes, written}
use Rattle.record.proofs.Stored.{byte_same, central_in_lem, first_in_lem, second_in_lem, position_read, place_read}
use Rattle.claims.specs.Demand3.{Demand3, numbers, Alike, TurnedX, TurnedY, SamePosition, ClosePlace, Shares}
use Rattle.claims.specs.RecordLaws.{RecordCall, SameHead, TurnedEast, TurnedNorth, with_longitude, OtherLongitude, FedAgain, SharedRecord, RecordLaws}
use Rattle.claims.proofs.Accepted as Accepted
use Rattle.claims.proofs.Small.{place_small, position_small}
use Rattle.claims.proofs.Pieces.{Answers, Stays, converted_as, alike}

-- one and the same refusal is alike
both_refused : (R : ℤ × ℤ → ℤ × ℤ → Type 0) → Stays (Alike R)
both_refused R n l h = record { refusals = λ m. (λ e. e, λ e. e); answers = λ p q e g. absurd (not_both n p e) }

-- ---- pieces with the same head

module _ (s t : List ℕ) (h : SameHead s t) where
  head_byte : (i : ℕ) → i < 4 → get_or t i 0 ≡ get_or s i 0
  head_byte = byte_same 4 s t h.head_same

  mark_same : has_mark t ≡ has_mark s
  mark_same = rw (head_byte 0 (omega arith), head_byte 1 (omega arith))

  kind_same : kind_in t ≡ kind_in s
  kind_same = head_byte 2 (omega arith)

  form_same : form_in t ≡ form_in s
  form_same = head_byte 3 (omega arith)

  -- positions, or places, whose answers stand in a relation
  abbrev pub Positions : (Outcome (ℤ × ℤ) → Outcome (ℤ × ℤ) → Type 0) → Type 0
  Positions P = form_in s ≡ position →
      P (forward_of (kind_in s) (central_in s) (first_in s) (second_in s)) (forward_of (kind_in s) (central_in t) (first_in t) (second_in t))

  abbrev pub Places : (Outcome (ℤ × ℤ) → Outcome (ℤ × ℤ) → Type 0) → Type 0
  Places P = form_in s ≡ place →
      P (inverse_of (kind_in s) (central_in s) (first_in s) (second_in s)) (inverse_of (kind_in s) (central_in t) (first_in t) (second_in t))

  -- are records whose own answers do
  judged_alike : (P : Outcome (ℤ × ℤ) → Outcome (ℤ × ℤ) → Type 0) → Stays P → Positions P → Places P → P (judged_of s) (judged_of t)
  judged_alike P stays there back = go (has_mark s) (eqb (form_in s) position) (eqb (form_in s) place) refl refl refl
    where
      go : (m p q : Bool) → has_mark s ≡ m → eqb (form_in s) position ≡ p → eqb (form_in s) place ≡ q → P (judged_of s) (judged_of t)
      go false p q em ep eq =
          rw (← judged_9 s (ap not em), ← judged_9 t (ap not (mark_same ∙ em))) (stays 9 (omega arith) (omega arith))
      go true true q em ep eq =
          let k = eqb-true (form_in s) position ep in
          rw (← judged_position s (ap not em) k, ← judged_position t (ap not (mark_same ∙ em)) (form_same ∙ k), kind_same) (there k)
      go true false true em ep eq =
          let k = eqb-true (form_in s) place eq in
          rw (← judged_place s (ap not em) k, ← judged_place t (ap not (mark_same ∙ em)) (form_same ∙ k), kind_same) (back k)
      go true false false em ep eq =
          let k = eqb-false (form_in s) position ep in
          let n = eqb-false (form_in s) place eq in
          rw (
            ← judged_10 s (ap not em) k n,
            ← judged_10 t (ap not (mark_same ∙ em)) (λ e. k (sym form_same ∙ e)) (λ e. n (sym form_same ∙ e)),
          )
          (stays 10 (omega arith) (omega arith))

-- ---- a record that is converted

marked : (s : List ℕ) (p : ℤ × ℤ) → judged_of s ≡ given p → has_mark s ≡ true
marked s p e = go (has_mark s) refl
  where
    go : (m : Bool) → has_mark s ≡ m → has_mark s ≡ true
    go true em = em
    go false em = absurd (not_both 9 p (judged_9 s (ap not em) ∙ e))

on_position : (s : List ℕ) (p : ℤ × ℤ) → form_in s ≡ position → judged_of s ≡ given p →
    forward_of (kind_in s) (central_in s) (first_in s) (second_in s) ≡ given p
on_position s p f e = judged_position s (ap not (marked s p e)) f ∙ e

on_place : (s : List ℕ) (p : ℤ × ℤ) → form_in s ≡ place → judged_of s ≡ given p →
    inverse_of (kind_in s) (central_in s) (first_in s) (second_in s) ≡ given p
on_place s p f e = judged_place s (ap not (marked s p e)) f ∙ e

-- the first four bytes of a position that is converted
four : (s : List ℕ) → 4 ≤ length s → take 4 s ≡ get_or s 0 0 ∷ get_or s 1 0 ∷ get_or s 2 0 ∷ get_or s 3 0 ∷ []
four [] h = absurd (omega arith)
four (b ∷ []) h = absurd (omega arith)
four (b ∷ c ∷ []) h = absurd (omega arith)
four (b ∷ c ∷ d ∷ []) h = absurd (omega arith)
four (b ∷ c ∷ d ∷ e ∷ s) h = refl

four_bytes : (s : List ℕ) → 4 ≤ length s → has_mark s ≡ true → form_in s ≡ position → take 4 s ≡ mark ++ (kind_in s ∷ position ∷ [])
four_bytes s h m f = let b = mark_bytes s m in four s h ∙ rw (b.0, b.1, f)

-- numbers up to 5 N fit 32 bits
pub in_32 : (z : ℤ) → nat_abs z ≤ 5 * N → SFits w32 z
in_32 z h = fits w32 z (omega arith)

-- ---- a moved record fed on

module _ (h : RecordCall) (a : Answers h) where
  -- and whose answers by the call do
  pub fed_alike : (P : Outcome (ℤ × ℤ) → Outcome (ℤ × ℤ) → Type 0) → Stays P → (t : h.State) (s s' : List ℕ) (output : ℕ) →
      (k : SameHead s s') → Positions s s' k P → Places s s' k P → P (h.answer t s output) (h.answer t s' output)
  fed_alike P stays t s s' output k there back =
      alike h a P stays t s s' output k.length_same (judged_alike s s' k P stays there back)

  fed_again : (bytes : List ℕ) (P : ℤ × ℤ → Type 0) (t : h.State) (output : ℕ) → length bytes ≡ size → (q : ℤ × ℤ) →
      judged_of bytes ≡ given q → P q → FedAgain h bytes P t output
  fed_again bytes P t output l q e k = go (eqb output size) (h.is_full t) refl refl
    where
      both : (b : Bool) → eqb output size ≡ b → both_of_size (length bytes) output ≡ b
      both b eb = rw (eq-eqb (length bytes) size l) eb

      number : (n m : ℕ) → h.answer t bytes output ≡ refused n → h.answer t bytes output ≡ refused m → n ≡ m
      number n m en em = cc

      go : (b f : Bool) → eqb output size ≡ b → h.is_full t ≡ f → FedAgain h bytes P t output
      go false f eb ef =
          let r = a.short t bytes output (both false eb) in
          let no = eqb-false output size eb in
          record {
            by_8 = (λ _. no, λ _. r);
            by_11 = (λ g. absurd (let z = number 8 11 r g in omega arith), λ g. absurd (no g.0));
            nothing_else = λ n g. inl (number n 8 g r);
            accepted = λ s _. absurd (no s);
          }
      go true true eb ef =
          let r = a.filled t bytes output (both true eb) ef in
          let yes = eqb-true output size eb in
          record {
            by_8 = (λ g. absurd (let z = number 11 8 r g in omega arith), λ g. absurd (g yes));
            by_11 = (λ _. (yes, ef), λ _. r);
            nothing_else = λ n g. inr (number n 11 g r);
            accepted = λ _ s. absurd (true≢false (sym ef ∙ s));
          }
      go true false eb ef =
          let r = a.judged t bytes output (both true eb) ef ∙ e in
          let yes = eqb-true output size eb in
          record {
            by_8 = (λ g. absurd (not_both 8 q (sym g ∙ r)), λ g. absurd (g yes));
            by_11 = (λ g. absurd (not_both 11 q (sym g ∙ r)), λ g. absurd (true≢false (sym g.1 ∙ ef)));
            nothing_else = λ n g. absurd (not_both n q (sym g ∙ r));
            accepted = λ _ _. (q, r, k);
          }

  -- what the first call wrote
  wrote : (t : h.State) (s out : List ℕ) (p : ℤ × ℤ) → h.answer t s (length out) ≡ given p →
      record_of (kind_in s) (other_form (form_in s)) (central_in s) p.0 p.1 ≡ output_after s out (h.answer t s (length out))
  unfolding moved_of
  wrote t s out p e = written s out p (sym e)

  -- one of two positions that share a place, as a record like s
  record Like (t : h.State) (s : List ℕ) (output : ℕ) (l : ℤ) (p : ℤ × ℤ) : Type 0 where
    like : OtherLongitude s (with_longitude s l) l
    accepted : h.answer t (with_longitude s l) output ≡ given p

  module _ (t : h.State) (s : List ℕ) (output : ℕ) (is : length s ≡ size) (os : output ≡ size) (room : h.is_full t ≡ false)
      (head : take 4 s ≡ mark ++ (kind_in s ∷ position ∷ [])) where
    alike_at : (l : ℤ) (p : ℤ × ℤ) → forward_of (kind_in s) (central_in s) l (second_in s) ≡ given p → Like t s output l p
    unfolding record_of bytes_of
    alike_at l p e =
        let k = (Accepted.position (kind_in s) (central_in s) l (second_in s) p e).0 in
        let fc = in_32 (central_in s) (omega arith) in
        let fl = in_32 l (omega arith) in
        let ff = in_32 (second_in s) (omega arith) in
        record {
          like =
              record {
                head = record { length_same = sym is; head_same = sym head };
                central = central_in_lem (kind_in s) position (central_in s) l (second_in s) fc;
                longitude = first_in_lem (kind_in s) position (central_in s) l (second_in s) fl;
                latitude = second_in_lem (kind_in s) position (central_in s) l (second_in s) ff;
              };
          accepted =
              a.judged t (with_longitude s l) output (eq-eqb output size os) room
              ∙ position_read (kind_in s) fc fl ff ∙ e;
        }

    shared : Shares numbers (kind_in s) (central_in s) (second_in s) → SharedRecord h t s output
    unfolding moved_of record_of
    shared r =
        let same : r.place₂ ≡ r.place₁ = ap₂ (λ (x y : ℤ). (x, y)) (sym r.same_x) (sym r.same_y) in
        let i = alike_at r.first r.place₁ r.accepted₁ in
        let j = alike_at r.second r.place₁ (r.accepted₂ ∙ ap given same) in
        record {
          first = r.first;
          second = r.second;
          different = r.different;
          first_like = i.like;
          second_like = j.like;
          place = r.place₁;
          accepted₁ = i.accepted;
          accepted₂ = j.accepted;
          same_record = rw (i.like.central, j.like.central);
        }

  module _ (d : Demand3 numbers) where
    forward_back : (t t' : h.State) (s out : List ℕ) (output' : ℕ) (p : ℤ × ℤ) → form_in s ≡ position →
        h.answer t s (length out) ≡ given p →
        FedAgain h (output_after s out (h.answer t s (length out)))
        (λ (q : ℤ × ℤ). SamePosition numbers (kind_in s) (central_in s) (first_in s) (second_in s) q.0 q.1) t' output'
    unfolding record_of bytes_of
    forward_back t t' s out output' p f e =
        let n = on_position s p f (converted_as h a t s (length out) p e).record_is in
        let r = d.forward_back (kind_in s) (central_in s) (first_in s) (second_in s) p.0 p.1 n in
        let c = (Accepted.position (kind_in s) (central_in s) (first_in s) (second_in s) p n).0.c_le in
        let k = place_small (kind_in s) (central_in s) (first_in s) (second_in s) p.0 p.1 n in
        let i = place_read (kind_in s) (in_32 (central_in s) (omega arith)) (in_32 p.0 (omega (arith, k.0))) (in_32 p.1 (omega (arith, k.1))) in
        rw (← wrote t s out p e, f)
        (fed_again (record_of (kind_in s) place (central_in s) p.0 p.1)
        (λ (q : ℤ × ℤ). SamePosition numbers (kind_in s) (central_in s) (first_in s) (second_in s) q.0 q.1) t' output' refl
        (r.longitude, r.latitude) (i ∙ r.accepted) r.same)

    back_forward : (t t' : h.State) (s out : List ℕ) (output' : ℕ) (p : ℤ × ℤ) → form_in s ≡ place →
        h.answer t s (length out) ≡ given p →
        FedAgain h (output_after s out (h.answer t s (length out)))
        (λ (q : ℤ × ℤ). ClosePlace numbers (kind_in s) (central_in s) (first_in s) (second_in s) q.0 q.1) t' output'
    unfolding record_of bytes_of
    back_forward t t' s out output' p f e =
        let n = on_place s p f (converted_as h a t s (length out) p e).record_is in
        let r = d.back_forward (kind_in s) (central_in s) (first_in s) (second_in s) p.0 p.1 n in
        let c = (Accepted.place (kind_in s) (central_in s) (first_in s) (second_in s) p n).0.c_le in
        let k = position_small (kind_in s) (central_in s) (first_in s) (second_in s) p.0 p.1 n in
        let i = position_read (kind_in s) (in_32 (central_in s) (omega arith)) (in_32 p.0 (omega (arith, k.0))) (in_32 p.1 (omega (arith, k.1))) in
        rw (← wrote t s out p e, f)
        (fed_again (record_of (kind_in s) position (central_in s) p.0 p.1)
        (λ (q : ℤ × ℤ). ClosePlace numbers (kind_in s) (central_in s) (first_in s) (second_in s) q.0 q.1) t' output' refl
        (r.x', r.y') (i ∙ r.accepted) r.close)

    turning_x : (t : h.State) (s s' : List ℕ) (output : ℕ) → form_in s ≢ place → TurnedEast s s' →
        Alike (TurnedX numbers) (h.answer t s output) (h.answer t s' output)
    turning_x t s s' output n k =
        fed_alike (Alike (TurnedX numbers)) (both_refused (TurnedX numbers)) t s s' output k.head
        (λ _. rw k.latitude
        (d.turning_x (kind_in s) (central_in s) (central_in s') (first_in s) (first_in s') (second_in s) k.central k.longitude))
        (λ e. absurd (n e))

    turning_y : (t : h.State) (s s' : List ℕ) (output : ℕ) → form_in s ≢ place → TurnedNorth s s' →
        Alike (TurnedY numbers) (h.answer t s output) (h.answer t s' output)
    turning_y t s s' output n k =
        fed_alike (Alike (TurnedY numbers)) (both_refused (TurnedY numbers)) t s s' output k.head
        (λ _. rw (k.central, k.longitude) (d.turning_y (kind_in s) (central_in s) (first_in s) (second_in s) (second_in s') k.latitude))
        (λ e. absurd (n e))

    pub records_by_numbers : RecordLaws h
    records_by_numbers =
        record {
          turning_x = turning_x;
          turning_y = turning_y;
          forward_back = forward_back;
          sharing = λ t s output p f e w.
              let v = converted_as h a t s output p e in
              let l = sizes (length s) output (ap not v.pieces) in
              let n = on_position s p f v.record_is in
              shared t s output l.0 l.1 v.room (four_bytes s (omega (arith, l.0)) (marked s p v.record_is) f)
              (d.sharing (kind_in s) (central_in s) (first_in s) (second_in s) p n w);
          back_forward = back_forward;
        }
