-- Answers that are alike but for the side: orders of which the one judges a number turned.
use mathlib.Core.Bool.{Bool, true, false, cond}
use mathlib.Core.List.{List, [], ◌∷◌, ◌++◌}
use mathlib.Core.Path.{◌≡◌, refl, sym, ap, ◌∙◌}
use Prim.Native.Nat.{ℕ}
use borrow.Author.Tests.{eqb-true, eq-eqb, ne_eqb}
use lib.Dec.{eqb}
use lib.IntN.{ℤ, neg_ℤ}
use Rattle.angle.specs.Angle.{above, below}
use Rattle.angle.proofs.Sides.{above_neg, below_neg, one_side}
use Rattle.refusal.specs.Outcome.{Rule, refused, given, unless}
use Rattle.parallel.proofs.Orders.{OfNumbers, not_both, sides}
use Rattle.claims.specs.TurnedPlaces.{exchanged, AlikeBy}

-- two numbers exchanged twice
pub exchanged_back : (a b : ℕ) → eqb b a ≡ false → (n : ℕ) → exchanged a b (exchanged a b n) ≡ n
exchanged_back a b d n = go (eqb n a) (eqb n b) refl refl
  where
    go : (s t : Bool) → eqb n a ≡ s → eqb n b ≡ t → exchanged a b (cond s b (cond t a n)) ≡ n
    go true t e f = rw (d, eq-eqb b b refl) (sym (eqb-true n a e))
    go false true e f = rw (eq-eqb a a refl) (sym (eqb-true n b f))
    go false false e f = rw (e, f)

pub exchanged_other : (a b n : ℕ) → (n ≡ a → ⊥) → (n ≡ b → ⊥) → exchanged a b n ≡ n
exchanged_other a b n h k = rw (ne_eqb n a h, ne_eqb n b k)

module _ {A : Type 0} (a b : ℕ) (d : eqb b a ≡ false) (R : A → A → Type 0) where
  abbrev f : ℕ → ℕ
  f = exchanged a b

  -- refused by numbers that correspond, or given
  pub both_refused : (n m : ℕ) → f n ≡ m → AlikeBy f R (refused n) (refused m)
  both_refused n m h =
      record {
        refusals = λ k. (
          λ e. let s : n ≡ k = cc in ap refused (sym h ∙ ap f s),
          λ e. let s : m ≡ f k = cc in ap refused (sym (exchanged_back a b d n) ∙ ap f (h ∙ s) ∙ exchanged_back a b d k),
        );
        answers = λ p q e g. absurd (not_both n p e);
      }

  pub both_given : (p q : A) → R p q → AlikeBy f R (given p) (given q)
  both_given p q h =
      record {
        refusals = λ k. (λ e. absurd (not_both k p (sym e)), λ e. absurd (not_both (f k) q (sym e)));
        answers = λ s t e g. let u : p ≡ s = cc in let v : q ≡ t = cc in rw (← u, ← v) h;
      }

  -- an order that begins both, whose numbers stay
  pub after : (order rest rest' : List Rule) (p q : A) → OfNumbers (λ (n : ℕ). f n ≡ n) order →
      AlikeBy f R (unless rest p) (unless rest' q) → AlikeBy f R (unless (order ++ rest) p) (unless (order ++ rest') q)
  unfolding unless
  after [] rest rest' p q h k = k
  after (r ∷ rs) rest rest' p q h k = go r.applies (after rs rest rest' p q h.1 k)
    where
      go : (t : Bool) → AlikeBy f R (unless (rs ++ rest) p) (unless (rs ++ rest') q) →
          AlikeBy f R (cond t (refused r.number) (unless (rs ++ rest) p)) (cond t (refused r.number) (unless (rs ++ rest') q))
      go true j = both_refused r.number r.number h.0
      go false j = j

  -- the sides of a limit, at a number and at that number turned: only one side can be passed
  pub turned_sides : (n : ℕ) (z : ℤ) (rest rest' : List Rule) (p q : A) → AlikeBy f R (unless rest p) (unless rest' q) →
      AlikeBy f R (unless (sides a b n z rest) p) (unless (sides a b n (neg_ℤ z) rest') q)
  unfolding unless
  turned_sides n z rest rest' p q k = rw (above_neg n z, below_neg n z) (go (above n z) (below n z) refl refl)
    where
      go : (s t : Bool) → above n z ≡ s → below n z ≡ t →
          AlikeBy f R (cond s (refused a) (cond t (refused b) (unless rest p))) (cond t (refused a) (cond s (refused b) (unless rest' q)))
      go true true e g = absurd (one_side n z e g)
      go true false e g = both_refused a b (rw (eq-eqb a a refl))
      go false true e g = both_refused b a (rw (d, eq-eqb b b refl))
      go false false e g = k
