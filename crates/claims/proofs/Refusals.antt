-- The first refusal of an order: when it is given, and when there is none.
use mathlib.Core.Bool.{Bool, true, false, cond}
use mathlib.Core.List.{List, [], ◌∷◌, ◌++◌}
use mathlib.Core.Logic.{◌↔◌}
use mathlib.Core.Path.{◌≡◌, refl, sym, ap}
use Prim.Native.Nat.{ℕ}
use Rattle.refusal.specs.Outcome.{Rule, refused, given, unless}
use Rattle.parallel.proofs.Orders.{not_both, passes, all_pass}
use Rattle.claims.specs.Demand1.{None, First, numbers_of, Ordered}

module _ {A : Type 0} where
  pub unless_none : (order : List Rule) (a : A) → None order → unless order a ≡ given a
  unfolding unless
  unless_none [] a h = refl
  unless_none (r ∷ rs) a h = rw h.0 (unless_none rs a h.1)

  pub unless_given : (order : List Rule) (a b : A) → unless order a ≡ given b → None order × (b ≡ a)
  unfolding unless
  unless_given [] a b e = (tt, sym (all_pass a b e))
  unless_given (r ∷ rs) a b e =
      let p = passes r rs a b e in
      let n = unless_given rs a b p.1 in
      ((p.0, n.0), n.1)

  unless_first : (order : List Rule) (a : A) (n : ℕ) → unless order a ≡ refused n → First order n
  unfolding unless
  unless_first [] a n e = absurd (not_both n a (sym e))
  unless_first (r ∷ rs) a n e = go r.applies refl e (unless_first rs a n)
    where
      go : (t : Bool) → r.applies ≡ t → cond t (refused r.number) (unless rs a) ≡ refused n →
          (unless rs a ≡ refused n → First rs n) → First (r ∷ rs) n
      go true h k on = record { earlier = []; refusal = r; later = rs; stands = refl; number = cc; holds = h; none_earlier = tt }
      go false h k on =
          let f = on k in
          record {
            earlier = r ∷ f.earlier;
            refusal = f.refusal;
            later = f.later;
            stands = ap (λ (xs : List Rule). r ∷ xs) f.stands;
            number = f.number;
            holds = f.holds;
            none_earlier = (h, f.none_earlier);
          }

  first_given : (earlier : List Rule) (r : Rule) (later : List Rule) (a : A) → None earlier → r.applies ≡ true →
      unless (earlier ++ (r ∷ later)) a ≡ refused r.number
  unfolding unless
  first_given [] r later a h k = rw k
  first_given (e ∷ es) r later a h k = rw h.0 (first_given es r later a h.1 k)

  first_unless : (order : List Rule) (a : A) (n : ℕ) → First order n → unless order a ≡ refused n
  first_unless order a n f =
      rw (f.stands, ← f.number) (first_given f.earlier f.refusal f.later a f.none_earlier f.holds)

  pub ordered : {numbers : List ℕ} (order : List Rule) (a : A) → numbers_of order ≡ numbers →
      Ordered (unless order a) order numbers a
  ordered order a e =
      record {
        numbers_are = e;
        refusal = λ n. (unless_first order a n, first_unless order a n);
        answer = λ b. (unless_given order a b, λ h. rw h.1 (unless_none order a h.0));
      }

  -- one and the same order refuses alike, whatever it is to give
  pub same_refusals : (order : List Rule) (a b : A) (n : ℕ) → (unless order a ≡ refused n) ↔ (unless order b ≡ refused n)
  same_refusals order a b n =
      (λ e. first_unless order b n (unless_first order a n e), λ e. first_unless order a n (unless_first order b n e))
