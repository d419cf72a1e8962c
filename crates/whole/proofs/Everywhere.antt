-- What a function of whole numbers has at every place up to an end: by one test that is computed over the places, and one law that
-- reads the test.
use mathlib.Core.Path.{◌≡◌, refl}
use mathlib.Core.Bool.{Bool, true, false, cond}
use mathlib.Core.Logic.{◌⊎◌, inl, inr}
use Prim.Native.Nat.{ℕ, zero, suc, ◌<◌, ◌≤◌}
use native.Mathlib.Nat.{le_of_suc-le-suc, not-suc-le-zero, eq-or-lt_of_le, le_refl, le_trans}
use native.Mathlib.Omega.{arith}
use lib.Dec.{T, eqb, eqb→eq, leb, leb→le}
use Rattle.whole.proofs.Tests.{conj}

module _ (f : ℕ → ℕ) where
  -- down from n, where f is y, it never rises; each f is worked out once
  abbrev pub rising : ℕ → ℕ → Bool
  rising zero y = true
  rising (suc n) y = let x : ℕ = f n in cond (leb x y) (rising n x) false

  pub rising_at : (n y : ℕ) → T (rising n y) → y ≡ f n → (k : ℕ) → k < n → f k ≤ f (suc k)
  rising_at zero y t e k h = absurd (not-suc-le-zero h)
  rising_at (suc n) y t e k h = go (eq-or-lt_of_le (le_of_suc-le-suc h)) (rising_at n (f n) both.1 refl k)
    where
      both : T (leb (f n) y) × T (rising n (f n))
      both = conj (leb (f n) y) (rising n (f n)) t

      go : (k ≡ n) ⊎ (k < n) → (k < n → f k ≤ f (suc k)) → f k ≤ f (suc k)
      go (inl q) below = rw (q, ← e) (leb→le (f n) y both.0)
      go (inr l) below = below l

  -- what rises at each step up to n rises over many
  pub climbs : (n : ℕ) → ((k : ℕ) → k < n → f k ≤ f (suc k)) → {i : ℕ} (j : ℕ) → i ≤ j → j ≤ n → f i ≤ f j
  climbs n up {i} zero h l = let e : i ≡ 0 = omega arith in rw e (le_refl (f 0))
  climbs n up {i} (suc j) h l = go (eq-or-lt_of_le h) (λ m. climbs n up j m (omega arith))
    where
      go : (i ≡ suc j) ⊎ (i < suc j) → (i ≤ j → f i ≤ f j) → f i ≤ f (suc j)
      go (inl q) below = rw q (le_refl (f (suc j)))
      go (inr m) below = le_trans (below (le_of_suc-le-suc m)) (up j l)

module _ (f g : ℕ → ℕ) where
  -- f and g agree below n
  abbrev pub agreeing : ℕ → Bool
  agreeing zero = true
  agreeing (suc n) = cond (eqb (f n) (g n)) (agreeing n) false

  pub agree_at : (n : ℕ) → T (agreeing n) → (k : ℕ) → k < n → f k ≡ g k
  agree_at zero t k h = absurd (not-suc-le-zero h)
  agree_at (suc n) t k h = go (eq-or-lt_of_le (le_of_suc-le-suc h)) (agree_at n both.1 k)
    where
      both : T (eqb (f n) (g n)) × T (agreeing n)
      both = conj (eqb (f n) (g n)) (agreeing n) t

      go : (k ≡ n) ⊎ (k < n) → (k < n → f k ≡ g k) → f k ≡ g k
      go (inl q) below = rw q (eqb→eq (f n) (g n) both.0)
      go (inr l) below = below l
