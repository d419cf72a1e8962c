-- Two scales: what is rounded from a scale of n parts to one of w parts, and back. All by the relation `Near`, which does
-- not know the decision for halves.
use mathlib.Core.Path.{◌≡◌, ap, ◌∙◌}
use mathlib.Core.Logic.{◌⊎◌, inl, inr}
use Prim.Native.Nat.{ℕ, zero, suc, ◌+◌, ◌*◌, ◌≤◌, ◌<◌, zero-le}
use native.Mathlib.Nat.{mul_comm, mul-add, mul-le-mul_left, le_of_eq, le-suc, le_antisymm, eq-or-lt_of_le}
use native.Mathlib.Omega.{arith}
use Rattle.whole.specs.Nearest.{nearest, Near}
use Rattle.whole.proofs.Products.{cancel}
use Rattle.whole.proofs.Rounding.{near}

-- what is nearest grows with n: of two different n even a half rounded either way cannot change the order
pub nearest_mono : {n m : ℕ} (d : ℕ) → 0 < d → n ≤ m → nearest n d ≤ nearest m d
nearest_mono {n} {m} d h k = go (eq-or-lt_of_le k)
  where
    go : (n ≡ m) ⊎ (n < m) → nearest n d ≤ nearest m d
    go (inl e) = le_of_eq (ap (λ (x : ℕ). nearest x d) e)
    go (inr l) = let a = near n d h in let b = near m d h in cancel d (omega arith)

-- what is nearest does not pass a whole number that the quotient does not pass
pub near_le : (n d k j : ℕ) → 0 < d → n ≤ d * k → Near n d j → j ≤ k
near_le n d k j h l a = cancel d (omega arith)

pub near_ge : (n d k j : ℕ) → 0 < d → d * k ≤ n → Near n d j → k ≤ j
near_ge n d k j h l a = cancel d (omega arith)

-- a whole quotient is its own nearest
near_whole : (k d j : ℕ) → 0 < d → Near (k * d) d j → j ≡ k
near_whole k d j h a =
    let e = mul_comm k d in
    le_antisymm (near_le (k * d) d k j h (le_of_eq e) a) (near_ge (k * d) d k j h (omega arith) a)

-- less than a half away from k, either way: the nearest is k
pub nearest_strict : (n d k : ℕ) → 0 < d → 2 * n < 2 * (d * k) + d → 2 * (d * k) < 2 * n + d → nearest n d ≡ k
nearest_strict n d k h l g = let a = near n d h in le_antisymm (cancel d (omega arith)) (cancel d (omega arith))

-- forward and back: a scale w of at least n keeps apart what n parts
return_wider : (n w d x b : ℕ) → n < w → Near (w * d) n x → Near (x * n) w b → b ≡ d
return_wider n w d x b l f g = le_antisymm (cancel w (omega arith)) (cancel w (omega arith))

pub return : (n w d x b : ℕ) → 0 < n → n ≤ w → Near (w * d) n x → Near (x * n) w b → b ≡ d
return n w d x b p l f g = go (eq-or-lt_of_le l)
  where
    same : n ≡ w → b ≡ d
    same q =
        let f' : Near (n * d) n x = rw (← q) at f in
        let g' : Near (x * n) n b = rw (← q) at g in
        near_whole x n b p g' ∙ near_whole d n x p (rw mul_comm at f')

    go : (n ≡ w) ⊎ (n < w) → b ≡ d
    go (inl q) = same q
    go (inr h) = return_wider n w d x b h f g

-- back and forward, on a scale below five times the other: within 2
pub back_within : (n w x d z : ℕ) → w < 5 * n → Near (x * n) w d → Near (w * d) n z → (z ≤ x + 2) × (x ≤ z + 2)
back_within n w x d z l f g = (cancel n (rw mul-add (omega arith)), cancel n (rw mul-add (omega arith)))

-- a share of at most the whole is nearest to at most the whole
pub part_le : (n w d x : ℕ) → 0 < n → d ≤ n → Near (w * d) n x → x ≤ w
part_le n w d x p h f = near_le (w * d) n w x p (omega (arith, mul-le-mul_left w h)) f

-- what lies at most where t does comes back to at most t
pub return_le : (n w t top y p : ℕ) → n < w → Near (w * t) n top → y ≤ top → Near (y * n) w p → p ≤ t
return_le n w t top y p l f h g = let m = mul-le-mul_left n h in let e = mul_comm y n in cancel w (omega arith)

-- sharing: what rises from 0 and ends below its argument stands still somewhere
Still : (ℕ → ℕ) → ℕ → Type 0
Still f n = (d : ℕ) × (d < n) × (f d ≡ f (suc d))

climb : (f : ℕ → ℕ) → ((d : ℕ) → f d ≤ f (suc d)) → (n : ℕ) → Still f n ⊎ (n ≤ f n)
unfolding Still
climb f up zero = inr zero-le
climb f up (suc n) = go (climb f up n)
  where
    step : n ≤ f n → (f n ≡ f (suc n)) ⊎ (f n < f (suc n)) → Still f (suc n) ⊎ (suc n ≤ f (suc n))
    step h (inl e) = inl (n, omega arith, e)
    step h (inr l) = inr (omega arith)

    go : Still f n ⊎ (n ≤ f n) → Still f (suc n) ⊎ (suc n ≤ f (suc n))
    go (inl t) = inl (t.0, omega arith, t.2)
    go (inr h) = step h (eq-or-lt_of_le (up n))

pub share : (n w : ℕ) → 0 < n → w < n → (d : ℕ) × (d < n) × (nearest (w * d) n ≡ nearest (w * suc d) n)
unfolding Still
share n w p l = go (climb f up n)
  where
    f : ℕ → ℕ
    f d = nearest (w * d) n

    up : (d : ℕ) → f d ≤ f (suc d)
    up d = nearest_mono n p (mul-le-mul_left w (le-suc d))

    go : Still f n ⊎ (n ≤ f n) → Still f n
    go (inl t) = t
    go (inr h) = let e = near_whole w n (f n) p (near (w * n) n p) in absurd (omega arith)
