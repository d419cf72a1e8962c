-- Where the wrap of a sum or difference of longitudes goes.
use mathlib.Core.Path.{◌≡◌, refl, ap, ◌∙◌}
use mathlib.Core.Bool.{Bool, true, false, not, cond}
use Prim.Native.Nat.{ℕ, zero, suc, ◌+◌, ◌*◌, ◌-◌, ◌≤◌, ◌<◌}
use native.Mathlib.Omega.{arith}
use borrow.Author.Tests.{ltb-true, ltb-false, lt-ltb, le-ltb}
use lib.IntN.{ℤ, pos, negsuc, neg_ℤ, nat_abs, ◌+ℤ◌, neg_ℤ-+ℤ, neg_ℤ-neg_ℤ}
use Rattle.whole.specs.Signed.{with_sign, plus, minus}
use Rattle.whole.proofs.Signs.{parts, sum, nat_abs_neg, less_west}
use Rattle.angle.specs.Angle.{N, outside}
use Rattle.projection.specs.Longitude.{reduced, wrap, difference_of, longitude_of}

-- the three ways from z to its wrap r
pub data Wrapped (z r : ℤ) : Type 0 where
  stay : nat_abs z ≤ N → plus r + minus z ≡ minus r + plus z → Wrapped z r
  down : N < plus z → plus r + (2 * N + minus z) ≡ minus r + plus z → Wrapped z r
  up : N < minus z → plus r + minus z ≡ minus r + (2 * N + plus z) → Wrapped z r

reduced_is : (z : ℤ) → N < nat_abs z → Wrapped z (reduced z)
reduced_is (pos n) h = down h (omega (arith, sum (pos n) (neg_ℤ (pos (2 * N)))))
reduced_is (negsuc n) h = up h (omega (arith, sum (negsuc n) (pos (2 * N))))

pub wrapped : (z : ℤ) → Wrapped z (wrap z)
unfolding wrap
wrapped z = go (outside N z) refl
  where
    go : (b : Bool) → outside N z ≡ b → Wrapped z (cond b (reduced z) z)
    go true e = reduced_is z (ltb-true N (nat_abs z) e)
    go false e = stay (ltb-false N (nat_abs z) e) (omega arith)

pub wrap_near : (z : ℤ) → nat_abs z ≤ N → wrap z ≡ z
unfolding wrap
wrap_near z h = rw (le-ltb N (nat_abs z) h)

neg_cond : (b : Bool) (x y : ℤ) → neg_ℤ (cond b x y) ≡ cond b (neg_ℤ x) (neg_ℤ y)
neg_cond true x y = refl
neg_cond false x y = refl

pub wrap_neg : (z : ℤ) → wrap (neg_ℤ z) ≡ neg_ℤ (wrap z)
unfolding wrap
wrap_neg (pos zero) = refl
wrap_neg (pos (suc n)) = rw (neg_cond, neg_ℤ-+ℤ)
wrap_neg (negsuc n) = rw (neg_cond, neg_ℤ-+ℤ)

-- past N, the turn back leads to the other side of 0
far_east : (n : ℕ) → N < n → n ≤ 2 * N → wrap (pos n) ≡ neg_ℤ (pos (2 * N - n))
unfolding wrap
far_east n h k = rw (lt-ltb N n h) (less_west n (2 * N) k)

pub wrap_far : (b : Bool) (n : ℕ) → N < n → n ≤ 2 * N → wrap (with_sign b n) ≡ with_sign (not b) (2 * N - n)
wrap_far false n h k = far_east n h k
wrap_far true n h k = wrap_neg (pos n) ∙ ap neg_ℤ (far_east n h k) ∙ neg_ℤ-neg_ℤ (pos (2 * N - n))

wrap_le : (z : ℤ) → nat_abs z ≤ 3 * N → nat_abs (wrap z) ≤ N
wrap_le z h = go (wrapped z)
  where
    go : Wrapped z (wrap z) → nat_abs (wrap z) ≤ N
    go (stay a e) = let p = parts z in let q = parts (wrap z) in omega arith
    go (down a e) = let p = parts z in let q = parts (wrap z) in omega arith
    go (up a e) = let p = parts z in let q = parts (wrap z) in omega arith

sum_le : (x y : ℤ) {a b : ℕ} → nat_abs x ≤ a → nat_abs y ≤ b → nat_abs (x +ℤ y) ≤ a + b
sum_le x y h k = let p = parts x in let q = parts y in let r = parts (x +ℤ y) in let s = sum x y in omega arith

pub difference_le : (c l : ℤ) → nat_abs c ≤ N → nat_abs l ≤ N → nat_abs (difference_of c l) ≤ N
difference_le c l h k =
    let m : nat_abs (neg_ℤ c) ≤ N = rw (nat_abs_neg c) h in
    wrap_le (l +ℤ neg_ℤ c) (omega (arith, sum_le l (neg_ℤ c) k m))

pub longitude_le : (c d : ℤ) → nat_abs c ≤ N → nat_abs d ≤ N → nat_abs (longitude_of c d) ≤ N
longitude_le c d h k = wrap_le (c +ℤ d) (omega (arith, sum_le c d h k))
