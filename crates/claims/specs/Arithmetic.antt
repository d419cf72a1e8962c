-- That the definitions of rounding, of the root and of the exact root's order are what their names say, and N and H the degrees
-- that document 01 says.
use Rattle.std.specs.Prelude.{[], ◌∷◌, map, ◌↔◌, ◌≡◌, ℕ, ◌+◌, ◌*◌, ◌<◌, ℤ, pos, neg_ℤ, nat_abs, ◌*ℤ◌, ◌<ℤ◌}
use Rattle.whole.specs.Nearest.{nearest, Near}
use Rattle.whole.specs.Signed.{nearest_signed}
use Rattle.whole.specs.Root.{root, IsRoot}
use Rattle.angle.specs.Angle.{per_degree, N, H}
use Rattle.parallel.specs.Table.{neg}
use Rattle.claims.specs.ExactRoot.{BelowRoot}

pub record Arithmetic : Type 0 where
  -- within a half of n / d, both ends counted
  pub near : (n d : ℕ) → 0 < d → Near n d (nearest n d)
  -- the same on both sides of 0, for signed numbers
  pub mirrored : (z : ℤ) (d : ℕ) → nearest_signed (neg_ℤ z) d ≡ neg_ℤ (nearest_signed z d)
  pub sized : (z : ℤ) (d : ℕ) → nat_abs (nearest_signed z d) ≡ nearest (nat_abs z) d
  -- a half goes to the even neighbour (order 8): 2 k and a half to 2 k, 2 k + 1 and a half to 2 k + 2, and below 0 likewise
  pub half_above_even : (k h : ℕ) → 0 < h → nearest_signed (pos (2 * h * (2 * k) + h)) (2 * h) ≡ pos (2 * k)
  pub half_above_odd : (k h : ℕ) → 0 < h → nearest_signed (pos (2 * h * (2 * k + 1) + h)) (2 * h) ≡ pos (2 * k + 2)
  pub half_below_even : (k h : ℕ) → 0 < h → nearest_signed (neg_ℤ (pos (2 * h * (2 * k) + h))) (2 * h) ≡ neg_ℤ (pos (2 * k))
  pub half_below_odd : (k h : ℕ) → 0 < h → nearest_signed (neg_ℤ (pos (2 * h * (2 * k + 1) + h))) (2 * h) ≡ neg_ℤ (pos (2 * k + 2))
  -- from -3 1/2 to 3 1/2
  pub halves : map (λ (z : ℤ). nearest_signed z 2) (neg 7 ∷ neg 5 ∷ neg 3 ∷ neg 1 ∷ pos 1 ∷ pos 3 ∷ pos 5 ∷ pos 7 ∷ [])
      ≡ neg 4 ∷ neg 2 ∷ neg 2 ∷ pos 0 ∷ pos 0 ∷ pos 2 ∷ pos 2 ∷ pos 4 ∷ []
  -- the floor of the square root, of every n
  pub floor : (n : ℕ) → IsRoot n (root n)
  -- where s is r squared, u < y √s is u < y r
  pub exact : (u y : ℤ) (r : ℕ) → BelowRoot u y (r * r) ↔ (u <ℤ (y *ℤ pos r))
  -- 180 and 90 degrees
  pub half_turn : N ≡ 180 * per_degree
  pub right_angle : H ≡ 90 * per_degree
