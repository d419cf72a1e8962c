-- Rounding: "nearest" of document 01, on sizes.
use Rattle.std.specs.Prelude.{cond, ℕ, ◌+◌, ◌*◌, ◌/◌, ◌%◌, ◌≤◌, ltb, eqb}

-- what is added to a quotient's floor q where r of d is left over: 0 below a half, 1 above it, and a half goes to the even neighbour
unfoldable pub carry : ℕ → ℕ → ℕ → ℕ
carry q r d = cond (ltb (2 * r) d) 0 (cond (ltb d (2 * r)) 1 (q % 2))

-- the whole number nearest to n / d; a quotient by 0 counts as 0
unfoldable pub nearest : ℕ → ℕ → ℕ
nearest n d = cond (eqb d 0) 0 (n / d + carry (n / d) (n % d) d)

-- k is within a half of n / d, both ends counted
pub record Near (n d k : ℕ) : Type 0 where
  pub hi : 2 * (d * k) ≤ 2 * n + d
  pub lo : 2 * n ≤ 2 * (d * k) + d
