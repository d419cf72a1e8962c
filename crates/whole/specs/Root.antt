-- The floor of a square root.
use Rattle.std.specs.Prelude.{cond, ℕ, zero, suc, ◌*◌, ◌/◌, ◌≤◌, ◌<◌, leb}

-- the root of n is twice the root of n / 4, or one more; n / 4 is 0 after at most n turns
unfoldable pub root_in : ℕ → ℕ → ℕ
root_in zero n = 0
root_in (suc turns) zero = 0
root_in (suc turns) (suc m) =
    let n = suc m in
    let r = 2 * root_in turns (n / 4) in
    cond (leb (suc r * suc r) n) (suc r) r

-- the floor of the square root of n
unfoldable pub root : ℕ → ℕ
root n = root_in n n

-- r is the floor of the square root of n
pub record IsRoot (n r : ℕ) : Type 0 where
  pub low : r * r ≤ n
  pub high : n < suc r * suc r
