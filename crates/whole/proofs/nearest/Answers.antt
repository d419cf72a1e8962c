-- `whole::nearest` meets its contract: the floor and what is carried.
use mathlib.Core.Path.{sym, ap}
use Prim.Native.Nat.{ℕ, ◌+◌, ◌*◌, ◌/◌, ◌≤◌, ◌<◌}
use native.Mathlib.Nat.{mul-le-mul_right}
use native.Mathlib.Omega.{arith}
use Rattle.whole.specs.Nearest.{nearest}
use Rattle.whole.proofs.Rounding.{near, nearest_is, nearest_by_zero}
use Rattle.whole.proofs.Scales.{near_le}
use Rattle.whole.proofs.nearest.Goals as goal

-- what is nearest does not pass n
nearest_le : (n d : ℕ) → 0 < d → nearest n d ≤ n
nearest_le n d h = let m : 1 * n ≤ d * n = mul-le-mul_right n h in near_le n d n (nearest n d) h (omega arith) (near n d h)

pub returns-then-d-eq0 : goal.returns-then-d-eq0
returns-then-d-eq0 c = rw c.if-d-eq0.true (sym (nearest_by_zero c.args.n))

pub returns : goal.returns
returns c =
    let s = c.args in
    rw (nearest_is s.n s.d (omega arith)) (ap (λ (x : ℕ). s.n / s.d + x) c.carry.ensures)

pub overflow_add-result : goal.overflow_add-result
overflow_add-result c =
    let s = c.args in
    omega (arith, returns c, nearest_le s.n s.d (omega arith))
