-- The floor of a square root: that it is one, that there is one only, and that it grows.
use mathlib.Core.Path.{◌≡◌}
use mathlib.Core.Bool.{Bool, true, false, not, cond}
use Prim.Native.Nat.{ℕ, zero, suc, ◌*◌, ◌/◌, ◌≤◌, ◌<◌}
use native.Mathlib.Nat.{mul-le-mul, le_antisymm, lt_of_not-le, lt_of_le_of_lt, lt_irrefl, le_of_suc-le-suc, le_refl}
use native.Mathlib.Omega.{arith}
use lib.Dec.{T, leb, leb→le, nleb→lt}
use Rattle.whole.specs.Root.{root, root_in, IsRoot}

pub square_mono : {a b : ℕ} → a ≤ b → a * a ≤ b * b
square_mono h = mul-le-mul h h

pub square_mono_lt : {a b : ℕ} → a < b → a * a < b * b
square_mono_lt {a} {b} h = let m : suc a * suc a ≤ b * b = square_mono h in omega arith

-- squares in order have their sides in order
pub square_lt : (a b : ℕ) → a * a < b * b → a < b
square_lt a b h = lt_of_not-le (λ k. lt_irrefl (b * b) (lt_of_le_of_lt (square_mono k) h))

root_le : {n m r s : ℕ} → n ≤ m → IsRoot n r → IsRoot m s → r ≤ s
root_le {n} {m} {r} {s} h a b = le_of_suc-le-suc (square_lt r (suc s) (omega arith))

pub root_unique : {n r s : ℕ} → IsRoot n r → IsRoot n s → r ≡ s
root_unique {n} a b = le_antisymm (root_le (le_refl n) a b) (root_le (le_refl n) b a)

-- twice the root of n / 4 is the root of n, or one less
step : (n r : ℕ) → IsRoot (n / 4) r → (2 * r * (2 * r) ≤ n) × (n < suc (suc (2 * r)) * suc (suc (2 * r)))
step n r a = omega arith

pick : (n r : ℕ) (b : Bool) → (T b → suc r * suc r ≤ n) → (T (not b) → n < suc r * suc r) → r * r ≤ n →
    n < suc (suc r) * suc (suc r) → IsRoot n (cond b (suc r) r)
pick n r true f g l u = record { low = f tt; high = u }
pick n r false f g l u = record { low = l; high = g tt }

root_in_lem : (turns n : ℕ) → n ≤ turns → IsRoot n (root_in turns n)
unfolding root_in
root_in_lem zero n h = record { low = omega arith; high = omega arith }
root_in_lem (suc turns) zero h = record { low = omega arith; high = omega arith }
root_in_lem (suc turns) (suc m) h =
    let n : ℕ = suc m in
    let r : ℕ = 2 * root_in turns (n / 4) in
    let s = step n (root_in turns (n / 4)) (root_in_lem turns (n / 4) (omega arith)) in
    pick n r (leb (suc r * suc r) n) (leb→le (suc r * suc r) n) (nleb→lt (suc r * suc r) n) s.0 s.1

pub root_is : (n : ℕ) → IsRoot n (root n)
unfolding root
root_is n = root_in_lem n n (le_refl n)

pub root_mono : {n m : ℕ} → n ≤ m → root n ≤ root m
root_mono {n} {m} h = root_le h (root_is n) (root_is m)
