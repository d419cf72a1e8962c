-- The terms of the series never grow, so that no difference of the series is cut at 0.
use mathlib.Core.Path.{◌≡◌, refl}
use Prim.Native.Nat.{ℕ, zero, suc, ◌+◌, ◌*◌, ◌≤◌}
use native.Mathlib.Nat.{le_refl, le_trans, mul-le-mul, mul-le-mul_left, mul_comm, div-le_of_le-mul, sub-le, sub-add_cancel}
use native.Mathlib.Omega.{arith}
use lib.Dec.{lit≤}
use Rattle.sine.specs.Series.{one, next, alternating}

-- from the first power on the next two factors are at least 6, and 4 is the square of an angle of 2
next_le : (a n t : ℕ) → a ≤ 2 * one → 1 ≤ n → next a n t ≤ t
unfolding next
next_le a n t h k =
    let d : ℕ = one * one * ((n + 1) * (n + 2)) in
    let f : 6 ≤ (n + 1) * (n + 2) = omega (arith, mul-le-mul k k) in
    let s : a * a ≤ d = le_trans (mul-le-mul h h) (le_trans (lit≤ tt) (mul-le-mul_left (one * one) f)) in
    div-le_of_le-mul d (rw (mul_comm d t) (mul-le-mul_left t s))

alternating_le : (more a n t : ℕ) → alternating more a n t ≤ t
unfolding alternating
alternating_le zero a n t = le_refl t
alternating_le (suc more) a n t = sub-le t (alternating more a (n + 2) (next a n t))

-- what is taken from a term leaves the rest of it
pub taken : (more a n t : ℕ) → a ≤ 2 * one → 1 ≤ n → alternating (suc more) a n t + alternating more a (n + 2) (next a n t) ≡ t
unfolding alternating
taken more a n t h k = sub-add_cancel (le_trans (alternating_le more a (n + 2) (next a n t)) (next_le a n t h k))

pub last : (a n t : ℕ) → alternating 0 a n t ≡ t
unfolding alternating
last a n t = refl
