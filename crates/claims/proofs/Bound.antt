-- Demand 2's bound: W is less than 1 away from the expression with the exact root or quotient.
use mathlib.Core.Path.{◌≡◌, refl, ap}
use Prim.Native.Nat.{ℕ, suc, ◌+◌, ◌-◌, ◌*◌, ◌≤◌, ◌<◌}
use native.Mathlib.Nat.{zero-mul, mul_comm, mul-le-mul_left}
use native.Mathlib.Omega.{arith}
use lib.Dec.{T}
use lib.IntN.{ℤ, pos, nat_abs, ◌-ℤ◌, ◌*ℤ◌}
use Rattle.whole.specs.Root.{IsRoot, root}
use Rattle.whole.specs.Signed.{plus, minus}
use Rattle.whole.proofs.Squares.{root_is}
use Rattle.whole.proofs.Everywhere.{agreeing, agree_at}
use Rattle.whole.proofs.Signs.{parts, less, plus_mul, minus_mul, nat_abs_mul}
use Rattle.angle.specs.Angle.{N, M}
use Rattle.parallel.specs.declared.table.Row.{Row}
use Rattle.parallel.specs.declared.table.Method.{Method}
use Rattle.parallel.specs.declared.table.Method.TheVariants.{Unused, Root, Quotient, Cosine}
use Rattle.parallel.specs.Table.{rows, row_of}
use Rattle.parallel.specs.Parallel.{radicand, q_by, q_at, one_by, one_of, numerator, half_width}
use Rattle.parallel.specs.Columns.{combined, Usable, unused_size}
use Rattle.parallel.proofs.Widths.{combined_is, numerator_whole, width_near}
use Rattle.claims.specs.ExactRoot.{NearRoot}
use Rattle.claims.specs.Demand2.{slope, rest, WithinOne}
use Rattle.claims.proofs.Roots.{AtMost, AtLeast, near_root}

-- by the rounding alone, 2 M W - KX a M is at most M away from KX b q
rounded : (r : Row) (p : ℕ) → Usable r p → one_of r ≡ M →
    AtMost (rest r p) (slope r) (q_at r p) M × AtLeast (rest r p) (slope r) (q_at r p) M
unfolding numerator combined
rounded r p u o =
    let x = r.kx in
    let q = q_at r p in
    let n = rw o at (width_near r p u) in
    let e = combined_is r.a M r.b q (rw o at (numerator_whole r p u)) in
    let c = ap (λ (k : ℕ). x * k) e in
    let s = less (pos (2 * M * half_width r p)) (r.a *ℤ pos (x * M)) in
    let a1 = plus_mul r.a (x * M) in
    let a2 = minus_mul r.a (x * M) in
    rw (plus_mul r.b x, minus_mul r.b x) (omega arith, omega arith)

slope_small : (r : Row) (p : ℕ) → Usable r p → one_of r ≡ M → nat_abs (slope r) < M
slope_small r p u o = rw (nat_abs_mul r.b r.kx, mul_comm (nat_abs r.b) r.kx) (rw o at u.columns.kx_fine)

-- g is at most M away from y q, and q is the floor of t / N: so N g is less than 2 M N away from y t
by_quotient : (y g : ℤ) (q t : ℕ) → N * q ≤ t → t ≤ N * q + N → nat_abs y < M → AtMost g y q M → AtLeast g y q M →
    nat_abs (g *ℤ pos N -ℤ y *ℤ pos t) < 2 * M * N
by_quotient y g q t h k b l m =
    let z = parts (g *ℤ pos N -ℤ y *ℤ pos t) in
    let s = less (g *ℤ pos N) (y *ℤ pos t) in
    let g1 = plus_mul g N in
    let g2 = minus_mul g N in
    let y1 = plus_mul y t in
    let y2 = minus_mul y t in
    let p1 = mul-le-mul_left (plus y) h in
    let p2 = mul-le-mul_left (plus y) k in
    let m1 = mul-le-mul_left (minus y) h in
    let m2 = mul-le-mul_left (minus y) k in
    let i = parts y in
    omega arith

-- b is 0 where q is not used, so that any root does in the place of 0
unused : (y g : ℤ) (s q : ℕ) → nat_abs y ≤ 0 → IsRoot s q → AtMost g y 0 M → AtLeast g y 0 M → NearRoot y s g (2 * M)
unused y g s q z r l m =
    let i = parts y in
    let a : plus y ≡ 0 = omega arith in
    let b : minus y ≡ 0 = omega arith in
    near_root y g s q M r (omega arith) (rw (a, b) (omega arith)) (rw (a, b) (omega arith))

slope_none : (r : Row) → nat_abs r.b ≤ 0 → nat_abs (slope r) ≤ 0
slope_none r h =
    let e : nat_abs r.b ≡ 0 = omega arith in
    rw (nat_abs_mul r.b r.kx, e, zero-mul r.kx) (omega arith)

within : (method : Method) (r : Row) (p : ℕ) → Usable r p → one_of r ≡ M → unused_size method r.b ≤ 0 →
    q_at r p ≡ q_by method (radicand r p) p → one_of r ≡ one_by method → WithinOne method r p
unfolding q_by one_by
within Unused r p u o b e d =
    let n = rounded r p u o in
    let s = 1024 * radicand r p in
    unused (slope r) (rest r p) s (root s) (slope_none r b) (root_is s) (rw e at n.0) (rw e at n.1)
within Root r p u o b e d =
    let n = rounded r p u o in
    near_root (slope r) (rest r p) (1024 * radicand r p) (q_at r p) M (rw e (root_is (1024 * radicand r p))) (slope_small r p u o) n.0 n.1
within Quotient r p u o b e d =
    let n = rounded r p u o in
    by_quotient (slope r) (rest r p) (q_at r p) (32 * radicand r p) (omega arith) (omega arith) (slope_small r p u o) n.0 n.1
within Cosine r p u o b e d = omega (arith, o, d)

pub within_one : (r : Row) (p : ℕ) → Usable r p → one_of r ≡ M → WithinOne r.method r p
unfolding q_at one_of
within_one r p u o = within r.method r p u o u.columns.b_used refl refl

-- D is M in the first ten rows
all_m : T (agreeing (λ (k : ℕ). one_of (row_of (suc k))) (λ (k : ℕ). M) 10)
unfolding one_of one_by row_of rows
all_m = tt

pub one_is_m : (kind : ℕ) → 1 ≤ kind → kind ≤ 10 → one_of (row_of kind) ≡ M
one_is_m kind h k =
    let e : suc (kind - 1) ≡ kind = omega arith in
    rw e at (agree_at (λ (k : ℕ). one_of (row_of (suc k))) (λ (k : ℕ). M) 10 all_m (kind - 1) (omega arith))
