-- Demand 2's bound on the half-width, and what it rests on. That places and positions are document 01's is the calls'
-- own contract and `Demand1`.
use Rattle.std.specs.Prelude.{◌≡◌, ℕ, ◌*◌, ◌≤◌, ◌<◌, T, ℤ, pos, nat_abs, ◌+ℤ◌, ◌-ℤ◌, ◌*ℤ◌}
use Rattle.angle.specs.Angle.{N, H, M}
use Rattle.parallel.specs.declared.table.Row.{Row}
use Rattle.parallel.specs.declared.table.Method.{Method}
use Rattle.parallel.specs.declared.table.Method.TheVariants.{Unused, Root, Quotient, Cosine}
use Rattle.parallel.specs.Table.{row_of}
use Rattle.parallel.specs.Parallel.{radicand, q_at, one_of, numerator, half_width}
use Rattle.parallel.specs.Refusal.{is_kind}
use Rattle.claims.specs.ExactRoot.{NearRoot}

-- KX b, and 2 M W - KX a M
abbrev pub slope : Row → ℤ
slope r = r.b *ℤ pos r.kx

abbrev pub rest : Row → ℕ → ℤ
rest r p = pos (2 * M * half_width r p) -ℤ r.a *ℤ pos (r.kx * M)

-- W differs by less than 1 from KX (a M + b q) / (2 M) with the exact root of 1024 s in the place of q, or the exact
-- quotient 32 s / N. Times 2 M: KX b q is less than 2 M away from 2 M W - KX a M. The quotient's side is times N too
abbrev pub ByRoot : Row → ℕ → Type 0
ByRoot r p = NearRoot (slope r) (1024 * radicand r p) (rest r p) (2 * M)

abbrev pub ByQuotient : Row → ℕ → Type 0
ByQuotient r p = nat_abs (rest r p *ℤ pos N -ℤ slope r *ℤ pos (32 * radicand r p)) < 2 * M * N

-- by the row's method; a row with the cosine is outside of the demand
abbrev pub WithinOne : Method → Row → ℕ → Type 0
WithinOne Unused r p = ByRoot r p
WithinOne Root r p = ByRoot r p
WithinOne Quotient r p = ByQuotient r p
WithinOne Cosine r p = ⊥

-- what is claimed of a row of any method at a latitude of size p
pub record Parallel (r : Row) (p : ℕ) : Type 0 where
  -- s and a D + b q are what document 01 says: the definitions drop no sign
  pub s_whole : pos (radicand r p) ≡ pos (N * N) +ℤ r.e *ℤ pos (p * p)
  pub sum_whole : pos (numerator r (q_at r p)) ≡ r.a *ℤ pos (one_of r) +ℤ r.b *ℤ pos (q_at r p)
  -- beside the demand: the sizes of W and KY, by the table's columns
  pub width_small : half_width r p < 5 * N
  pub ky_low : N < r.ky
  pub ky_high : r.ky < 5 * N

pub record Demand2 : Type 0 where
  -- the bound: for kinds 1 to 10, and every latitude up to a pole
  pub bound : (kind p : ℕ) → 1 ≤ kind → kind ≤ 10 → p ≤ H → WithinOne (row_of kind).method (row_of kind) p
  -- for every kind
  pub parallels : (kind p : ℕ) → T (is_kind kind) → p ≤ H → Parallel (row_of kind) p
