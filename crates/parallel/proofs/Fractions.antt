-- q and D of a row at a latitude, method by method, and the half-width that they give.
use mathlib.Core.Path.{◌≡◌, refl, sym, ap, ap₂, ◌∙◌}
use Prim.Native.Nat.{ℕ, ◌*◌, ◌/◌}
use Rattle.whole.specs.Nearest.{nearest}
use Rattle.whole.specs.Root.{root}
use Rattle.angle.specs.Angle.{N, M}
use Rattle.sine.specs.Sine.{billion, cosine_of}
use Rattle.parallel.specs.declared.table.Row.{Row}
use Rattle.parallel.specs.declared.table.Method.{Method}
use Rattle.parallel.specs.declared.table.Method.TheVariants.{Unused, Root, Quotient, Cosine}
use Rattle.parallel.specs.Parallel.{radicand, q_by, q_at, one_by, one_of, numerator, half_width}
use Rattle.parallel.specs.Columns.{Usable, FractionOf}

-- q and D by the method that was found are the row's, and so is the half-width
module _ (r : Row) (p : ℕ) {method : Method} {q : ℕ} (e : r.method ≡ method) (g : q ≡ q_by method (radicand r p) p) where
  q_is : q ≡ q_at r p
  unfolding q_at
  q_is = g ∙ ap (λ (m : Method). q_by m (radicand r p) p) (sym e)

  one_is : one_by method ≡ one_of r
  unfolding one_of
  one_is = ap one_by (sym e)

  fraction : Usable r p → FractionOf r q (one_by method)
  fraction u = record { p = p; usable = u; is_q = q_is; is_one = one_is }

  width_is : nearest (r.kx * numerator r q) (2 * one_by method) ≡ half_width r p
  unfolding half_width
  width_is = ap₂ (λ (n d : ℕ). nearest (r.kx * numerator r n) (2 * d)) q_is one_is

-- each method's
module _ {r : Row} {p : ℕ} where
  pub unused_fraction : Usable r p → r.method ≡ Unused → FractionOf r 0 M
  unfolding q_by one_by
  unused_fraction u e = fraction r p e refl u

  pub root_fraction : {s q : ℕ} → Usable r p → r.method ≡ Root → s ≡ radicand r p → q ≡ root (1024 * s) → FractionOf r q M
  unfolding q_by one_by
  root_fraction u e h g = fraction r p e (g ∙ ap (λ (n : ℕ). root (1024 * n)) h) u

  pub quotient_fraction : {s : ℕ} → Usable r p → r.method ≡ Quotient → s ≡ radicand r p → FractionOf r (32 * s / N) M
  unfolding q_by one_by
  quotient_fraction u e h = fraction r p e (ap (λ (n : ℕ). 32 * n / N) h) u

  pub cosine_fraction : {q : ℕ} → Usable r p → r.method ≡ Cosine → q ≡ cosine_of p → FractionOf r q billion
  unfolding q_by one_by
  cosine_fraction u e h = fraction r p e h u

-- the half-width in the words of each method
module _ (r : Row) (p : ℕ) where
  pub unused_width : r.method ≡ Unused → half_width r p ≡ nearest (r.kx * numerator r 0) (2 * M)
  unfolding q_by one_by
  unused_width e = sym (width_is r p e refl)

  pub root_width : r.method ≡ Root → half_width r p ≡ nearest (r.kx * numerator r (root (1024 * radicand r p))) (2 * M)
  unfolding q_by one_by
  root_width e = sym (width_is r p e refl)

  pub quotient_width : r.method ≡ Quotient → half_width r p ≡ nearest (r.kx * numerator r (32 * radicand r p / N)) (2 * M)
  unfolding q_by one_by
  quotient_width e = sym (width_is r p e refl)

  pub cosine_width : r.method ≡ Cosine → half_width r p ≡ nearest (r.kx * numerator r (cosine_of p)) (2 * billion)
  unfolding q_by one_by
  cosine_width e = sym (width_is r p e refl)
