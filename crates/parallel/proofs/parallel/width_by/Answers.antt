-- `parallel::parallel::width_by` meets its contract: its sum, its product and its quotient fit, since q and D are a row's at a latitude.
use mathlib.Core.Path.{◌≡◌, ap, ◌∙◌}
use Prim.Native.Nat.{ℕ, ◌+◌, ◌*◌, ◌<◌}
use native.Mathlib.Omega.{arith}
use mir.Syntax.{w8}
use mir.Val.{to_z, of_z}
use Rattle.whole.specs.Nearest.{nearest}
use Rattle.angle.specs.Angle.{N}
use Rattle.parallel.specs.declared.table.Row.{Row}
use Rattle.parallel.specs.Parallel.{one_of, numerator, half_width}
use Rattle.parallel.specs.Columns.{combined, Combines, FractionOf}
use Rattle.parallel.proofs.Rows.{column}
use Rattle.parallel.proofs.Widths.{q_small, numerator_whole, product_small, width_small}
use Rattle.parallel.proofs.parallel.width_by.Goals as goal

module _ {r : Row} {q d : ℕ} (t : FractionOf r q d) where
  combines : Combines r.a d r.b q
  combines =
      rw (t.is_q, t.is_one)
      (record {
        x_small = t.usable.columns.a_small;
        y_small = t.usable.columns.b_small;
        u_small = omega (arith, t.usable.columns.one_small);
        v_small = omega (arith, q_small r t.p t.usable);
        whole = numerator_whole r t.p t.usable;
      })

  -- what `combined` gives is a D + b q
  sum_is : {n : ℕ} → n ≡ combined (to_z w8 (of_z w8 r.a)) d (to_z w8 (of_z w8 r.b)) q → n ≡ numerator r q
  unfolding numerator combined
  sum_is e = let k = t.usable.columns in e ∙ rw (column r.a k.a_small, column r.b k.b_small, t.is_one)

  product : r.kx * numerator r q + one_of r < 2 * one_of r * (5 * N)
  product = rw t.is_q (product_small r t.p t.usable)

  -- it is the row's half-width at that latitude
  small : nearest (r.kx * numerator r q) (2 * d) < 5 * N
  unfolding half_width
  small = rw (t.is_q, t.is_one) (width_small r t.p t.usable)

pub combined-requires : goal.combined-requires
combined-requires c =
    let k = c.requires.usable.columns in
    rw (column c.args.row.a k.a_small, column c.args.row.b k.b_small) (combines c.requires)

pub overflow_mul-row : goal.overflow_mul-row
overflow_mul-row c = let o = c.requires.usable.columns.one_small in rw (sum_is c.requires c.combined.ensures) (omega (arith, product c.requires))

pub returns : goal.returns
returns c = c.nearest.ensures ∙ ap (λ (n : ℕ). nearest (c.args.row.kx * n) (2 * c.args.d)) (sum_is c.requires c.combined.ensures)

pub overflow_cast-result : goal.overflow_cast-result
overflow_cast-result c = rw (returns c) (omega (arith, small c.requires))
