-- `parallel::parallel::combined` meets its contract: its four products are those of the parts of x and y.
use mathlib.Core.Path.{◌≡◌, ◌∙◌}
use Prim.Native.Nat.{◌<◌}
use native.Mathlib.Omega.{arith}
use lib.IntN.{ℤ, nat_abs}
use mir.Syntax.{w8, w32}
use mir.Val.{to_z, of_z, SFits}
use Rattle.whole.specs.declared.Signed.{Signed}
use Rattle.whole.specs.Signed.{split_of, join_of}
use Rattle.whole.proofs.Signs.{fits}
use Rattle.angle.proofs.Judged.{number_is}
use Rattle.parallel.proofs.Rows.{column}
use Rattle.parallel.proofs.Widths.{combined_is}
use Rattle.parallel.proofs.parallel.combined.Goals as goal

-- a coefficient of 8 bits widened, and taken apart
split_is : (z : ℤ) (s : Signed) → nat_abs z < 16 → s ≡ split_of (to_z w32 (of_z w32 (to_z w8 (of_z w8 z)))) → join_of s ≡ z
split_is z s h e =
    let w : SFits w32 (to_z w8 (of_z w8 z)) = rw (column z h) (fits w32 z (omega arith)) in
    number_is s w e ∙ column z h

pub returns : goal.returns
returns c =
    let x = split_is c.args.x c.from-x.result c.requires.x_small c.from-x.ensures in
    let y = split_is c.args.y c.from-y.result c.requires.y_small c.from-y.ensures in
    let e = combined_is c.args.x c.args.u c.args.y c.args.v c.requires.whole in
    rw (c.plus.ensures, c.plus-2.ensures, c.minus.ensures, c.minus-2.ensures, x, y) (omega arith)
