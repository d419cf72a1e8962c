-- `projection::place::x_on` meets its contract: the difference is scaled with its sign, and x fits 32 bits.
use mathlib.Core.Path.{ap, ◌∙◌}
use Prim.Native.Nat.{◌^◌, ◌<◌}
use native.Mathlib.Omega.{arith}
use lib.IntN.{ℤ, pos, ◌*ℤ◌}
use Rattle.whole.specs.Signed.{nearest_signed}
use Rattle.whole.proofs.Signs.{join_wide, join_fits, join_back}
use Rattle.angle.specs.Angle.{N}
use Rattle.parallel.proofs.Scales.{scaled_le}
use Rattle.projection.specs.Forward.{x_of}
use Rattle.projection.proofs.Places.{scaled_size}
use Rattle.projection.proofs.place.x_on.Goals as goal

x_small : (c : goal.After-from) → c.x_at.result.size < 2 ^ 31
x_small c =
    let d = c.difference.result in
    let k = c.requires in
    let l = scaled_le c.args.w d.count.size d.in_range in
    rw (scaled_size c.x_at.result d.count c.args.w c.x_at.ensures) (omega arith)

pub overflow_cast-result : goal.overflow_cast-result
overflow_cast-result c = rw (join_wide c.x_at.result (x_small c) c.from.ensures) (join_fits c.x_at.result (x_small c))

pub returns : goal.returns
unfolding x_of
returns c =
    join_back c.x_at.result (x_small c) c.from.ensures
    ∙ c.x_at.ensures
    ∙ ap (λ (d : ℤ). nearest_signed (pos c.args.w *ℤ d) N) c.difference.ensures
