-- `projection::scale::difference_at` meets its contract: the size is scaled back and rounded, and the sign kept.
use mathlib.Core.Path.{sym, ap, ◌∙◌}
use Prim.Native.Nat.{ℕ, ◌*◌}
use Rattle.whole.specs.Nearest.{nearest}
use Rattle.whole.specs.Signed.{with_sign, join_of}
use Rattle.whole.proofs.Signs.{on_sign, nearest_right}
use Rattle.angle.specs.Angle.{N}
use Rattle.parallel.proofs.Scales.{unscaled_zero}
use Rattle.projection.proofs.scale.difference_at.Goals as goal

pub returns : goal.returns
returns c =
    let w = c.args.w in
    let z = c.args.x in
    ap (with_sign z.negative) c.scaled.ensures
    ∙ sym (on_sign (λ (n : ℕ). nearest (n * N) w) (unscaled_zero w) z.negative z.size)
    ∙ sym (nearest_right (join_of z) N w)
