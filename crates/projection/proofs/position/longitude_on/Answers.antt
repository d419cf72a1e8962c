-- `projection::position::longitude_on` meets its contract: the difference found is added.
use mathlib.Core.Path.{sym, ap, ◌∙◌}
use lib.IntN.{ℤ, ◌+ℤ◌}
use mir.Syntax.{w32}
use mir.Facts.{to_z-of_z}
use Rattle.whole.specs.Signed.{join_of}
use Rattle.projection.specs.Longitude.{wrap}
use Rattle.projection.proofs.Found.{difference_is}
use Rattle.projection.proofs.position.longitude_on.Goals as goal

pub returns : goal.returns
returns c =
    rw (to_z-of_z {w = w32} (record { sfits = c.from.type_inv }))
    (c.from.ensures
    ∙ c.sum.ensures
    ∙ ap (λ (d : ℤ). wrap (join_of c.args.central.count +ℤ d)) (c.difference_at.ensures ∙ sym (difference_is c.args.w (join_of c.args.x))))
