-- `projection::place::forward` meets its contract: its tests are the conditions of 1, 3 and 4, and the parallel answers the rest.
use mathlib.Core.Path.{ap, ◌∙◌}
use lib.IntN.{ℤ}
use mir.Syntax.{w32}
use mir.Val.{SFits}
use mir.Facts.{to_z-of_z}
use borrow.Author.Rules.{rules}
use Rattle.angle.specs.Angle.{N}
use Rattle.angle.proofs.Judged.{number_is}
use Rattle.refusal.specs.Outcome.{given, unless}
use Rattle.whole.specs.Signed.{join_of}
use Rattle.parallel.specs.Table.{row_of}
use Rattle.parallel.proofs.Numbered.{known, unknown}
use Rattle.projection.specs.Answer.{forward_of}
use Rattle.projection.proofs.Judged.{judged, forward_by, small_by}
use Rattle.projection.proofs.place.forward.Goals as goal

pub returns-in_err-kind : goal.returns-in_err-kind
unfolding forward_of unless
returns-in_err-kind c = rw (unknown c.args.kind c.in_err-kind.field-0.0 c.in_err-kind.ensures).0 (search rules)

pub returns-in_err-central : goal.returns-in_err-central
unfolding forward_of unless
returns-in_err-central c =
    let k = known c.args.kind c.in_ok-kind.kind c.in_ok-kind.ensures in
    let o = judged N c.from.result.count c.ranges.central c.from.ensures c.in_err-central.ensures.0 in
    rw (k.0, o) (search rules)

pub returns-in_err-longitude : goal.returns-in_err-longitude
unfolding forward_of unless
returns-in_err-longitude c =
    let k = known c.args.kind c.in_ok-kind.kind c.in_ok-kind.ensures in
    let o = judged N c.from.result.count c.ranges.central c.from.ensures c.in_ok-central.ensures.0 in
    let l = judged N c.from-2.result.count c.ranges.longitude c.from-2.ensures c.in_err-longitude.ensures.0 in
    rw (k.0, o, l) (search rules)

pub returns-in_err-w : goal.returns-in_err-w
returns-in_err-w c =
    let s = c.args in
    let k = known s.kind c.in_ok-kind.kind c.in_ok-kind.ensures in
    let o = judged N c.from.result.count c.ranges.central c.from.ensures c.in_ok-central.ensures.0 in
    let l = judged N c.from-2.result.count c.ranges.longitude c.from-2.ensures c.in_ok-longitude.ensures.0 in
    let e =
    forward_by s.kind s.central s.longitude s.latitude _ (rw (to_z-of_z c.ranges.latitude) at c.in_err-w.ensures) (ap row_of k.1)
    (rw k.0) o l in
    search rules

pub x_on-requires : goal.x_on-requires
x_on-requires c =
    small_by c.in_ok-kind.kind c.args.latitude (given (c.in_ok-w.w, c.in_ok-w.y)) (rw (to_z-of_z c.ranges.latitude) at c.in_ok-w.ensures)

pub returns : goal.returns
returns c =
    let s = c.args in
    let k = known s.kind c.in_ok-kind.kind c.in_ok-kind.ensures in
    let o = judged N c.from.result.count c.ranges.central c.from.ensures c.in_ok-central.ensures.0 in
    let l = judged N c.from-2.result.count c.ranges.longitude c.from-2.ensures c.in_ok-longitude.ensures.0 in
    let central = ap join_of c.in_ok-central.ensures.1 ∙ number_is c.from.result.count c.ranges.central c.from.ensures in
    let longitude = ap join_of c.in_ok-longitude.ensures.1 ∙ number_is c.from-2.result.count c.ranges.longitude c.from-2.ensures in
    let f1 : SFits w32 c.x_on.result = search rules in
    let f2 : SFits w32 c.in_ok-w.y = search rules in
    rw (to_z-of_z f1, to_z-of_z f2)
    (ap (λ (x : ℤ). given (x, c.in_ok-w.y)) (rw (central, longitude) at c.x_on.ensures)
    ∙ forward_by s.kind s.central s.longitude s.latitude (given (c.in_ok-w.w, c.in_ok-w.y))
    (rw (to_z-of_z c.ranges.latitude) at c.in_ok-w.ensures) (ap row_of k.1) (rw k.0) o l)
