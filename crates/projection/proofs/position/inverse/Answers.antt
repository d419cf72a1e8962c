-- `projection::position::inverse` meets its contract: its tests are the conditions of 1, 3, 7 and 17, and the parallel answers 6 and 18.
use mathlib.Core.Bool.{cond}
use mathlib.Core.List.{[]}
use mathlib.Core.Path.{◌≡◌, sym, ap, ◌∙◌}
use Prim.Native.Nat.{ℕ, ◌≤◌, ◌<◌}
use native.Mathlib.Omega.{arith}
use borrow.Author.Rules.{rules}
use borrow.Author.Tests.{lt-ltb, le-ltb}
use lib.Dec.{ltb}
use lib.IntN.{ℤ}
use mir.Syntax.{w32}
use mir.Val.{SFits}
use mir.Facts.{to_z-of_z}
use Rattle.whole.specs.declared.Signed.{Signed}
use Rattle.whole.specs.Signed.{join_of}
use Rattle.angle.specs.Angle.{N}
use Rattle.angle.proofs.Judged.{number_is}
use Rattle.refusal.specs.Outcome.{Outcome, refused, given, unless}
use Rattle.parallel.specs.Table.{row_of}
use Rattle.parallel.proofs.Numbered.{known, unknown}
use Rattle.parallel.proofs.Orders.{sides, by_sides}
use Rattle.projection.specs.Longitude.{longitude_of}
use Rattle.projection.specs.Inverse.{difference_at}
use Rattle.projection.specs.Answer.{inverse_of}
use Rattle.projection.proofs.Orders.{position_on}
use Rattle.projection.proofs.Judged.{judged, inverse_by}
use Rattle.projection.proofs.position.inverse.Goals as goal

-- what the parallel found answers to x, by x's sign and size
module _ (central : ℤ) {x : ℤ} (s : Signed) (e : join_of s ≡ x) (w : ℕ) (latitude : ℤ) {o : Outcome (ℤ × ℤ)}
    (f : position_on central x (w, latitude) ≡ o) where
  on_sides : cond (ltb w s.size) (refused (cond s.negative 17 7)) (given (longitude_of central (difference_at w x), latitude)) ≡ o
  unfolding unless
  on_sides =
      let v : ℤ × ℤ = (longitude_of central (difference_at w x), latitude) in
      sym (by_sides 7 17 w s.negative s.size [] v) ∙ ap (λ (z : ℤ). unless (sides 7 17 w z []) v) e ∙ f

  -- east or west of the row, the sign says by which number
  beyond : w < s.size → refused (cond s.negative 17 7) ≡ o
  beyond h = rw (lt-ltb w s.size h) at on_sides

  inside : s.size ≤ w → given (longitude_of central (difference_at w x), latitude) ≡ o
  inside h = rw (le-ltb w s.size h) at on_sides

pub returns-in_err-kind : goal.returns-in_err-kind
unfolding inverse_of unless
returns-in_err-kind c = rw (unknown c.args.kind c.in_err-kind.field-0.0 c.in_err-kind.ensures).0 (search rules)

pub returns-in_err-central : goal.returns-in_err-central
unfolding inverse_of unless
returns-in_err-central c =
    let k = known c.args.kind c.in_ok-kind.kind c.in_ok-kind.ensures in
    let o = judged N c.from.result.count c.ranges.central c.from.ensures c.in_err-central.ensures.0 in
    rw (k.0, o) (search rules)

pub returns-in_err-w : goal.returns-in_err-w
returns-in_err-w c =
    let s = c.args in
    let k = known s.kind c.in_ok-kind.kind c.in_ok-kind.ensures in
    let o = judged N c.from.result.count c.ranges.central c.from.ensures c.in_ok-central.ensures.0 in
    let e = inverse_by s.kind s.central s.x s.y _ (rw (to_z-of_z c.ranges.y) at c.in_err-w.ensures) (ap row_of k.1) (rw k.0) o in
    search rules

pub returns-then-x : goal.returns-then-x
returns-then-x c =
    let s = c.args in
    let k = known s.kind c.in_ok-kind.kind c.in_ok-kind.ensures in
    let o = judged N c.from.result.count c.ranges.central c.from.ensures c.in_ok-central.ensures.0 in
    let f =
    inverse_by s.kind s.central s.x s.y (given (c.in_ok-w.w, c.in_ok-w.latitude)) (rw (to_z-of_z c.ranges.y) at c.in_ok-w.ensures)
    (ap row_of k.1) (rw k.0) o in
    let x = number_is c.from-x.result c.ranges.x c.from-x.ensures in
    grind (arith, beyond s.central c.from-x.result x c.in_ok-w.w c.in_ok-w.latitude f (omega arith))

pub returns-else-x : goal.returns-else-x
returns-else-x c =
    let s = c.args in
    let k = known s.kind c.in_ok-kind.kind c.in_ok-kind.ensures in
    let o = judged N c.from.result.count c.ranges.central c.from.ensures c.in_ok-central.ensures.0 in
    let f =
    inverse_by s.kind s.central s.x s.y (given (c.in_ok-w.w, c.in_ok-w.latitude)) (rw (to_z-of_z c.ranges.y) at c.in_ok-w.ensures)
    (ap row_of k.1) (rw k.0) o in
    let x = number_is c.from-x.result c.ranges.x c.from-x.ensures in
    grind (arith, beyond s.central c.from-x.result x c.in_ok-w.w c.in_ok-w.latitude f (omega arith))

pub returns : goal.returns
returns c =
    let s = c.args in
    let k = known s.kind c.in_ok-kind.kind c.in_ok-kind.ensures in
    let o = judged N c.from.result.count c.ranges.central c.from.ensures c.in_ok-central.ensures.0 in
    let f =
    inverse_by s.kind s.central s.x s.y (given (c.in_ok-w.w, c.in_ok-w.latitude)) (rw (to_z-of_z c.ranges.y) at c.in_ok-w.ensures)
    (ap row_of k.1) (rw k.0) o in
    let x = number_is c.from-x.result c.ranges.x c.from-x.ensures in
    let central = ap join_of c.in_ok-central.ensures.1 ∙ number_is c.from.result.count c.ranges.central c.from.ensures in
    let f1 : SFits w32 c.longitude_on.result = search rules in
    let f2 : SFits w32 c.in_ok-w.latitude = search rules in
    rw (to_z-of_z f1, to_z-of_z f2)
    (ap (λ (l : ℤ). given (l, c.in_ok-w.latitude)) (rw (central, x) at c.longitude_on.ensures)
    ∙ inside s.central c.from-x.result x c.in_ok-w.w c.in_ok-w.latitude f (omega arith))
