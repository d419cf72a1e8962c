-- `reprojection::place::reproject_record` meets its contract: the two numbers that are put are the new place's.
use mathlib.Core.Bool.{true}
use mathlib.Core.Path.{◌≡◌, ap, ◌∙◌}
use native.Mathlib.Omega.{arith}
use borrow.Author.Rules.{rules}
use lib.IntN.{ℤ}
use mir.Syntax.{w32}
use mir.Val.{SFits}
use mir.Facts.{to_z-of_z}
use Rattle.reprojection.specs.Reprojected.{is_taken, with_place}
use Rattle.reprojection.proofs.Places.{taken, taken_size, two_put}
use Rattle.reprojection.proofs.place.reproject_record.Goals as goal

pub returns-in-Ok : goal.returns-in-Ok
returns-in-Ok c =
    let l = c.args.bytes.now in
    let x : ℤ = c.in-Ok.x in
    let y : ℤ = c.in-Ok.y in
    let fx : SFits w32 x = search rules in
    let fy : SFits w32 y = search rules in
    let t : is_taken l ≡ true = grind arith in
    two_put l c.put.new.bytes c.put-2.new.bytes x y (taken_size l t)
    (rw (to_z-of_z fx) at c.put.ensures.bytes_after) (rw (to_z-of_z fy) at c.put-2.ensures.bytes_after)
    ∙ ap (with_place l) c.in-Ok.ensures ∙ taken l t
