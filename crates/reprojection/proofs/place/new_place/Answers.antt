-- `reprojection::place::new_place` meets its contract: the answer by the other kind's row is the old row's, and goes forward.
use mathlib.Core.List.{List}
use mathlib.Core.Path.{◌≡◌, ◌∙◌}
use Prim.Native.Nat.{ℕ}
use borrow.Author.Rules.{rules}
use lib.IntN.{ℤ}
use mir.Syntax.{w32}
use mir.Val.{SFits, to_z, of_z}
use mir.Facts.{to_z-of_z}
use Rattle.refusal.specs.Outcome.{given}
use Rattle.projection.specs.Answer.{inverse_of}
use Rattle.record.specs.Record.{kind_in, central_in, first_in, second_in}
use Rattle.reprojection.specs.Inside.{Formerly}
use Rattle.reprojection.specs.Reprojected.{position_in}
use Rattle.reprojection.proofs.Places.{back_is, sent_on, not_sent}
use Rattle.reprojection.proofs.place.new_place.Goals as goal

-- what the other kind's row answers to the record's numbers is the position under the old row
back : (bytes : List ℕ) (other : ℕ) {c x y : ℤ} → Formerly (kind_in bytes) other → SFits w32 c → SFits w32 x → SFits w32 y →
    c ≡ central_in bytes → x ≡ first_in bytes → y ≡ second_in bytes →
    inverse_of other (to_z w32 (of_z w32 c)) (to_z w32 (of_z w32 x)) (to_z w32 (of_z w32 y)) ≡ position_in bytes
unfolding position_in
back bytes other f fc fx fy c x y =
    rw (to_z-of_z fc, to_z-of_z fx, to_z-of_z fy, c, x, y) (back_is f (central_in bytes) (first_in bytes) (second_in bytes))

pub returns-in_err-longitude : goal.returns-in_err-longitude
returns-in_err-longitude c =
    let s = c.args.bytes.now in
    let e = not_sent s _ (c.in_err-longitude.ensures ∙ back s c.args.other c.requires.1
    (record { sfits = c.get-central.type_inv }) (record { sfits = c.get.type_inv }) (record { sfits = c.get-2.type_inv })
    c.get-central.ensures c.get.ensures c.get-2.ensures) in
    search rules

pub returns : goal.returns
returns c =
    let s = c.args.bytes.now in
    let l : ℤ = c.in_ok-longitude.longitude in
    let f : ℤ = c.in_ok-longitude.latitude in
    let fc : SFits w32 c.get-central.result = record { sfits = c.get-central.type_inv } in
    let fl : SFits w32 l = search rules in
    let ff : SFits w32 f = search rules in
    let e : given (l, f) ≡ position_in s =
    c.in_ok-longitude.ensures ∙ back s c.args.other c.requires.1 fc (record { sfits = c.get.type_inv }) (record { sfits = c.get-2.type_inv })
    c.get-central.ensures c.get.ensures c.get-2.ensures in
    rw (to_z-of_z fc, to_z-of_z fl, to_z-of_z ff, c.get-central.ensures) at c.forward.ensures ∙ sent_on s l f e
