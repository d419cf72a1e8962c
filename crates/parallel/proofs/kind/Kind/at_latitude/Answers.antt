-- `parallel::kind::Kind::at_latitude` meets its contract: its test is the condition of 5, and y is the height with the latitude's sign.
use mathlib.Core.Bool.{false}
use mathlib.Core.Path.{◌≡◌, sym, ap, ap₂, ◌∙◌}
use Prim.Native.Nat.{ℕ, ◌^◌, ◌<◌}
use native.Mathlib.Omega.{arith}
use borrow.Author.Rules.{rules}
use lib.IntN.{ℤ}
use Rattle.whole.specs.declared.Signed.{Signed}
use Rattle.whole.specs.Signed.{with_sign, join_of}
use Rattle.whole.proofs.Signs.{nat_abs_join, on_sign, join_wide, join_fits, join_back}
use Rattle.angle.specs.Angle.{H, outside}
use Rattle.angle.proofs.Judged.{number_is}
use Rattle.refusal.specs.Outcome.{given, unless}
use Rattle.parallel.specs.declared.table.Row.{Row}
use Rattle.parallel.specs.Parallel.{half_width, height}
use Rattle.parallel.specs.Latitude.{y_of}
use Rattle.parallel.specs.Columns.{Usable}
use Rattle.parallel.specs.Answer.{on_latitude}
use Rattle.parallel.proofs.Rows.{kind_columns}
use Rattle.parallel.proofs.Heights.{height_zero, height_small}
use Rattle.parallel.proofs.kind.Kind.at_latitude.Goals as goal

pub returns-in_err-latitude : goal.returns-in_err-latitude
unfolding on_latitude unless
returns-in_err-latitude c =
    let l = number_is c.from.result.count c.ranges.latitude c.from.ensures in
    let o = c.in_err-latitude.ensures in
    rw (← l, o.0) (search rules)

pub invariant_of-parallel : goal.invariant_of-parallel
invariant_of-parallel c =
    record { usable = record { columns = rw c.row.ensures (kind_columns c.args.self); latitude = c.in_ok-latitude.latitude.in_range } }

-- y by its sign and size
y_small : {r : Row} {p n : ℕ} → Usable r p → n ≡ height r p → n < 2 ^ 31
y_small {r} {p} u e = rw e (omega (arith, height_small r p u))

pub overflow_cast-result : goal.overflow_cast-result
overflow_cast-result c =
    let u : Usable c.row.result c.in_ok-latitude.latitude.count.size =
    record { columns = rw c.row.ensures (kind_columns c.args.self); latitude = c.in_ok-latitude.latitude.in_range } in
    let h = y_small u c.height.ensures in
    let y : Signed = record { negative = c.in_ok-latitude.latitude.count.negative; size = c.height.result } in
    rw (join_wide y h c.from-2.ensures) (join_fits y h)

pub returns : goal.returns
unfolding on_latitude unless y_of
returns c =
    let r = c.row.result in
    let at = c.in_ok-latitude.latitude.count in
    let u : Usable r at.size = record { columns = rw c.row.ensures (kind_columns c.args.self); latitude = c.in_ok-latitude.latitude.in_range } in
    let h = y_small u c.height.ensures in
    let o = c.in_ok-latitude.ensures in
    let l = number_is c.from.result.count c.ranges.latitude c.from.ensures in
    let inside : outside H c.args.latitude ≡ false = rw l at o.0 in
    let at_is : join_of at ≡ c.args.latitude = ap join_of o.1 ∙ l in
    let y : Signed = record { negative = at.negative; size = c.height.result } in
    rw (inside, ← c.row.ensures, ← at_is)
    (ap₂ (λ (w : ℕ) (z : ℤ). given (w, z)) (c.half_width.ensures ∙ ap (half_width r) (sym (nat_abs_join at)))
    (join_back y h c.from-2.ensures
    ∙ ap (with_sign at.negative) c.height.ensures
    ∙ sym (on_sign (height r) (height_zero r) at.negative at.size)))
