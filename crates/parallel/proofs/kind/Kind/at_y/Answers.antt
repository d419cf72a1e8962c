-- `parallel::kind::Kind::at_y` meets its contract: its tests are the conditions of 6 and 18, and the latitude has the sign of y.
use mathlib.Core.Bool.{cond}
use mathlib.Core.List.{[]}
use mathlib.Core.Path.{◌≡◌, sym, ap, ap₂, ◌∙◌}
use Prim.Native.Nat.{ℕ, ◌^◌, ◌≤◌, ◌<◌}
use native.Mathlib.Omega.{arith}
use native.Mathlib.Nat.{le_refl}
use borrow.Author.Tests.{lt-ltb, le-ltb}
use lib.Dec.{ltb}
use lib.IntN.{ℤ}
use Rattle.whole.specs.declared.Signed.{Signed}
use Rattle.whole.specs.Signed.{with_sign, join_of}
use Rattle.whole.proofs.Signs.{nat_abs_join, on_sign, join_wide, join_fits, join_back}
use Rattle.angle.specs.Angle.{H}
use Rattle.angle.proofs.Judged.{number_is}
use Rattle.parallel.specs.declared.table.Row.{Row}
use Rattle.parallel.proofs.Rows.{kind_columns}
use Rattle.parallel.specs.Parallel.{half_width, height}
use Rattle.parallel.specs.Latitude.{latitude_size, latitude_at, width_at}
use Rattle.refusal.specs.Outcome.{refused, given, unless}
use Rattle.parallel.specs.Columns.{Columns, Usable}
use Rattle.parallel.specs.Answer.{found_on}
use Rattle.parallel.proofs.Heights.{height_le, latitude_zero, latitude_le}
use Rattle.parallel.proofs.Orders.{by_sides}
use Rattle.parallel.proofs.kind.Kind.at_y.Goals as goal

-- the answer by y's sign and size
judged : (r : Row) (y : Signed) →
    cond (ltb (height r H) y.size) (refused (cond y.negative 18 6)) (given (width_at r (join_of y), latitude_at r (join_of y)))
    ≡ found_on r (join_of y)
unfolding found_on unless
judged r y = sym (by_sides 6 18 (height r H) y.negative y.size [] (width_at r (join_of y), latitude_at r (join_of y)))

-- past the pole, the sign says by which number
refused_is : (r : Row) (y : Signed) → height r H < y.size → refused (cond y.negative 18 6) ≡ found_on r (join_of y)
refused_is r y h = rw (lt-ltb (height r H) y.size h) at (judged r y)

given_is : (r : Row) (y : Signed) → y.size ≤ height r H → given (width_at r (join_of y), latitude_at r (join_of y)) ≡ found_on r (join_of y)
given_is r y h = rw (le-ltb (height r H) y.size h) at (judged r y)

-- the latitude by its sign and size
abbrev signed : Signed → ℕ → Signed
signed y n = record { negative = y.negative; size = n }

usable : {r : Row} {y n : ℕ} → Columns r → y ≤ height r H → n ≡ latitude_size r y → Usable r n
usable {r} {y} k h e = record { columns = k; latitude = rw e (latitude_le r k y h) }

latitude_small : {r : Row} {n : ℕ} → Usable r n → n < 2 ^ 31
latitude_small u = let l = u.latitude in omega arith

pub invariant_of-pole : goal.invariant_of-pole
invariant_of-pole c =
    record { usable = record { columns = rw c.row-row.ensures (kind_columns c.args.self); latitude = le_refl H } }

pub returns-then-y : goal.returns-then-y
returns-then-y c =
    let y_is = number_is c.from-y.result c.ranges.y c.from-y.ensures in
    let past : height c.row-row.result H < c.from-y.result.size = omega (arith, c.height.ensures) in
    let e = refused_is c.row-row.result c.from-y.result past in
    rw (← c.row-row.ensures, ← y_is) (grind (arith, e))

pub returns-else-y : goal.returns-else-y
returns-else-y c =
    let y_is = number_is c.from-y.result c.ranges.y c.from-y.ensures in
    let past : height c.row-row.result H < c.from-y.result.size = omega (arith, c.height.ensures) in
    let e = refused_is c.row-row.result c.from-y.result past in
    rw (← c.row-row.ensures, ← y_is) (grind (arith, e))

pub latitude_of-requires : goal.latitude_of-requires
latitude_of-requires c = (
  rw c.row-row.ensures (kind_columns c.args.self),
  omega (arith, c.height.ensures, height_le c.row-row.result H (omega arith)),
)

pub invariant_of-parallel : goal.invariant_of-parallel
invariant_of-parallel c =
    record {
      usable =
          usable (rw c.row-row.ensures (kind_columns c.args.self)) (omega (arith, c.height.ensures)) c.latitude_of.ensures;
    }

pub returns : goal.returns
unfolding width_at latitude_at
returns c =
    let r = c.row-row.result in
    let y = c.from-y.result in
    let y_is = number_is y c.ranges.y c.from-y.ensures in
    let k : Columns r = rw c.row-row.ensures (kind_columns c.args.self) in
    let n : y.size ≤ height r H = omega (arith, c.height.ensures) in
    let u : Usable r c.latitude_of.result = usable k n c.latitude_of.ensures in
    rw (← c.row-row.ensures, ← y_is)
    (ap₂ (λ (w : ℕ) (z : ℤ). given (w, z))
    (c.half_width.ensures ∙ ap (half_width r) (c.latitude_of.ensures ∙ ap (latitude_size r) (sym (nat_abs_join y))))
    (join_back (signed y c.latitude_of.result) (latitude_small u) c.from.ensures
    ∙ ap (with_sign y.negative) c.latitude_of.ensures
    ∙ sym (on_sign (latitude_size r) (latitude_zero r) y.negative y.size))
    ∙ given_is r y n)

pub overflow_cast-result : goal.overflow_cast-result
overflow_cast-result c =
    let k : Columns c.row-row.result = rw c.row-row.ensures (kind_columns c.args.self) in
    let u : Usable c.row-row.result c.latitude_of.result = usable k (omega (arith, c.height.ensures)) c.latitude_of.ensures in
    let l : Signed = signed c.from-y.result c.latitude_of.result in
    rw (join_wide l (latitude_small u) c.from.ensures) (join_fits l (latitude_small u))
