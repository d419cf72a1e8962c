-- `lines::decimal::put_number` meets its contract.
use mathlib.Core.Path.{ap, ◌∙◌}
use Prim.Native.Nat.{◌≤◌}
use native.Mathlib.Omega.{arith}
use lib.ListN.{length}
use mir.Facts.{to_z-of_z}
use Rattle.whole.specs.Signed.{split_of}
use Rattle.digits.proofs.Puts.{put_twice}
use Rattle.lines.proofs.Decimals.{text_above, text_below}
use Rattle.lines.proofs.decimal.put_number.Goals as goal

pub returns-then-number-clause-put : goal.returns-then-number-clause-put
returns-then-number-clause-put c =
    let a = c.args in
    let h : a.at ≤ length a.text.now = omega arith in
    rw (text_below a.z c.from-number.result (c.from-number.ensures ∙ ap split_of (to_z-of_z c.ranges.z)) c.if-number.true)
    (put_twice h c.put_at-next.ensures (rw c.from-size.ensures at c.put_decimal.ensures))

pub returns-else-number-clause-put : goal.returns-else-number-clause-put
returns-else-number-clause-put c =
    rw (text_above c.args.z c.from-number.result (c.from-number.ensures ∙ ap split_of (to_z-of_z c.ranges.z)) c.if-number.false)
    (rw c.from-size.ensures at c.put_decimal-else-number.ensures)
