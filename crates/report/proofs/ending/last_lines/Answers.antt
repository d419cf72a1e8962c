-- `report::ending::last_lines` meets its contract.
use mathlib.Core.Path.{refl, sym, ◌∙◌}
use Prim.Native.Nat.{ℕ}
use native.Mathlib.Omega.{arith}
use borrow.Author.Tests.{le-leb}
use lib.ListN.{length, length-take, length-drop}
use Rattle.lines.specs.Line.{closing_room}
use Rattle.lines.proofs.Buffers.{put_behind, placed, put_part, counted_le}
use Rattle.report.specs.Program.{end_room}
use Rattle.report.proofs.Streams.{end_none, end_some}
use Rattle.report.proofs.ending.last_lines.Goals as goal

pub overflow_add-result : goal.overflow_add-result
overflow_add-result c =
    let closing = c.closing_line-2 in
    omega (arith, counted_le _ closing.ensures c.unwrap-closing.ensures, closing.auto.text, length-take {A = ℕ}, length-drop {A = ℕ})

pub returns-then-is_empty : goal.returns-then-is_empty
returns-then-is_empty c =
    let a = c.args in
    rw (end_none a.session a.next a.tail.now (sym c.is_empty.ensures ∙ c.if-is_empty.true), le-leb end_room (length a.text.now) (omega arith))
    (rw (le-leb closing_room (length a.text.now) (omega arith)) at c.closing_line.ensures)

pub returns : goal.returns
returns c =
    let a = c.args in
    let fed = c.feed-fed.ensures in
    let line = c.line_at-line in
    let closing = c.closing_line-2 in
    rw (end_some a.session a.next a.tail.now (sym c.is_empty.ensures ∙ c.if-is_empty.false) fed.answer_value fed.session_value, le-leb end_room (length a.text.now) (omega arith))
    (placed refl (put_behind line.ensures.put (put_part _ (length line.new.text) closing.ensures c.unwrap-closing.ensures closing.auto.text)))
