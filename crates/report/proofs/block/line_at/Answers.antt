-- `report::block::line_at` meets its contract: the part that is lent has the room of a line, and no more.
use mathlib.Core.Path.{◌≡◌}
use Prim.Native.Nat.{◌+◌, ◌≤◌}
use native.Mathlib.Omega.{arith}
use borrow.Author.Rules.{rules}
use Rattle.refusal.specs.Number.{meaning}
use Rattle.lines.specs.Line.{line_room, by_number}
use Rattle.lines.proofs.Buffers.{put_part, part_le}
use Rattle.report.proofs.block.line_at.Goals as goal

count_le : (c : goal.After-unwrap-count) → c.unwrap-count.result ≤ line_room
count_le c =
    let a = c.args in
    let line = c.answer_line in
    omega (arith, part_le _ a.at (a.at + line_room) a.text.now c.requires line.ensures c.unwrap-count.ensures line.auto.text)

pub overflow_add-result : goal.overflow_add-result
overflow_add-result c = omega (arith, count_le c)

pub returns-clause-put : goal.returns-clause-put
returns-clause-put c =
    let line = c.answer_line in
    let e : by_number c.map_err.result ≡ meaning c.args.answer = search rules in
    rw (← e) (put_part _ (c.args.at + line_room) line.ensures c.unwrap-count.ensures line.auto.text)

pub returns-clause-upper_bound : goal.returns-clause-upper_bound
returns-clause-upper_bound c = omega (arith, count_le c)
