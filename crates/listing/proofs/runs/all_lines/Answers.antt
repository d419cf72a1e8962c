-- `listing::runs::all_lines` meets its contract: the closing line stands behind the lines of the runs.
use native.Mathlib.Nat.{le_refl}
use native.Mathlib.Omega.{arith}
use lib.ListN.{length}
use Rattle.lines.proofs.Buffers.{put_behind, put_part, part_le}
use Rattle.listing.proofs.runs.all_lines.Goals as goal

pub overflow_add-result : goal.overflow_add-result
overflow_add-result c =
    let lines = c.run_lines-end in
    let line = c.named_line in
    let n = length lines.new.text in
    omega (arith, part_le _ lines.result n lines.new.text (le_refl n) line.ensures c.unwrap.ensures line.auto.text)

pub returns : goal.returns
returns c =
    let line = c.named_line in
    put_behind c.run_lines-end.ensures.put (put_part _ (length c.run_lines-end.new.text) line.ensures c.unwrap.ensures line.auto.text)
