-- `lines::line::put_both` meets its contract: each piece is put behind those before it.
use Prim.Native.Nat.{◌≤◌}
use native.Mathlib.Omega.{arith}
use lib.ListN.{length, length-append}
use Rattle.lines.specs.Decimal.{decimal_of}
use Rattle.digits.proofs.Puts.{put_twice}
use Rattle.lines.proofs.Buffers.{put_behind}
use Rattle.lines.proofs.line.put_both.Goals as goal

pub returns : goal.returns
returns c =
    let first = c.args.first in
    let h : c.put-gap.result ≤ length c.put-gap.new.text =
    omega (arith, c.put-gap.ensures.behind, length-append first.word.now (decimal_of first.number)) in
    put_behind c.put-gap.ensures (put_twice h c.put-end.ensures c.put_at.ensures)
