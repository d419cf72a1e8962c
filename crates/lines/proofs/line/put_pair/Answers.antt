-- `lines::line::put_pair` meets its contract: each piece is put behind those before it.
use Prim.Native.Nat.{◌≤◌}
use native.Mathlib.Omega.{arith}
use lib.ListN.{length}
use Rattle.digits.proofs.Puts.{put_twice}
use Rattle.lines.proofs.Buffers.{put_behind, put_number}
use Rattle.lines.proofs.line.put_pair.Goals as goal

pub returns : goal.returns
returns c =
    let h : c.put_at-second.result ≤ length c.put_at-second.new.text = omega arith in
    let k : c.put_number-gap.result ≤ length c.put_number-gap.new.text = omega arith in
    put_behind (put_number c.ranges.x c.put_number-gap.ensures.put)
    (put_twice k c.put_at-second.ensures
    (put_twice h (put_number c.ranges.y c.put_number-end.ensures.put) c.put_at.ensures))
