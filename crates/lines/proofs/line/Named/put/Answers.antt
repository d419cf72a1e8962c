-- `lines::line::Named::put` meets its contract: the number is put behind the word.
use Prim.Native.Nat.{◌≤◌}
use native.Mathlib.Omega.{arith}
use lib.ListN.{length}
use Rattle.digits.proofs.Puts.{put_twice}
use Rattle.lines.proofs.line.Named.put.Goals as goal

pub returns : goal.returns
returns c =
    let h : c.args.at ≤ length c.args.text.now = omega arith in
    put_twice h c.put_at-gap.ensures c.put_decimal.ensures
