-- `whole::root` meets its contract.
use native.Mathlib.Omega.{arith}
use Rattle.whole.proofs.Digits.{none_read, read_0, read_1, all_read}
use Rattle.whole.proofs.root.Goals as goal
use Rattle.whole.proofs.root.Goals.{then-n, else-n, then-tried-rest, else-tried-rest}

pub loop-bit-init : goal.loop-bit-init
loop-bit-init c =
    let n = c.args.n in
    elim c.if-n.branch [
      | then-n w ↦ rw w.bit-is (none_read 16 n (omega arith) (omega arith))
      | else-n w ↦ rw w.bit-is (none_read 32 n (omega arith) (omega arith))
    ]

pub overflow_add-tried : goal.overflow_add-tried
overflow_add-tried c =
    let r = c.loop-bit.invariant in
    let p = r.place in
    let o = r.so_far.room in
    omega arith

pub loop-bit-preserved : goal.loop-bit-preserved
loop-bit-preserved c =
    let r = c.loop-bit.invariant in
    let h = c.loop-bit-test.true in
    elim c.if-tried-rest.branch [
      | then-tried-rest w ↦ rw (w.rest-is, w.found-is) (read_1 r h (omega arith))
      | else-tried-rest w ↦ rw (w.rest-is, w.found-is) (read_0 r h (omega arith))
    ]

pub returns : goal.returns
returns c = all_read c.loop-bit.invariant c.loop-bit-test.false
