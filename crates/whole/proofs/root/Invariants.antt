-- At each turn two bits of n are read and one digit of its root is found.
use Rattle.whole.proofs.Digits.{Read}
use Rattle.whole.proofs.root.Given as goal

abbrev pub invariant-loop-bit : goal.invariant-loop-bit
invariant-loop-bit l = Read l.fn.n l.rest l.found l.bit

abbrev pub decreases-loop-bit : goal.decreases-loop-bit
decreases-loop-bit l = l.bit
