-- At the loop's head i digits of `rest` are to come, and what stands behind them is put.
use Rattle.std.proofs.Common.{◌≡◌, length, ◌++◌, drop}
use Rattle.digits.specs.Digits.{last_digits}
use Rattle.digits.proofs.put_digits.Given as goal

abbrev pub invariant-loop-i : goal.invariant-loop-i
invariant-loop-i l = last_digits l.i l.rest ++ drop l.i l.piece ≡ last_digits (length l.fn.piece) l.n
