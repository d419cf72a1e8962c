-- `lines::line::named_line` meets its contract.
use native.Mathlib.Omega.{arith}
use borrow.Author.Tests.{le-leb}
use Rattle.lines.proofs.Buffers.{placed}
use Rattle.lines.proofs.line.named_line.Goals as goal

pub returns : goal.returns
returns c = placed (le-leb _ _ (omega (arith, c.in_ok-words.ensures, c.in_ok-checked_sub.ensures, c.in_ok-checked_sub-2.ensures))) c.put_both.ensures
