-- `lines::line::closing_line` meets its contract.
use borrow.Author.Rules.{rules}
use borrow.Author.Tests.{le-leb}
use Rattle.lines.proofs.Buffers.{placed}
use Rattle.lines.proofs.line.closing_line.Goals as goal

pub returns : goal.returns
returns c = search (rules, placed, le-leb)
