-- `jobs::whole_input::put_taken` meets its contract: of a file that is too long, nothing is put.
use borrow.Author.Rules.{rules}
use borrow.Author.Tests.{le-leb}
use Rattle.lines.proofs.Buffers.{placed}
use Rattle.jobs.proofs.whole_input.put_taken.Goals as goal

pub returns : goal.returns
returns c = search (rules, placed, le-leb)
