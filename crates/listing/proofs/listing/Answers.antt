-- `listing::listing` meets its contract.
use borrow.Author.Rules.{rules}
use borrow.Author.Tests.{le-leb}
use Rattle.lines.proofs.Buffers.{placed}
use Rattle.listing.proofs.listing.Goals as goal

pub returns : goal.returns
returns c = search (rules, placed, le-leb)
