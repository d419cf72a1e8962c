-- `torn::reading::Runs::close` meets its contract: the two numbers of a run stand one behind the other.
use Rattle.std.proofs.Common.{rules}
use Rattle.torn.proofs.Pieces.{one_run, no_run}
use Rattle.torn.proofs.reading.Runs.close.Goals as goal

pub returns-then-from-to-clause-closes : goal.returns-then-from-to-clause-closes
returns-then-from-to-clause-closes c = search (rules, one_run)

pub returns-else-from-to-clause-closes : goal.returns-else-from-to-clause-closes
returns-else-from-to-clause-closes c = search (rules, no_run)
