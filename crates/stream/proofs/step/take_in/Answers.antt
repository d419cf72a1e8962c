-- `stream::step::take_in` meets its contract: what the job works on, and what it holds over.
use Rattle.std.proofs.Common.{arith}
use Rattle.std.proofs.lemmas.Grind.{common_steps}
use Rattle.jobs.proofs.Jobs.{work_fits_lem}
use Rattle.stream.proofs.Works.{counted_put, waiting_last}
use Rattle.stream.proofs.step.take_in.Goals as goal

pub returns : goal.returns
returns c = record {
  session = grind (arith, common_steps, work_fits_lem);
  next = grind (arith, common_steps);
  held = grind (arith, common_steps);
  phase = grind (arith, common_steps);
  left_over = grind (arith, common_steps, waiting_last);
  offers = counted_put _ c.work-block.ensures.placed c.unwrap.ensures;
}
