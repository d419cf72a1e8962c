-- `parallel::parallel::Parallel::half_width` meets its contract, a return for each method.
use Rattle.parallel.proofs.Fractions.{unused_fraction}
use Rattle.parallel.proofs.parallel.Parallel.half_width.Goals as goal

pub width_by-requires : goal.width_by-requires
width_by-requires c = unused_fraction c.args.self.usable c.in-Unused.is
