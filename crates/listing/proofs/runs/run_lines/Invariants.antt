-- At the loop's head some runs have their lines, and the iterator has the others left.
use mathlib.Core.Path.{◌≡◌}
use Rattle.std.specs.Slice.Iter.{chunks_exact_rest, chunks_exact_size}
use Rattle.listing.proofs.Turns.{State}
use Rattle.listing.proofs.runs.run_lines.Given as goal

abbrev pub invariant-loop-run : goal.invariant-loop-run
invariant-loop-run l =
    State l.list l.fn.text l.text (chunks_exact_rest l.run-iterator) l.end × (chunks_exact_size l.run-iterator ≡ 8)
