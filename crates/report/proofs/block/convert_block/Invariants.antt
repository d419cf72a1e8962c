-- At the loop's head some records are fed, and the iterator has the others left.
use mathlib.Core.Path.{◌≡◌}
use Rattle.record.specs.Record.{size}
use Rattle.std.specs.Iterator.Adapters.{enumerate_source, enumerate_count}
use Rattle.std.specs.Slice.Iter.{chunks_exact_rest, chunks_exact_size}
use Rattle.report.proofs.Blocks.{State}
use Rattle.report.proofs.block.convert_block.Given as goal

abbrev pub invariant-loop-i : goal.invariant-loop-i
invariant-loop-i l =
    let chunks = enumerate_source l.i-iterator in
    State l.fn.session l.next l.input l.fn.text l.state l.end l.text l.output (chunks_exact_rest chunks) (enumerate_count l.i-iterator)
    × (chunks_exact_size chunks ≡ size)
