-- `report::block::convert_block` meets its contract.
use mathlib.Core.Path.{◌≡◌, refl, sym, ap, ◌∙◌}
use native.Mathlib.Omega.{arith}
use Rattle.std.specs.Iterator.Adapters.{enumerate_source, enumerate_count}
use Rattle.std.specs.Slice.Iter.{chunks_exact_rest, chunks_exact_size}
use Rattle.record.specs.Record.{size}
use Rattle.lines.proofs.Buffers.{placed}
use Rattle.report.specs.Block.{session_at, block_session, block_lines}
use Rattle.report.proofs.Blocks.{begin, turn, finish}
use Rattle.report.proofs.block.convert_block.Goals as goal

pub loop-i-init : goal.loop-i-init
loop-i-init c =
    let a = c.args in
    let items = c.enumerate-i-items.ensures in
    let chunks = c.chunks_exact.ensures in
    let it = c.into_iter-i-iterator.result in
    let e = c.into_iter-i-iterator.ensures.into_iter_gives in
    let rest : chunks_exact_rest (enumerate_source it) ≡ a.input.now = rw (e, items.source) chunks.rest in
    let long : chunks_exact_size (enumerate_source it) ≡ size = rw (e, items.source) chunks.size in
    let none : enumerate_count it ≡ 0 = rw e items.count in
    (begin a.session a.next a.input.now a.text.now _ _ _ (sym c.lines_fit.ensures ∙ c.if-not-lines_fit.false) rest none refl, long)

pub loop-i-preserved : goal.loop-i-preserved
loop-i-preserved c =
    let (state, long) = c.loop-i.invariant in
    let (step, number, next, top) = c.in-Some.ensures.steps in
    let (cut, size) = step.1 in
    let fed = c.feed-fed in
    let put = c.line_at-end in
    let line = rw number at put.ensures.put in (
      rw next
          (turn state _ _ cut (size ∙ long) fed.ensures.answer_value fed.ensures.session_value line put.ensures.upper_bound put.auto.text fed.auto.output),
      step.0 ∙ long,
    )

pub returns : goal.returns
unfolding block_session block_lines
returns c =
    let a = c.args in
    let (state, long) = c.loop-i.invariant in
    let n = finish state (omega (arith, c.in-None.ensures.steps.0.1.0, long)) in
    record {
      session = rw state.fits (state.session ∙ ap (session_at a.session a.input.now 0) n);
      lines = placed state.fits (rw n at state.lines);
    }
