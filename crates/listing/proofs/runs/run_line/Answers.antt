-- `listing::runs::run_line` meets its contract: the run's length, and then its place.
use mathlib.Core.List.{List}
use mathlib.Core.Path.{◌≡◌}
use Prim.Native.Nat.{ℕ}
use native.Mathlib.Omega.{arith}
use lib.ListN.{take, drop, length-take, length-drop}
use lib.Seq.{take_all}
use Rattle.lines.proofs.Buffers.{was_put}
use Rattle.listing.proofs.Turns.{line_le}
use Rattle.listing.proofs.runs.run_line.Goals as goal

pub returns-clause-put : goal.returns-clause-put
returns-clause-put c =
    let run : List ℕ = c.args.run.now in
    let cut = c.split_at.ensures in
    let front : take 8 (take 4 run) ≡ take 4 run = take_all 8 (take 4 run) (omega (arith, length-take 4 run)) in
    let back : take 8 (drop 4 run) ≡ drop 4 run = take_all 8 (drop 4 run) (omega (arith, length-drop 4 run, c.requires.0)) in
    rw (c.get_whole.ensures, c.get_whole-2.ensures, cut.front, cut.back, front, back)
    at (was_put _ c.named_line.ensures c.unwrap.ensures)

pub returns-clause-upper_bound : goal.returns-clause-upper_bound
returns-clause-upper_bound c =
    let put = returns-clause-put c in
    omega (arith, put.behind, line_le _ c.requires.1)
