-- At the loop's head i records are reprojected.
use mathlib.Core.Path.{◌≡◌}
use Rattle.reprojection.proofs.Runs.{done}
use Rattle.reprojection.proofs.records.reproject_records.Given as goal

abbrev pub invariant-loop-i : goal.invariant-loop-i
invariant-loop-i l = l.bytes ≡ done l.fn.bytes l.i
