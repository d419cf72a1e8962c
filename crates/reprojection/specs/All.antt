-- What becomes of a run of bytes: its whole records are reprojected one by one, and the bytes behind them stay.
use Rattle.std.specs.Prelude.{List, [], ◌++◌, ℕ, zero, suc}
use Rattle.record.specs.Records.{record_at, records_in, tail_of}
use Rattle.reprojection.specs.Reprojected.{reprojected}

-- the first `count` records of s
unfoldable pub first_reprojected : List ℕ → ℕ → List ℕ
first_reprojected s zero = []
first_reprojected s (suc count) = first_reprojected s count ++ reprojected (record_at s count)

-- all whole records, one after the other
unfoldable pub whole_reprojected : List ℕ → List ℕ
whole_reprojected s = first_reprojected s (records_in s)

unfoldable pub reprojected_all : List ℕ → List ℕ
reprojected_all s = whole_reprojected s ++ tail_of s
