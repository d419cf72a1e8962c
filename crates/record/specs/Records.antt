-- The records of a run of bytes, one after the other, and the bytes behind the last whole one.
use Rattle.std.specs.Prelude.{List, ℕ, ◌*◌, ◌/◌, length, take, drop}
use Rattle.record.specs.Record.{size}

-- record number i, counted from 0
unfoldable pub record_at : List ℕ → ℕ → List ℕ
record_at s i = take size (drop (size * i) s)

-- how many whole records s has, and the bytes behind the last of them
abbrev pub records_in : List ℕ → ℕ
records_in s = length s / size

unfoldable pub tail_of : List ℕ → List ℕ
tail_of s = drop (size * records_in s) s
