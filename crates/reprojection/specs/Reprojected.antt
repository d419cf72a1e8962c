-- What becomes of a record: a place of kind 3 or 4 is sent back under the row that its kind had and forward under the one that it
-- has; every other record, and a place that the old row refuses, stays as it is.
use Rattle.std.specs.Prelude.{Bool, cond, ◌&&◌, List, ◌++◌, ℕ, ℤ, take}
use Rattle.refusal.specs.Outcome.{Outcome, refused, given, and_then}
use Rattle.projection.specs.Answer.{forward_of}
use Rattle.little_endian.specs.Number.{bytes_of}
use Rattle.record.specs.Record.{holds_place, kind_in, central_in, first_in, second_in}
use Rattle.reprojection.specs.Retired.{is_retired, retired_row, back_under}

-- a record that holds a place of kind 3 or 4
abbrev pub is_taken : List ℕ → Bool
is_taken bytes = holds_place bytes && is_retired (kind_in bytes)

-- the position of its place under the old row
unfoldable pub position_in : List ℕ → Outcome (ℤ × ℤ)
position_in bytes = back_under (retired_row (kind_in bytes)) (central_in bytes) (first_in bytes) (second_in bytes)

-- and the place of that under the new one
unfoldable pub place_in : List ℕ → Outcome (ℤ × ℤ)
place_in bytes = and_then (λ p. forward_of (kind_in bytes) (central_in bytes) p.0 p.1) (position_in bytes)

-- a record with another place: mark, kind, form and central meridian, which are its first 8 bytes, stay
abbrev pub with_place : List ℕ → Outcome (ℤ × ℤ) → List ℕ
with_place bytes (given p) = take 8 bytes ++ (bytes_of p.0 ++ bytes_of p.1)
with_place bytes (refused n) = bytes

unfoldable pub reprojected : List ℕ → List ℕ
reprojected bytes = cond (is_taken bytes) (with_place bytes (place_in bytes)) bytes
