-- The places that are left follow those that are written.
use Rattle.std.proofs.Common.{◌≡◌, length, take, ◌++◌, ◌-◌}
use Rattle.little_endian.specs.Whole.{least_bytes}
use Rattle.little_endian.proofs.whole_numbers.put_whole.Given as goal

abbrev pub invariant-loop-byte : goal.invariant-loop-byte
invariant-loop-byte l = take l.byte-index l.piece ++ least_bytes (length l.piece - l.byte-index) l.rest ≡ least_bytes (length l.fn.piece) l.n
