-- Read from the last byte to the first: the bytes that are left stand in front of what was read.
use Rattle.std.proofs.Common.{◌≡◌, take}
use Rattle.little_endian.specs.Whole.{whole_of}
use Rattle.little_endian.proofs.Wholes.{whole_before}
use Rattle.little_endian.proofs.whole_numbers.get_whole.Given as goal

abbrev pub invariant-loop-byte : goal.invariant-loop-byte
invariant-loop-byte l = whole_before l.byte-iterator.iter.rest.now l.value ≡ whole_of (take 8 l.bytes)
