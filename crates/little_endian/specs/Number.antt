-- A signed 32-bit number as four bytes, the least first: those of its two's complement.
use Rattle.std.specs.Prelude.{Bool, cond, List, [], ◌∷◌, ◌++◌, ℕ, ◌+◌, leb, ℤ, pos, length, get_or, take, drop}
use Rattle.std.specs.Int.{w32}
use Rattle.std.proofs.Common.{to_z, of_z}
use Rattle.little_endian.specs.Whole.{whole_of, least_bytes}

-- the four bytes of a signed number
unfoldable pub bytes_of : ℤ → List ℕ
bytes_of z = least_bytes 4 (of_z w32 z)

-- whether four bytes stand at a place
abbrev pub has_four : List ℕ → ℕ → Bool
has_four bytes at = leb (at + 4) (length bytes)

-- four bytes at a place as one number below 2 ^ 32
abbrev pub word_at : List ℕ → ℕ → ℕ
word_at bytes at = whole_of (get_or bytes at 0 ∷ get_or bytes (at + 1) 0 ∷ get_or bytes (at + 2) 0 ∷ get_or bytes (at + 3) 0 ∷ [])

-- the number at a place; 0 where four bytes do not stand there
unfoldable pub number_at : List ℕ → ℕ → ℤ
number_at bytes at = cond (has_four bytes at) (to_z w32 (word_at bytes at)) (pos 0)

-- the bytes with a number's four at a place; as they were where four do not stand there
unfoldable pub with_number : List ℕ → ℕ → ℤ → List ℕ
with_number bytes at z = cond (has_four bytes at) (take at bytes ++ (bytes_of z ++ drop (at + 4) bytes)) bytes
