-- The two pieces that are lent: the record piece and the list piece.
use Rattle.std.specs.Prelude.{Bool, ◌&&◌, List, [], ◌∷◌, ◌++◌, ℕ, ◌+◌, ◌*◌, ◌/◌, eqb}
use Rattle.little_endian.specs.Whole.{least_bytes}

-- the longest file
abbrev pub most : ℕ
most = 65536

-- the list piece has 8 bytes for each full 17 of input and 8 more
abbrev pub list_room : ℕ → ℕ
list_room n = 8 * (n / 17) + 8

-- the record piece is as long as the input; all three are given by their lengths
abbrev pub rooms_fit : ℕ → ℕ → ℕ → Bool
rooms_fit input records list = eqb records input && eqb list (list_room input)

-- two unsigned 32-bit numbers a run, the least byte first: its first place and its length
unfoldable pub list_of : List (ℕ × ℕ) → List ℕ
list_of [] = []
list_of (run ∷ runs) = least_bytes 4 run.0 ++ (least_bytes 4 run.1 ++ list_of runs)
