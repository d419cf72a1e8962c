-- A whole number as bytes, the least first, in as many as there are.
use Rattle.std.specs.Prelude.{List, [], ◌∷◌, ℕ, zero, suc, ◌+◌, ◌*◌, ◌/◌, ◌%◌}

-- the number that bytes stand for
abbrev pub whole_of : List ℕ → ℕ
whole_of [] = 0
whole_of (b ∷ bs) = b + 256 * whole_of bs

-- the k least bytes of a number, with zeros behind where it has fewer
abbrev pub least_bytes : ℕ → ℕ → List ℕ
least_bytes zero n = []
least_bytes (suc k) n = n % 256 ∷ least_bytes k (n / 256)
