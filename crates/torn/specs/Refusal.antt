-- The refusals that a salvage adds: 23 and 24.
use Rattle.std.specs.Prelude.{not, List, ℕ, ltb, length}
use Rattle.refusal.specs.Outcome.{Rule}
use Rattle.torn.specs.Pieces.{most, rooms_fit}

-- 23: the input passes 65,536 bytes
abbrev pub too_long : List ℕ → Rule
too_long input = record { number = 23; applies = ltb most (length input) }

-- 24: the record piece or the list piece, given by their lengths, has another length
abbrev pub bad_rooms : List ℕ → ℕ → ℕ → Rule
bad_rooms input records list = record { number = 24; applies = not (rooms_fit (length input) records list) }
