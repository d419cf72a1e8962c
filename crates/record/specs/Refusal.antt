-- The refusals that records add: 8, 9 and 10.
use Rattle.std.specs.Prelude.{Bool, true, false, not, cond, List, ℕ, eqb, length}
use Rattle.refusal.specs.Outcome.{Rule}
use Rattle.record.specs.Record.{size, position, place, has_mark, form_in}

-- both pieces are of 16 bytes: the input, and the output by its length
abbrev pub both_of_size : ℕ → ℕ → Bool
both_of_size input output = cond (eqb input size) (eqb output size) false

-- 8: input or output piece not of 16 bytes
abbrev pub bad_pieces : List ℕ → ℕ → Rule
bad_pieces input output = record { number = 8; applies = not (both_of_size (length input) output) }

-- 9: mark is wrong
abbrev pub bad_mark : List ℕ → Rule
bad_mark bytes = record { number = 9; applies = not (has_mark bytes) }

-- 10: form is neither 0 nor 1
abbrev pub bad_form : List ℕ → Rule
bad_form bytes = record { number = 10; applies = not (cond (eqb (form_in bytes) position) true (eqb (form_in bytes) place)) }
