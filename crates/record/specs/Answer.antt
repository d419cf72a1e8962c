-- What a record is answered, and what the output piece holds afterwards.
use Rattle.std.specs.Prelude.{Bool, cond, ◌&&◌, List, ◌∷◌, ℕ, eqb, ℤ, length}
use Rattle.parallel.specs.Table.{row_of}
use Rattle.refusal.specs.Outcome.{Rule, Outcome, refused, given, is_given, unless}
use Rattle.projection.specs.Forward.{place_of}
use Rattle.projection.specs.Inverse.{position_of}
use Rattle.projection.specs.Answer.{forward_order, inverse_order}
use Rattle.record.specs.Record.{size, position, kind_in, form_in, central_in, first_in, second_in, moved_of}
use Rattle.record.specs.Refusal.{bad_pieces, bad_mark, bad_form}

-- the refusals of the pair that a record holds: a position's, or a place's
unfoldable pub pair_order : List ℕ → List Rule
pair_order bytes =
    cond (eqb (form_in bytes) position)
    (forward_order (kind_in bytes) (central_in bytes) (first_in bytes) (second_in bytes))
    (inverse_order (kind_in bytes) (central_in bytes) (first_in bytes) (second_in bytes))

-- the converted pair: a position's place, or a place's position
unfoldable pub pair_of : List ℕ → ℤ × ℤ
pair_of bytes =
    cond (eqb (form_in bytes) position)
    (place_of (row_of (kind_in bytes)) (central_in bytes) (first_in bytes) (second_in bytes))
    (position_of (row_of (kind_in bytes)) (central_in bytes) (first_in bytes) (second_in bytes))

-- the order of the refusals of a record's own bytes, and the answer by them alone
abbrev pub record_order : List ℕ → List Rule
record_order bytes = bad_mark bytes ∷ bad_form bytes ∷ pair_order bytes

unfoldable pub judged_of : List ℕ → Outcome (ℤ × ℤ)
judged_of bytes = unless (record_order bytes) (pair_of bytes)

-- bytes that are a record which the rules convert, by its own judgement
unfoldable pub convertible : List ℕ → Bool
convertible bytes = eqb (length bytes) size && is_given (judged_of bytes)

-- with the pieces, of which the output is given by its length
abbrev pub convert_order : List ℕ → ℕ → List Rule
convert_order input output = bad_pieces input output ∷ record_order input

unfoldable pub convert_of : List ℕ → ℕ → Outcome (ℤ × ℤ)
convert_of input output = unless (convert_order input output) (pair_of input)

-- the output piece after an answer: the moved record, or as it was lent
unfoldable pub output_after : List ℕ → List ℕ → Outcome (ℤ × ℤ) → List ℕ
output_after input output (refused n) = output
output_after input output (given pair) = moved_of input pair
