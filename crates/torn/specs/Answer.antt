-- What a salvage answers, and what the two pieces hold afterwards.
use Rattle.std.specs.Prelude.{List, [], ◌∷◌, ℕ, length}
use Rattle.refusal.specs.Outcome.{Rule, Outcome, refused, given, unless}
use Rattle.digits.specs.Put.{put_front}
use Rattle.torn.specs.Parts.{taken_of, runs_of, closed_up}
use Rattle.torn.specs.Pieces.{list_of}
use Rattle.torn.specs.Refusal.{too_long, bad_rooms}

-- the pieces are given by their lengths
abbrev pub salvage_order : List ℕ → ℕ → ℕ → List Rule
salvage_order input records list = too_long input ∷ bad_rooms input records list ∷ []

-- how many records are taken, and how many runs are skipped
abbrev pub counts_of : List ℕ → ℕ × ℕ
counts_of input = (length (taken_of input), length (runs_of input))

unfoldable pub salvage_of : List ℕ → ℕ → ℕ → Outcome (ℕ × ℕ)
salvage_of input records list = unless (salvage_order input records list) (counts_of input)

-- what a piece holds after an answer: bytes at its front, those not needed staying; after a refusal, what it held
abbrev pub after : List ℕ → List ℕ → Outcome (ℕ × ℕ) → List ℕ
after piece bytes (given counts) = put_front piece bytes
after piece bytes (refused n) = piece

unfoldable pub records_after : List ℕ → List ℕ → Outcome (ℕ × ℕ) → List ℕ
records_after input piece answer = after piece (closed_up (taken_of input)) answer

unfoldable pub list_after : List ℕ → List ℕ → Outcome (ℕ × ℕ) → List ℕ
list_after input piece answer = after piece (list_of (runs_of input)) answer
