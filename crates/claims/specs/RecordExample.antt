-- The worked record of document 01.
use Rattle.std.specs.Prelude.{List, [], ◌∷◌, ◌≡◌, ℕ, pos, length}
use Rattle.refusal.specs.Outcome.{given}
use Rattle.record.specs.Answer.{convert_of, output_after}

abbrev pub input : List ℕ
input = 0x4D ∷ 0xD2 ∷ 0x01 ∷ 0x00 ∷ 0x00 ∷ 0x00 ∷ 0x00 ∷ 0x00 ∷ 0x80 ∷ 0x62 ∷ 0xEE ∷ 0x01 ∷ 0x40 ∷ 0x31 ∷ 0xF7 ∷ 0x00 ∷ []

abbrev pub made : List ℕ
made = 0x4D ∷ 0xD2 ∷ 0x01 ∷ 0x01 ∷ 0x00 ∷ 0x00 ∷ 0x00 ∷ 0x00 ∷ 0x50 ∷ 0xD8 ∷ 0x5C ∷ 0x09 ∷ 0x28 ∷ 0x6C ∷ 0xAE ∷ 0x04 ∷ []

pub record RecordExample : Type 0 where
  pub answer : convert_of input 16 ≡ given (pos 157079632, pos 78539816)
  pub written : (output : List ℕ) → length output ≡ 16 → output_after input output (convert_of input (length output)) ≡ made
