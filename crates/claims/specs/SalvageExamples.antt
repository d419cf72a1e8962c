-- Torn files, worked: what is taken of each, and which runs are skipped.
use Rattle.std.specs.Prelude.{List, [], ◌∷◌, ◌++◌, map, ◌≡◌, ℕ, take, drop}
use Rattle.torn.specs.Parts.{taken_of, runs_of}
use Rattle.torn.specs.Pieces.{list_of}
use Rattle.claims.specs.RecordExample.{input}
use Rattle.claims.specs.Printing.{west}

-- a file, the records that are taken of it, and the runs that are skipped, by first place and length
pub record Torn : Type 0 where
  pub file : List ℕ
  pub records : List (List ℕ)
  pub runs : List (ℕ × ℕ)

-- a record whose longitude looks like a mark, a kind and a form: 4D D2 01 00 is 119373
abbrev pub marked : List ℕ
marked = 0x4D ∷ 0xD2 ∷ 0x01 ∷ 0x00 ∷ 0 ∷ 0 ∷ 0 ∷ 0 ∷ 0x4D ∷ 0xD2 ∷ 0x01 ∷ 0x00 ∷ 0 ∷ 0 ∷ 0 ∷ 0 ∷ []

-- a record of kind 0
abbrev pub no_kind : List ℕ
no_kind = 0x4D ∷ 0xD2 ∷ 0x00 ∷ 0x00 ∷ 0 ∷ 0 ∷ 0 ∷ 0 ∷ 0 ∷ 0 ∷ 0 ∷ 0 ∷ 0 ∷ 0 ∷ 0 ∷ 0 ∷ []

unfoldable pub files : List Torn
files =
    -- nothing, and one record
    record { file = []; records = []; runs = [] }
    ∷ record { file = input; records = input ∷ []; runs = [] }
    -- a record's first 15 bytes, and one byte behind it
    ∷ record { file = take 15 input; records = []; runs = (0, 15) ∷ [] }
    ∷ record { file = input ++ (0 ∷ []); records = input ∷ []; runs = (16, 1) ∷ [] }
    -- its first byte lost, one changed and one added, before another
    ∷ record { file = drop 1 input ++ input; records = input ∷ []; runs = (0, 15) ∷ [] }
    ∷ record { file = 0x4E ∷ (drop 1 input ++ input); records = input ∷ []; runs = (0, 16) ∷ [] }
    ∷ record { file = 0x4D ∷ (input ++ input); records = input ∷ input ∷ []; runs = (0, 1) ∷ [] }
    -- two marks in a row
    ∷ record { file = 0x4D ∷ 0xD2 ∷ input; records = input ∷ []; runs = (0, 2) ∷ [] }
    -- a byte before each record and one behind the last: as many runs as the list piece has room for
    ∷ record {
      file = 0 ∷ (input ++ (0 ∷ (input ++ (0 ∷ []))));
      records = input ∷ input ∷ [];
      runs = (0, 1) ∷ (17, 1) ∷ (34, 1) ∷ [];
    }
    -- records that are refused, by 17 and by 1, are skipped, and the runs of two are one
    ∷ record { file = input ++ (west ++ (no_kind ++ input)); records = input ∷ input ∷ []; runs = (16, 32) ∷ [] }
    -- a number that looks like a mark: the record is taken whole; with its first byte changed, the reading starts inside it, takes a
    -- record that never stood there, and loses the one behind
    ∷ record { file = marked ++ input; records = marked ∷ input ∷ []; runs = [] }
    ∷ record {
      file = 0x4E ∷ (drop 1 marked ++ input);
      records = (drop 8 marked ++ take 8 input) ∷ [];
      runs = (0, 8) ∷ (24, 8) ∷ [];
    }
    ∷ []

pub record SalvageExamples : Type 0 where
  pub records : map (λ (t : Torn). taken_of t.file) files ≡ map (λ (t : Torn). t.records) files
  pub runs : map (λ (t : Torn). runs_of t.file) files ≡ map (λ (t : Torn). t.runs) files
  -- the list's bytes of the last of them
  pub listed : list_of ((0, 8) ∷ (24, 8) ∷ []) ≡ 0 ∷ 0 ∷ 0 ∷ 0 ∷ 8 ∷ 0 ∷ 0 ∷ 0 ∷ 24 ∷ 0 ∷ 0 ∷ 0 ∷ 8 ∷ 0 ∷ 0 ∷ 0 ∷ []
  -- a number of more than 16 bits
  pub wide : list_of ((65520, 65536) ∷ []) ≡ 0xF0 ∷ 0xFF ∷ 0 ∷ 0 ∷ 0 ∷ 0 ∷ 1 ∷ 0 ∷ []
