-- What the program `salvage` says of a torn file, in ASCII: a line for each skipped run, and a closing line with both counts.
use Rattle.std.specs.Prelude.{Bool, ◌&&◌, List, [], ◌∷◌, ◌++◌, ℕ, ◌+◌, ◌*◌, ◌/◌, leb, length}
use Rattle.lines.specs.Line.{space, line_feed, at_word, named}
use Rattle.torn.specs.Parts.{runs_of}
use Rattle.torn.specs.Pieces.{most}
use Rattle.torn.specs.Answer.{counts_of}

-- "skipped ", "records " and " runs "
abbrev pub skipped_word : List ℕ
skipped_word = 115 ∷ 107 ∷ 105 ∷ 112 ∷ 112 ∷ 101 ∷ 100 ∷ space

abbrev pub records_word : List ℕ
records_word = 114 ∷ 101 ∷ 99 ∷ 111 ∷ 114 ∷ 100 ∷ 115 ∷ space

abbrev pub runs_word : List ℕ
runs_word = 32 ∷ 114 ∷ 117 ∷ 110 ∷ 115 ∷ space

-- "skipped 7 at 32": the run's length, and then its first place
abbrev pub run_line : ℕ × ℕ → List ℕ
run_line run = named skipped_word run.1 ++ (named at_word run.0 ++ line_feed)

unfoldable pub run_lines : List (ℕ × ℕ) → List ℕ
run_lines [] = []
run_lines (run ∷ runs) = run_line run ++ run_lines runs

-- "records 2 runs 1": records taken, and runs skipped
abbrev pub counts_line : ℕ × ℕ → List ℕ
counts_line counts = named records_word counts.0 ++ (named runs_word counts.1 ++ line_feed)

unfoldable pub listing_of : List ℕ → List ℕ
listing_of input = run_lines (runs_of input) ++ counts_line (counts_of input)

-- the room of a run's line: two numbers of 5 digits, the words with their spaces, and a line feed
abbrev pub run_room : ℕ
run_room = 8 + 5 + 4 + 5 + 1

-- the most runs: all but the last are followed by a record, and have 17 bytes with it
abbrev pub most_runs : ℕ
most_runs = most / 17 + 1

-- the room of the longest listing: the most runs, and the closing line with two numbers of 64 bits
abbrev pub listing_room : ℕ
listing_room = run_room * most_runs + (8 + 20 + 6 + 20 + 1)

-- the file is not too long to be salvaged, and the longest listing fits a text of this length
abbrev pub listing_fits : List ℕ → ℕ → Bool
listing_fits input text = leb (length input) most && leb listing_room text
