-- What the program `salvage` writes and says of an input, whatever its reads and writes come to.
use Rattle.std.specs.Prelude.{true, List, [], ◌∷◌, ◌++◌, ◌≢◌, ◌≡◌, ℕ, ◌≤◌, ◌<◌, length, drop}
use Rattle.torn.specs.Parts.{taken_of, runs_of, closed_up}
use Rattle.lines.specs.Decimal.{decimal_of}
use Rattle.listing.specs.Listing.{run_line, run_lines, counts_line, listing_of}
use Rattle.jobs.specs.declared.Job.TheVariants.{Salvage}
use Rattle.stream.specs.declared.state.Phase.TheVariants.{Ended, TooLong}
use Rattle.stream.specs.Run.{Standing, Turn, ended, bytes_in, AllGoOn, standing_of, input_of, written_of}
use Rattle.messages.specs.Message.{message_of}
use Rattle.claims.specs.RecordExample.{input}
use Rattle.claims.specs.Printing.{at_text}
use Rattle.claims.specs.SalvageExamples.{marked}

-- where a run stands, what it has read and what it has written, by how many arguments it has and its turns
abbrev pub standing : ℕ → List Turn → Standing
standing = standing_of Salvage

abbrev pub read : ℕ → List Turn → List ℕ
read = input_of Salvage

abbrev pub written : ℕ → List Turn → List ℕ
written = written_of Salvage

-- "skipped ", "records " and " runs "
abbrev pub skipped_text : List ℕ
skipped_text = 115 ∷ 107 ∷ 105 ∷ 112 ∷ 112 ∷ 101 ∷ 100 ∷ 32 ∷ []

abbrev pub records_text : List ℕ
records_text = 114 ∷ 101 ∷ 99 ∷ 111 ∷ 114 ∷ 100 ∷ 115 ∷ 32 ∷ []

abbrev pub runs_text : List ℕ
runs_text = 32 ∷ 114 ∷ 117 ∷ 110 ∷ 115 ∷ 32 ∷ []

-- "salvage: standard input: more than 65536 bytes"
abbrev pub too_many_bytes : List ℕ
too_many_bytes =
    115 ∷ 97 ∷ 108 ∷ 118 ∷ 97 ∷ 103 ∷ 101 ∷ 58 ∷ 32 ∷ 115 ∷ 116 ∷ 97 ∷ 110 ∷ 100 ∷ 97 ∷ 114 ∷ 100 ∷ 32 ∷ 105 ∷ 110 ∷ 112 ∷ 117
    ∷ 116 ∷ 58 ∷ 32 ∷ 109 ∷ 111 ∷ 114 ∷ 101 ∷ 32 ∷ 116 ∷ 104 ∷ 97 ∷ 110 ∷ 32 ∷ 54 ∷ 53 ∷ 53 ∷ 51 ∷ 54 ∷ 32 ∷ 98 ∷ 121 ∷ 116
    ∷ 101 ∷ 115 ∷ 10 ∷ []

-- a record whose number looks like a mark, with its first byte changed, and another one; "skipped 8 at 0", "skipped 8 at 24" and
-- "records 1 runs 2"
abbrev pub inside : List ℕ
inside = 0x4E ∷ (drop 1 marked ++ input)

abbrev pub inside_said : List ℕ
inside_said =
    115 ∷ 107 ∷ 105 ∷ 112 ∷ 112 ∷ 101 ∷ 100 ∷ 32 ∷ 56 ∷ 32 ∷ 97 ∷ 116 ∷ 32 ∷ 48 ∷ 10 ∷ 115 ∷ 107 ∷ 105 ∷ 112 ∷ 112 ∷ 101 ∷ 100
    ∷ 32 ∷ 56 ∷ 32 ∷ 97 ∷ 116 ∷ 32 ∷ 50 ∷ 52 ∷ 10 ∷ 114 ∷ 101 ∷ 99 ∷ 111 ∷ 114 ∷ 100 ∷ 115 ∷ 32 ∷ 49 ∷ 32 ∷ 114 ∷ 117 ∷ 110
    ∷ 115 ∷ 32 ∷ 50 ∷ 10 ∷ []

-- a run that came to its end has read no more than it may, has written the taken records of all that it read, and lists what it skipped
pub record AtEnd (s w said : List ℕ) : Type 0 where
  pub short : length s ≤ 65536
  pub taken : w ≡ closed_up (taken_of s)
  pub lists : said ≡ listing_of s

pub record SalvagedRuns : Type 0 where
  pub ends : (arguments : ℕ) (turns : List Turn) → (standing arguments turns).phase ≡ Ended →
      AtEnd (read arguments turns) (written arguments turns) (message_of Salvage Ended (standing arguments turns).rest)
  -- no other run has written anything, and one that has read too much says so
  pub nothing_else : (arguments : ℕ) (turns : List Turn) → (standing arguments turns).phase ≢ Ended → written arguments turns ≡ []
  pub too_long_lem : (arguments : ℕ) (turns : List Turn) → (standing arguments turns).phase ≡ TooLong → 65536 < length (read arguments turns)
  pub said_too_long : (rest : List ℕ) → message_of Salvage TooLong rest ≡ too_many_bytes
  -- whose reads and writes go well comes to its end with 65,536 bytes at most, and stops with more
  pub comes_to_end : (arguments : ℕ) (turns : List Turn) → arguments ≤ 1 → AllGoOn turns → length (read arguments turns) ≤ 65536 →
      (standing arguments (record { read = ended; written = true } ∷ turns)).phase ≡ Ended
  pub comes_to_a_stop : (arguments : ℕ) (turn : Turn) (turns : List Turn) → arguments ≤ 1 → AllGoOn (turn ∷ turns) →
      length (read arguments turns) ≤ 65536 → 65536 < length (read arguments turns ++ bytes_in turn.read) →
      (standing arguments (turn ∷ turns)).phase ≡ TooLong
  -- the listing: the line of each run has its length and its first place, and the last line has both counts
  pub listing : (s : List ℕ) → listing_of s ≡ run_lines (runs_of s) ++ counts_line (length (taken_of s), length (runs_of s))
  pub no_lines : run_lines [] ≡ []
  pub more_lines : (run : ℕ × ℕ) (runs : List (ℕ × ℕ)) → run_lines (run ∷ runs) ≡ run_line run ++ run_lines runs
  pub run_line_lem : (first long : ℕ) →
      run_line (first, long) ≡ skipped_text ++ (decimal_of long ++ (at_text ++ (decimal_of first ++ (10 ∷ []))))
  pub counts_line_lem : (taken skipped : ℕ) →
      counts_line (taken, skipped) ≡ records_text ++ (decimal_of taken ++ (runs_text ++ (decimal_of skipped ++ (10 ∷ []))))
  pub worked : listing_of inside ≡ inside_said
