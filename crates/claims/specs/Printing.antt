-- What the program `convert` prints of an input: that of the whole input, whatever pieces it comes in, or where a read or a write fails
-- the lines of whole records alone; in text that is what it should be.
use Rattle.std.specs.Prelude.{true, List, [], ◌∷◌, ◌++◌, ◌≡◌, ◌≢◌, ℕ, ℤ, pos, negsuc, take}
use Rattle.refusal.specs.Outcome.{refused, given}
use Rattle.lines.specs.Decimal.{decimal_of, number_text, DecimalText}
use Rattle.lines.specs.Line.{line_of}
use Rattle.report.specs.Block.{SessionsCompose, LinesCompose}
use Rattle.report.specs.Program.{printed_of, Numbered, TailNumbered, ReadsDoNotMatter, TailRefused, SessionOfHistory}
use Rattle.jobs.specs.declared.Job.{Job}
use Rattle.jobs.specs.declared.Job.TheVariants.{Convert, Reproject}
use Rattle.jobs.specs.Job.{takes_in}
use Rattle.stream.specs.declared.state.Got.TheVariants.{Interrupted, Failed}
use Rattle.stream.specs.Run.{RunsWrite, RunsEnd}
use Rattle.stream.specs.Step.{got_of}
use Rattle.claims.specs.RecordExample.{input}

-- "157079632 78539816" and "moved 1 refused 0", each with a line feed
abbrev pub pair : List ℕ
pair = 49 ∷ 53 ∷ 55 ∷ 48 ∷ 55 ∷ 57 ∷ 54 ∷ 51 ∷ 50 ∷ 32 ∷ 55 ∷ 56 ∷ 53 ∷ 51 ∷ 57 ∷ 56 ∷ 49 ∷ 54 ∷ 10 ∷ []

abbrev pub moved_one : List ℕ
moved_one = 109 ∷ 111 ∷ 118 ∷ 101 ∷ 100 ∷ 32 ∷ 49 ∷ 32 ∷ 114 ∷ 101 ∷ 102 ∷ 117 ∷ 115 ∷ 101 ∷ 100 ∷ 32 ∷ 48 ∷ 10 ∷ []

-- "moved 0 refused 0"
abbrev pub moved_none : List ℕ
moved_none = 109 ∷ 111 ∷ 118 ∷ 101 ∷ 100 ∷ 32 ∷ 48 ∷ 32 ∷ 114 ∷ 101 ∷ 102 ∷ 117 ∷ 115 ∷ 101 ∷ 100 ∷ 32 ∷ 48 ∷ 10 ∷ []

-- "refused " and " at "
abbrev pub refused_text : List ℕ
refused_text = 114 ∷ 101 ∷ 102 ∷ 117 ∷ 115 ∷ 101 ∷ 100 ∷ 32 ∷ []

abbrev pub at_text : List ℕ
at_text = 32 ∷ 97 ∷ 116 ∷ 32 ∷ []

-- a place of kind 1, one unit west of the Equator's end: x is -314159266
abbrev pub west : List ℕ
west = 0x4D ∷ 0xD2 ∷ 0x01 ∷ 0x01 ∷ 0x00 ∷ 0x00 ∷ 0x00 ∷ 0x00 ∷ 0x5E ∷ 0x4F ∷ 0x46 ∷ 0xED ∷ 0x00 ∷ 0x00 ∷ 0x00 ∷ 0x00 ∷ []

-- "refused 17 at 4" and "moved 3 refused 1"
abbrev pub refused_fourth : List ℕ
refused_fourth = 114 ∷ 101 ∷ 102 ∷ 117 ∷ 115 ∷ 101 ∷ 100 ∷ 32 ∷ 49 ∷ 55 ∷ 32 ∷ 97 ∷ 116 ∷ 32 ∷ 52 ∷ 10 ∷ []

abbrev pub moved_three : List ℕ
moved_three = 109 ∷ 111 ∷ 118 ∷ 101 ∷ 100 ∷ 32 ∷ 51 ∷ 32 ∷ 114 ∷ 101 ∷ 102 ∷ 117 ∷ 115 ∷ 101 ∷ 100 ∷ 32 ∷ 49 ∷ 10 ∷ []

-- "refused 8 at 2"
abbrev pub refused_tail : List ℕ
refused_tail = 114 ∷ 101 ∷ 102 ∷ 117 ∷ 115 ∷ 101 ∷ 100 ∷ 32 ∷ 56 ∷ 32 ∷ 97 ∷ 116 ∷ 32 ∷ 50 ∷ 10 ∷ []

pub record Printing : Type 0 where
  -- numbers as text: digits that read back as the number, with no zero in front
  pub decimal : DecimalText
  -- the line of two numbers, and of a refusal and the number of its record, whatever that is
  pub pair_line : (number : ℕ) (x y : ℤ) → line_of number (given (x, y)) ≡ number_text x ++ (32 ∷ (number_text y ++ (10 ∷ [])))
  pub refusal_line : (number n : ℕ) →
      line_of number (refused n) ≡ refused_text ++ (decimal_of n ++ (at_text ++ (decimal_of number ++ (10 ∷ []))))
  -- blocks one after the other are one stream
  pub sessions : SessionsCompose
  pub lines : LinesCompose
  -- the line of each record stands behind those of the records before it, and has its number in the whole input
  pub numbers : Numbered
  -- however the reads cut the input, the output is that of the whole input
  pub reads : ReadsDoNotMatter
  -- what a run of any job has written by its phase, whatever its reads and writes come to: only one that ended has written what the
  -- job makes of the whole input, `convert`'s last line with it
  pub runs : RunsWrite
  -- and a run whose reads and writes go well ends with its input, where the job takes it; `convert` and `reproject` take any
  pub runs_end : (job : Job) → RunsEnd job
  pub all_taken : (n : ℕ) → (takes_in Convert n ≡ true) × (takes_in Reproject n ≡ true)
  -- a read that fails by error 4, a signal's interruption, is tried again; no other is
  pub interrupted : (n : ℕ) → got_of (negsuc n) (pos 4) ≡ Interrupted
  pub no_other : (n : ℕ) (error : ℤ) → error ≢ pos 4 → got_of (negsuc n) error ≡ Failed
  -- a tail shorter than 16 bytes prints "refused 8" with the next number, and no count changes
  pub tail : TailRefused
  pub tail_number : TailNumbered
  -- the counts of the last line are those of the history of all whole records
  pub counts : SessionOfHistory
  -- document 01's record, and empty input
  pub document : printed_of input ≡ pair ++ moved_one
  pub empty : printed_of [] ≡ moved_none
  -- order 6's line, behind three records that are moved; and the first bytes of a record behind one
  pub fourth : printed_of (input ++ (input ++ (input ++ west))) ≡ pair ++ (pair ++ (pair ++ (refused_fourth ++ moved_three)))
  pub torn : printed_of (input ++ take 5 input) ≡ pair ++ (refused_tail ++ moved_one)
