-- The turns of the loop, and how many there may be.
use Rattle.std.specs.Prelude.{◌≡◌, List, ℕ, ◌+◌, ◌*◌, ◌≤◌, ◌<◌, length, is_ok}
use Rattle.record.specs.Record.{size}
use Rattle.torn.specs.Pieces.{most as longest}
use Rattle.lines.specs.Line.{line_room}
use Rattle.report.specs.Block.{most_number}
use Rattle.report.specs.Program.{first_number}
use Rattle.jobs.specs.declared.Job.{Job}
use Rattle.jobs.specs.declared.Job.TheVariants.{Convert, Reproject, Salvage}
use Rattle.stream.specs.declared.state.Phase.TheVariants.{Reading}
use Rattle.stream.specs.declared.state.State.{State}
use Rattle.stream.specs.Run.{Standing, Turn, after_read, after_write, standing_of}
use Rattle.stream.specs.Step.{came_to, read_in, standing}
use Rattle.filter.specs.declared.turn.Turned.{Turned}

-- the records of a read, and their bytes
abbrev pub records : ℕ
records = 4096

abbrev pub most : ℕ
most = size * records

-- the most bytes that a job holds over before a read: fewer than a record, or the longest torn file
abbrev pub held_most : Job → ℕ
held_most Convert = 15
held_most Reproject = 15
held_most Salvage = longest

-- a buffer holds the bytes of a read behind those held over, and a text the lines of both
pub record Room (buffer text : List ℕ) : Type 0 where
  pub bytes : length buffer ≡ longest + most
  pub lines : length text ≡ line_room * records

-- a turn went as a run's does, by what its read and its write answered, with some bytes that stood behind those held over
pub record TurnsBy (job : Job) (state : State) (buffer : List ℕ) (r : Turned) (buffer' : List ℕ) : Type 0 where
  pub behind : List ℕ
  pub stands : standing r.state buffer'
      ≡ after_write (is_ok r.sent) (after_read job (standing state buffer) (read_in (came_to r.came) behind))
  pub few : r.state.phase ≡ Reading → r.state.held ≤ held_most job
  pub inside : r.state.held ≤ length buffer'
  pub numbered : r.state.next ≤ state.next + records

-- a run came to stand here by some turns; one that is still reading has used up all but those that are left, and with one more it
-- could come to a number of more than 64 bits
pub record Reached (job : Job) (arguments : ℕ) (s : Standing) (left : ℕ) : Type 0 where
  pub turns : List Turn
  pub stands : s ≡ standing_of job arguments turns
  pub used : s.phase ≡ Reading → most_number < first_number + records * (left + length turns + 1)
