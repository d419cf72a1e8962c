-- A run of a program: where it stands after each read and each write, and what it has written.
use Rattle.std.specs.Prelude.{◌≡◌, Bool, true, false, cond, List, [], ◌∷◌, ◌++◌, ℕ, ◌+◌, ◌≤◌, ◌<◌, leb, length}
use Rattle.session.specs.declared.Session.{Session}
use Rattle.session.specs.Session.{opened}
use Rattle.report.specs.Program.{first_number}
use Rattle.jobs.specs.declared.Job.{Job}
use Rattle.jobs.specs.Job.{block_of, session_of, worked_in, waiting_of, takes_in, ending_of, result_of}
use Rattle.stream.specs.declared.state.Phase.{Phase}
use Rattle.stream.specs.declared.state.Phase.TheVariants.{Reading, Ended, NotStarted, NotRead, NotWritten, TooLong}

-- where a run stands: the session, the number of the next record, the bytes held over, and the phase
pub record Standing : Type 0 where
  pub session : Session
  pub next : ℕ
  pub rest : List ℕ
  pub phase : Phase

abbrev pub stopped : Phase → Standing → Standing
stopped phase s = record { session = s.session; next = s.next; rest = s.rest; phase = phase }

-- a program that has arguments beside its own name reads nothing
abbrev pub phase_at_start : ℕ → Phase
phase_at_start arguments = cond (leb arguments 1) Reading NotStarted

-- a job that does not take so many bytes stops
abbrev pub phase_with : Job → ℕ → Phase
phase_with job n = cond (takes_in job n) Reading TooLong

abbrev pub start : ℕ → Standing
start arguments = record { session = opened; next = first_number; rest = []; phase = phase_at_start arguments }

-- what a read comes to
pub data Read : Type 0 where
  came : List ℕ → Read
  ended : Read
  interrupted : Read
  failed : Read

abbrev pub bytes_in : Read → List ℕ
bytes_in (came b) = b
bytes_in ended = []
bytes_in interrupted = []
bytes_in failed = []

-- what is to be written after a read
unfoldable pub offered : Job → Standing → Read → List ℕ
offered job s (came b) = block_of job s.session s.next (s.rest ++ b)
offered job s ended = ending_of job s.session s.next s.rest
offered job s interrupted = []
offered job s failed = []

unfoldable pub after_read : Job → Standing → Read → Standing
after_read job s (came b) =
    let bytes = s.rest ++ b in
    record {
      session = session_of job s.session bytes;
      next = s.next + worked_in job (length bytes);
      rest = waiting_of job bytes;
      phase = phase_with job (length bytes);
    }
after_read job s ended = stopped Ended s
after_read job s interrupted = s
after_read job s failed = stopped NotRead s

unfoldable pub after_write : Bool → Standing → Standing
after_write true s = s
after_write false s = stopped NotWritten s

-- a turn: what its read came to, and whether all that was offered was written
pub record Turn : Type 0 where
  pub read : Read
  pub written : Bool

abbrev pub turned : Job → Standing → Turn → Standing
turned job s turn = after_write turn.written (after_read job s turn.read)

-- a run that has stopped takes no turn
abbrev pub go_on : {A : Type 0} → Phase → A → A → A
go_on Reading before after = after
go_on Ended before after = before
go_on NotStarted before after = before
go_on NotRead before after = before
go_on NotWritten before after = before
go_on TooLong before after = before

module _ (job : Job) (arguments : ℕ) where
  -- where a run stands after its turns, the latest first
  unfoldable pub standing_of : List Turn → Standing
  standing_of [] = start arguments
  standing_of (turn ∷ earlier) = let s = standing_of earlier in go_on s.phase s (turned job s turn)

  -- what it has read
  unfoldable pub input_of : List Turn → List ℕ
  input_of [] = []
  input_of (turn ∷ earlier) = let s = input_of earlier in go_on (standing_of earlier).phase s (s ++ bytes_in turn.read)

  -- what it has written, but for a part that a write that failed may have written before it failed
  unfoldable pub written_of : List Turn → List ℕ
  written_of [] = []
  written_of (turn ∷ earlier) =
      let s = standing_of earlier in
      let more = cond turn.written (offered job s turn.read) [] in
      go_on s.phase (written_of earlier) (written_of earlier ++ more)

-- a write failed: what was written before it is of some first part of the input, and has no end
pub record Cut (job : Job) (input written : List ℕ) : Type 0 where
  pub before : List ℕ
  pub last : List ℕ
  pub input_is : input ≡ before ++ last
  pub written_is : written ≡ block_of job opened first_number before

-- what a run in a phase has written of what it has read. Only one that ended has written what the job makes of a whole input:
-- the others have written of whole records alone, and one whose input the job does not take nothing
abbrev pub Wrote : Job → Phase → List ℕ → List ℕ → Type 0
Wrote job Reading input written = written ≡ block_of job opened first_number input
Wrote job Ended input written = (takes_in job (length input) ≡ true) × (written ≡ result_of job input)
Wrote job NotStarted input written = (input ≡ []) × (written ≡ [])
Wrote job NotRead input written = written ≡ block_of job opened first_number input
Wrote job NotWritten input written = Cut job input written
Wrote job TooLong input written = (takes_in job (length input) ≡ false) × (written ≡ [])

-- whatever its reads and writes come to
abbrev pub RunsWrite : Type 0
RunsWrite =
    (job : Job) (arguments : ℕ) (turns : List Turn) →
    Wrote job (standing_of job arguments turns).phase (input_of job arguments turns) (written_of job arguments turns)

-- reads that bring bytes or are interrupted, and writes that write all
abbrev pub GoesOn : Read → Type 0
GoesOn (came b) = Unit {0}
GoesOn ended = ⊥
GoesOn interrupted = Unit {0}
GoesOn failed = ⊥

abbrev pub AllGoOn : List Turn → Type 0
AllGoOn [] = Unit {0}
AllGoOn (turn ∷ earlier) = GoesOn turn.read × (turn.written ≡ true) × AllGoOn earlier

-- with these a run goes on while the job takes what was read, and stops where it does not; the end of the input is its end, with the
-- bytes that wait then; one with arguments does not start
pub record RunsEnd (job : Job) : Type 0 where
  pub goes_on : (arguments : ℕ) (turns : List Turn) → arguments ≤ 1 → AllGoOn turns →
      takes_in job (length (input_of job arguments turns)) ≡ true → (standing_of job arguments turns).phase ≡ Reading
  pub stops : (arguments : ℕ) (turn : Turn) (turns : List Turn) → arguments ≤ 1 → AllGoOn (turn ∷ turns) →
      takes_in job (length (input_of job arguments turns)) ≡ true →
      takes_in job (length (input_of job arguments turns ++ bytes_in turn.read)) ≡ false →
      (standing_of job arguments (turn ∷ turns)).phase ≡ TooLong
  pub ends : (arguments : ℕ) (turns : List Turn) → arguments ≤ 1 → AllGoOn turns →
      takes_in job (length (input_of job arguments turns)) ≡ true →
      (standing_of job arguments (record { read = ended; written = true } ∷ turns)).phase ≡ Ended
  pub rests : (arguments : ℕ) (turns : List Turn) → (standing_of job arguments turns).phase ≡ Ended →
      (standing_of job arguments turns).rest ≡ waiting_of job (input_of job arguments turns)
  pub never_starts : (arguments : ℕ) (turns : List Turn) → 1 < arguments → (standing_of job arguments turns).phase ≡ NotStarted
