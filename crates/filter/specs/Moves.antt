-- What a run does to the bytes that a reader has left and to those that a writer holds, where these are known.
use Rattle.std.specs.Prelude.{◌≡◌, Bool, true, false, cond, List, [], ◌∷◌, ◌++◌, ℕ, ◌<◌, take, length, Option, Some, is_ok}
use Rattle.std.specs.Io.KnownBytes.{Appends, Consumes, IsAtEnd}
use Rattle.jobs.specs.declared.Job.{Job}
use Rattle.jobs.specs.Job.{takes_in, result_of}
use Rattle.stream.specs.declared.state.Phase.TheVariants.{Ended}
use Rattle.stream.specs.declared.state.State.{State}
use Rattle.stream.specs.Run.{Standing, Turn, ended, bytes_in, offered, go_on, standing_of, input_of, written_of}
use Rattle.stream.specs.Step.{came_to, read_in, standing}
use Rattle.filter.specs.declared.turn.Turned.{Turned}
use Rattle.filter.specs.Turns.{TurnsBy}

-- what a write that failed left in the writer: a part of what was offered, and never all of it
abbrev pub IsPart : Bool → List ℕ → List ℕ → Type 0
IsPart true offer part = part ≡ []
IsPart false offer part = (length part < length offer) × (part ≡ take (length part) offer)

-- a turn took from the reader the bytes of its read, and wrote what was offered
pub record Moves (job : Job) (s : Standing) (turn : Turn) (left left' held held' : Option (List ℕ)) : Type 0 where
  pub took : Consumes left left' (bytes_in turn.read)
  pub all : turn.read ≡ ended → IsAtEnd left'
  pub part : List ℕ
  pub is_part : IsPart turn.written (offered job s turn.read) part
  pub wrote : Appends held held' (cond turn.written (offered job s turn.read) [] ++ part)

-- a turn that went as a run's does, with what it moved
pub record TurnMoves (job : Job) (state : State) (buffer : List ℕ) (r : Turned) (buffer' : List ℕ) (left left' held held' : Option (List ℕ)) : Type 0 where
  pub by : TurnsBy job state buffer r buffer'
  pub moves : Moves job (standing state buffer) (record { read = read_in (came_to r.came) by.behind; written = is_ok r.sent }) left left' held held'

module _ (job : Job) (arguments : ℕ) where
  -- what was to be written after the latest read, and whether all of it was
  unfoldable pub last_offered : List Turn → List ℕ
  last_offered [] = []
  last_offered (turn ∷ earlier) = let s = standing_of job arguments earlier in go_on s.phase (last_offered earlier) (offered job s turn.read)

  unfoldable pub last_written : List Turn → Bool
  last_written [] = true
  last_written (turn ∷ earlier) = go_on (standing_of job arguments earlier).phase (last_written earlier) turn.written

  -- a run came to stand here by some turns, took from the reader all that they read, and wrote what they wrote, and at the end of the input
  -- the reader has nothing left
  pub record Passes (s : Standing) (left left' held held' : Option (List ℕ)) : Type 0 where
    pub turns : List Turn
    pub stands : s ≡ standing_of job arguments turns
    pub took : Consumes left left' (input_of job arguments turns)
    pub all : s.phase ≡ Ended → IsAtEnd left'
    pub part : List ℕ
    pub is_part : IsPart (last_written turns) (last_offered turns) part
    pub wrote : Appends held held' (written_of job arguments turns ++ part)

-- so a run that ended, of a reader and a writer that know their bytes, has written what the job makes of all that the reader had
abbrev pub EndedRunsPass : Type 0
EndedRunsPass =
    (job : Job) (arguments : ℕ) (s : Standing) (input held : List ℕ) (left' held' : Option (List ℕ)) →
    Passes job arguments s (Some input) left' (Some held) held' → s.phase ≡ Ended →
    (takes_in job (length input) ≡ true) × (held' ≡ Some (held ++ result_of job input))
