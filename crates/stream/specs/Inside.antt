-- What the functions inside the crate promise each other.
use Rattle.std.specs.Prelude.{◌≡◌, true, List, ℕ, ◌+◌, ◌≤◌, length}
use Rattle.digits.specs.Put.{put_front, Put}
use Rattle.jobs.specs.declared.Job.{Job}
use Rattle.jobs.specs.Job.{block_of, session_of, worked_in, waiting_in, waiting_of, room_for}
use Rattle.stream.specs.declared.state.State.{State}
use Rattle.stream.specs.declared.state.Got.{Got}
use Rattle.stream.specs.declared.state.Got.TheVariants.{Bytes as SomeBytes, End, Interrupted, Failed}
use Rattle.stream.specs.declared.step.Step.{Step}
use Rattle.stream.specs.Run.{phase_with}

-- what `take_in` answers, and what the bytes and the text become
pub record TakesIn (job : Job) (state : State) (bytes text : List ℕ) (r : Step) (bytes' text' : List ℕ) : Type 0 where
  pub session : r.state.session ≡ session_of job state.session bytes
  pub next : r.state.next ≡ state.next + worked_in job (length bytes)
  pub held : r.state.held ≡ waiting_in job (length bytes)
  pub phase : r.state.phase ≡ phase_with job (length bytes)
  pub left_over : bytes' ≡ put_front bytes (waiting_of job bytes)
  pub offers : Put text 0 (block_of job state.session state.next bytes) r.offered text'

-- there is room for what a read came to
abbrev pub HasRoom : Job → State → ℕ → ℕ → ℕ → Type 0
HasRoom job state n buffer text = (n ≤ buffer) × (room_for job state.next n text ≡ true)

abbrev pub Ready : Job → Got → State → ℕ → ℕ → Type 0
Ready job (SomeBytes n) state buffer text = HasRoom job state (state.held + n) buffer text
Ready job End state buffer text = HasRoom job state state.held buffer text
Ready job Interrupted state buffer text = Unit {0}
Ready job Failed state buffer text = Unit {0}
