-- How the code's state and buffers stand for those of a run.
use Rattle.std.specs.Prelude.{◌≡◌, Bool, true, false, cond, ◌&&◌, List, ℕ, ◌+◌, eqb, leb, ℤ, pos, negsuc, length, take, drop, Result, Ok, Err}
use Rattle.digits.specs.Put.{put_front, Put}
use Rattle.jobs.specs.declared.Job.{Job}
use Rattle.jobs.specs.Job.{waiting_in, room_for}
use Rattle.stream.specs.declared.state.Phase.TheVariants.{NotWritten}
use Rattle.stream.specs.declared.state.State.{State}
use Rattle.stream.specs.declared.state.Got.{Got}
use Rattle.stream.specs.declared.state.Got.TheVariants.{Bytes as SomeBytes, End, Interrupted, Failed}
use Rattle.stream.specs.declared.step.Step.{Step}
use Rattle.stream.specs.Run.{Standing, Read, came, ended, interrupted, failed, offered, after_read}

-- where a run stands: the bytes held over are at the front of the buffer
abbrev pub standing : State → List ℕ → Standing
standing state buffer =
    record { session = state.session; next = state.next; rest = take state.held buffer; phase = state.phase }

-- the number of the error of a call that a signal interrupted
abbrev pub eintr : ℕ
eintr = 4

-- what a read came to, by the bytes that came or the error's number: only no bytes are the end
abbrev pub got_by_error : ℤ → Got
got_by_error (pos n) = cond (eqb n eintr) Interrupted Failed
got_by_error (negsuc n) = Failed

abbrev pub came_to : Result ℕ ℤ → Got
came_to (Ok n) = cond (eqb n 0) End (SomeBytes n)
came_to (Err error) = got_by_error error

-- the same by the answer, which is the number of the bytes or below 0
abbrev pub got_of : ℤ → ℤ → Got
got_of (pos n) error = came_to (Ok n)
got_of (negsuc n) error = came_to (Err error)

abbrev pub bytes_of : Got → ℕ
bytes_of (SomeBytes n) = n
bytes_of End = 0
bytes_of Interrupted = 0
bytes_of Failed = 0

-- the run's read, whose bytes stand behind those held over
abbrev pub read_in : Got → List ℕ → Read
read_in (SomeBytes n) behind = came (take n behind)
read_in End behind = ended
read_in Interrupted behind = interrupted
read_in Failed behind = failed

-- a buffer of this length has the bytes held over and those that came, and a text of this length the room for what is written of them,
-- where the first record among them has the number `next`
abbrev pub fits : Job → ℕ → ℕ → ℕ → ℕ → ℕ → Bool
fits job held count next buffer text = leb (held + count) buffer && room_for job next (held + count) text

-- where they do not, the read counts as one that failed
abbrev pub with_room : Job → Got → State → ℕ → ℕ → Got
with_room job got state buffer text = cond (fits job state.held (bytes_of got) state.next buffer text) got Failed

-- how many bytes are held over after a read
abbrev pub held_after : Job → ℕ → Read → ℕ
held_after job held (came b) = waiting_in job (held + length b)
held_after job held ended = held
held_after job held interrupted = held
held_after job held failed = held

-- what follows a read: where the run stands, what the buffer and the text become, and how much is to be written
pub record FollowsBy (job : Job) (state : State) (read : Read) (buffer text : List ℕ) (r : Step) (buffer' text' : List ℕ) : Type 0 where
  pub stands : standing r.state buffer' ≡ after_read job (standing state buffer) read
  pub held : r.state.held ≡ held_after job state.held read
  pub left_over : buffer' ≡ put_front buffer (after_read job (standing state buffer) read).rest
  pub offers : Put text 0 (offered job (standing state buffer) read) r.offered text'

-- by what the read came to, with room or without
abbrev pub Follows : Job → State → Got → List ℕ → List ℕ → Step → List ℕ → List ℕ → Type 0
Follows job state got buffer text =
    FollowsBy job state (read_in (with_room job got state (length buffer) (length text)) (drop state.held buffer)) buffer text

-- what follows a write
abbrev pub write_after : Bool → State → State
write_after true s = s
write_after false s = record { session = s.session; next = s.next; held = s.held; phase = NotWritten }
