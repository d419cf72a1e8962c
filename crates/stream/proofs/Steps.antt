-- What follows a read and a write is what the definitions of a run say.
use mathlib.Core.Path.{◌≡◌, refl, sym, ◌∙◌}
use mathlib.Core.Bool.{Bool, true, false}
use mathlib.Core.List.{List, ◌++◌}
use Prim.Native.Nat.{ℕ, ◌+◌, ◌≤◌}
use native.Mathlib.Omega.{arith}
use lib.ListN.{length, take, drop, length-append, length-drop}
use lib.Seq.{take-add, take_at, length-take-le}
use Rattle.digits.specs.Put.{put_front, Put}
use Rattle.digits.proofs.Puts.{front_same, put_nothing}
use Rattle.jobs.specs.declared.Job.{Job}
use Rattle.jobs.specs.declared.Job.TheVariants.{Convert, Reproject, Salvage}
use Rattle.jobs.specs.Job.{worked_in, waiting_in, waiting_of, ending_of}
use Rattle.jobs.proofs.Jobs.{waiting_length}
use Rattle.stream.specs.declared.state.Phase.TheVariants.{Ended, NotRead}
use Rattle.stream.specs.declared.state.State.{State}
use Rattle.stream.specs.declared.state.Got.{Got}
use Rattle.stream.specs.declared.state.Got.TheVariants.{Bytes as SomeBytes, End, Interrupted, Failed}
use Rattle.stream.specs.declared.step.Step.{Step}
use Rattle.stream.specs.Run.{Standing, Read, came, ended, interrupted, failed, bytes_in, offered, after_read, after_write}
use Rattle.stream.specs.Step.{read_in, held_after, standing, write_after, FollowsBy}
use Rattle.stream.specs.Inside.{TakesIn}
use Rattle.stream.proofs.Fronts.{front_of_part}

-- no more bytes are held over than there are
pub waiting_few : (job : Job) (n : ℕ) → waiting_in job n ≤ n
waiting_few Convert n = omega arith
waiting_few Reproject n = omega arith
waiting_few Salvage n = omega arith

-- ---- what follows a read

module _ (job : Job) (state : State) (got : Got) (buffer text : List ℕ) where
  abbrev FollowsIn : Step → List ℕ → List ℕ → Type 0
  FollowsIn = FollowsBy job state (read_in got (drop state.held buffer)) buffer text

  pub follows_bytes : (n : ℕ) (r : Step) (bytes' text' : List ℕ) → got ≡ SomeBytes n → state.held + n ≤ length buffer →
      TakesIn job state (take (state.held + n) buffer) text r bytes' text' → FollowsIn r (bytes' ++ drop (state.held + n) buffer) text'
  unfolding after_read offered put_front
  follows_bytes n r bytes' text' g h d =
      let s : List ℕ = take (state.held + n) buffer in
      let e : take state.held buffer ++ take n (drop state.held buffer) ≡ s = sym (take-add state.held n buffer) in
      let l : length s ≡ state.held + n = length-take-le _ _ h in
      let m : length (take n (drop state.held buffer)) ≡ n = length-take-le _ _ (simp length-drop (omega arith)) in
      let w : length (waiting_of job s) ≡ r.state.held = waiting_length job s ∙ sym d.held in
      let few : length (waiting_of job s) ≤ state.held + n = omega (arith, waiting_length job s, waiting_few job (length s)) in
      let left : bytes' ++ drop (state.held + n) buffer ≡ put_front buffer (waiting_of job s) =
      rw d.left_over (front_of_part buffer (waiting_of job s) (state.held + n) h few) in
      let rest : take r.state.held (bytes' ++ drop (state.held + n) buffer) ≡ waiting_of job s = rw left (take_at (waiting_of job s) _ r.state.held w) in
      rw g (record {
        stands = rw (e, d.session, d.next, rest, d.phase);
        held = rw (m, ← l) d.held;
        left_over = rw e left;
        offers = rw e d.offers;
      })

  pub follows_end : (n : ℕ) (text' : List ℕ) → got ≡ End → Put text 0 (ending_of job state.session state.next (take state.held buffer)) n text' →
      FollowsIn (record { state = record state { phase = Ended }; offered = n }) buffer text'
  unfolding after_read offered
  follows_end n text' g o = rw g (record { stands = refl; held = refl; left_over = front_same buffer state.held; offers = o })

  pub follows_interrupted : got ≡ Interrupted → FollowsIn (record { state = state; offered = 0 }) buffer text
  unfolding after_read offered
  follows_interrupted g = rw g (record { stands = refl; held = refl; left_over = front_same buffer state.held; offers = put_nothing text 0 })

  pub follows_failed : got ≡ Failed → FollowsIn (record { state = record state { phase = NotRead }; offered = 0 }) buffer text
  unfolding after_read offered
  follows_failed g = rw g (record { stands = refl; held = refl; left_over = front_same buffer state.held; offers = put_nothing text 0 })

-- ---- what follows a write

pub write_stands : (written : Bool) (state : State) (buffer : List ℕ) →
    standing (write_after written state) buffer ≡ after_write written (standing state buffer)
unfolding after_write
write_stands true state buffer = refl
write_stands false state buffer = refl

pub write_held : (written : Bool) (state : State) → (write_after written state).held ≡ state.held
write_held true state = refl
write_held false state = refl

pub write_next : (written : Bool) (state : State) → (write_after written state).next ≡ state.next
write_next true state = refl
write_next false state = refl

-- the numbers of a read are those of the records that it and the bytes held over have
pub next_after : (job : Job) (s : Standing) (read : Read) →
    (after_read job s read).next ≤ s.next + worked_in job (length s.rest + length (bytes_in read))
unfolding after_read
next_after job s (came b) = rw (length-append s.rest b) (omega arith)
next_after job s ended = omega arith
next_after job s interrupted = omega arith
next_after job s failed = omega arith

pub held_after_lem : (job : Job) (held : ℕ) (read : Read) → held_after job held read ≤ held + length (bytes_in read)
held_after_lem job held (came b) = waiting_few job (held + length b)
held_after_lem job held ended = omega arith
held_after_lem job held interrupted = omega arith
held_after_lem job held failed = omega arith
