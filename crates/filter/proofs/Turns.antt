-- The turns of a run: the room of a read, and the turns that are left.
use mathlib.Core.Path.{◌≡◌, refl, sym, ap, ◌∙◌}
use mathlib.Core.Bool.{Bool, true, false, cond}
use mathlib.Core.List.{List, ◌++◌}
use Prim.Native.Nat.{ℕ, ◌+◌, ◌*◌, ◌/◌, ◌≤◌}
use native.Mathlib.Omega.{arith}
use borrow.Author.Tests.{le-leb, leb-true, eqb-true}
use lib.Dec.{eqb}
use lib.IntN.{ℤ, pos, negsuc}
use lib.ListN.{length, take, drop, length-append, length-take}
use lib.Seq.{length-take-le, take_at}
use Rattle.std.specs.Prelude.{Result, Ok, Err, IfOk, is_ok}
use Rattle.record.specs.Record.{size}
use Rattle.digits.specs.Put.{put_at, put_front, Put}
use Rattle.digits.proofs.Puts.{put_front_lem}
use Rattle.torn.specs.Pieces.{most as longest}
use Rattle.lines.specs.Line.{line_room}
use Rattle.report.specs.Block.{most_number}
use Rattle.report.specs.Program.{end_room}
use Rattle.report.proofs.Blocks.{lines_do_fit}
use Rattle.jobs.specs.declared.Job.{Job}
use Rattle.jobs.specs.declared.Job.TheVariants.{Convert, Reproject, Salvage}
use Rattle.jobs.specs.Job.{worked_in, waiting_in, takes_in, lines_room, room_for}
use Rattle.stream.specs.declared.state.Phase.TheVariants.{Reading, TooLong}
use Rattle.stream.specs.declared.state.State.{State}
use Rattle.stream.specs.declared.state.Got.{Got}
use Rattle.stream.specs.declared.state.Got.TheVariants.{Bytes, End, Interrupted, Failed}
use Rattle.stream.specs.declared.step.Step.{Step}
use Rattle.stream.specs.Run.{Standing, Read, came, ended, interrupted, failed, bytes_in, Turn, offered, turned, go_on, after_read, after_write}
use Rattle.stream.specs.Step.{eintr, came_to, got_by_error, bytes_of, with_room, read_in, standing, held_after, write_after, Follows, FollowsBy}
use Rattle.stream.proofs.Steps.{write_stands, write_held, write_next, next_after, held_after_lem}
use Rattle.filter.specs.Turns.{records, most, held_most, Room, TurnsBy}

-- ---- the room of a read

-- what holds of each case holds of what a read came to: an error is an interruption or a failure, and only no bytes are the end
module _ (P : Got → Type 0) where
  pub by_error : P Interrupted → P Failed → (error : ℤ) → P (got_by_error error)
  by_error i f (pos n) = go (eqb n eintr)
    where
      go : (b : Bool) → P (cond b Interrupted Failed)
      go true = i
      go false = f
  by_error i f (negsuc n) = f

  pub by_count : (n : ℕ) → (n ≡ 0 → P End) → P (Bytes n) → P (came_to (Ok n))
  by_count n e b = go (eqb n 0) refl
    where
      go : (none : Bool) → eqb n 0 ≡ none → P (cond none End (Bytes n))
      go true q = e (eqb-true n 0 q)
      go false q = b

-- as many bytes as were asked for, at most
pub few_came : (answer : Result ℕ ℤ) → IfOk answer (λ n. n ≤ most) → bytes_of (came_to answer) ≤ most
few_came (Ok n) m = by_count (λ (g : Got). bytes_of g ≤ most) n (λ z. omega arith) m
few_came (Err error) m = by_error (λ (g : Got). bytes_of g ≤ most) (omega arith) (omega arith) error

-- a job holds no more over than the longest torn file
pub held_few : (job : Job) → held_most job ≤ longest
held_few Convert = omega arith
held_few Reproject = omega arith
held_few Salvage = omega arith

-- there is always room
lines_room_lem : (next held count text : ℕ) → held ≤ 15 → count ≤ most → next + records ≤ most_number → text ≡ line_room * records →
    lines_room next (held + count) text ≡ true
lines_room_lem next held count text h k i t =
    rw (lines_do_fit next ((held + count) / size) text (omega arith) (omega arith), le-leb end_room text (omega arith))

room_for_lem : (job : Job) (next held count text : ℕ) → held ≤ held_most job → count ≤ most → next + records ≤ most_number → text ≡ line_room * records →
    room_for job next (held + count) text ≡ true
room_for_lem Convert next held count text h k i t = lines_room_lem next held count text h k i t
room_for_lem Reproject next held count text h k i t = lines_room_lem next held count text h k i t
room_for_lem Salvage next held count text h k i t = le-leb (held + count) text (omega arith)

pub with_room_lem : (job : Job) (got : Got) (state : State) (buffer text : ℕ) → bytes_of got ≤ most → state.held ≤ held_most job →
    state.next + records ≤ most_number → buffer ≡ longest + most → text ≡ line_room * records → with_room job got state buffer text ≡ got
with_room_lem job got state buffer text k h i b t =
    let count : ℕ = bytes_of got in
    rw (
      le-leb (state.held + count) buffer (omega (arith, held_few job)),
      room_for_lem job state.next state.held count text h k i t,
    )

-- the bytes that a read brought
few_bytes : (got : Got) (behind : List ℕ) → length (bytes_in (read_in got behind)) ≤ bytes_of got
few_bytes (Bytes n) behind = omega (arith, length-take n behind)
few_bytes End behind = omega arith
few_bytes Interrupted behind = omega arith
few_bytes Failed behind = omega arith

-- what is offered stands in the text
pub offered_there : {o text text' : List ℕ} {n : ℕ} → Put text 0 o n text' → n ≤ length text'
unfolding put_at
offered_there {o} {text} {text'} {n} h = let l = length-append o (drop (0 + length o) text) in rw h.holds (omega (arith, h.behind))

pub offered_long : {o text text' : List ℕ} {n : ℕ} → Put text 0 o n text' → n ≡ length (take n text')
offered_long {n = n} h = sym (length-take-le n _ (offered_there h))

offered_front : {o text text' : List ℕ} {n : ℕ} → Put text 0 o n text' → take n text' ≡ o
unfolding put_front
offered_front {o} {text} h =
    let (k, e) = put_front_lem h in
    rw e (take_at o (drop (length o) text) _ (sym k))

-- a job that goes on reading holds over what it may
few_over : (job : Job) (n : ℕ) → takes_in job n ≡ true → waiting_in job n ≤ held_most job
few_over Convert n e = omega arith
few_over Reproject n e = omega arith
few_over Salvage n e = leb-true n longest e

few_after : (job : Job) (s : Standing) (held : ℕ) (read : Read) → length s.rest ≡ held → held ≤ held_most job →
    (after_read job s read).phase ≡ Reading → held_after job held read ≤ held_most job
unfolding after_read
few_after job s held (came b) l h e =
    let n : length (s.rest ++ b) ≡ held + length b = length-append s.rest b ∙ ap (λ (k : ℕ). k + length b) l in
    few_over job (held + length b) (go (takes_in job (held + length b)) (rw n at e))
  where
    go : (all : Bool) → cond all Reading TooLong ≡ Reading → all ≡ true
    go true e = refl
    go false e = cc
few_after job s held ended l h e = h
few_after job s held interrupted l h e = h
few_after job s held failed l h e = h

-- and works on no more records than a read has
few_worked : (job : Job) (held count : ℕ) → held ≤ held_most job → count ≤ most → worked_in job (held + count) ≤ records
few_worked Convert held count h k = omega arith
few_worked Reproject held count h k = omega arith
few_worked Salvage held count h k = omega arith

-- a write that fails stops the run
write_phase : (written : Bool) (state : State) → (write_after written state).phase ≡ Reading → state.phase ≡ Reading
write_phase true state e = e
write_phase false state e = cc

-- ---- a turn

module _ (job : Job) (state : State) (got : Got) (before after text : List ℕ) (step : Step) (buffer' text' : List ℕ) where
  -- what follows the read has room, and is what the run's read comes to
  read_follows : bytes_of got ≤ most → state.held ≤ held_most job → state.next + records ≤ most_number → Room after text →
      Follows job state got after text step buffer' text' →
      FollowsBy job state (read_in got (drop state.held after)) after text step buffer' text'
  read_follows k few small room f = rw (with_room_lem job got state (length after) (length text) k few small room.bytes room.lines) at f

  -- with the bytes that stood behind those held over
  pub turns_behind : (answer : Result ℕ ℤ) (sent : Result (Unit {0}) ℤ) (next : State) → got ≡ came_to answer → bytes_of got ≤ most →
      state.held ≤ held_most job → state.next + records ≤ most_number → Room after text →
      length buffer' ≡ length after → standing state after ≡ standing state before →
      Follows job state got after text step buffer' text' → next ≡ write_after (is_ok sent) step.state →
      (by : TurnsBy job state before (record { state = next; came = answer; sent = sent }) buffer') × (by.behind ≡ drop state.held after)
  turns_behind answer sent next g k few small room same stays f n =
      let written : Bool = is_ok sent in
      let read : Read = read_in got (drop state.held after) in
      let i : FollowsBy job state read after text step buffer' text' = read_follows k few small room f in
      let came_few = few_bytes got (drop state.held after) in
      let rest : length (take state.held after) ≡ state.held = length-take-le state.held after (omega (arith, held_few job, room.bytes)) in
      let numbers : step.state.next ≤ state.next + records =
      omega (
        arith,
        ap (λ (s : Standing). s.next) i.stands,
        next_after job (standing state after) read,
        few_worked job (length (take state.held after)) (length (bytes_in read)) (omega (arith, rest, few)) (omega (arith, came_few, k)),
      ) in (
        record {
          behind = drop state.held after;
          stands = rw (n, ← g)
              (write_stands written step.state buffer'
              ∙ ap (after_write written) (i.stands ∙ ap (λ (x : Standing). after_read job x read) stays));
          few = λ p.
              rw n
              (rw (write_held written step.state, i.held)
              (few_after job (standing state after) state.held read rest few
              (sym (ap (λ (s : Standing). s.phase) i.stands) ∙ write_phase written step.state (sym (ap (λ (s : State). s.phase) n) ∙ p))));
          inside = rw n
              (rw (write_held written step.state, i.held, same)
              (omega (arith, held_after_lem job state.held read, few, held_few job, came_few, k, room.bytes)));
          numbered = rw n (rw (write_next written step.state) numbers);
        },
        refl,
      )

  pub turns_by : (answer : Result ℕ ℤ) (sent : Result (Unit {0}) ℤ) (next : State) → got ≡ came_to answer → bytes_of got ≤ most →
      state.held ≤ held_most job → state.next + records ≤ most_number → Room after text →
      length buffer' ≡ length after → standing state after ≡ standing state before →
      Follows job state got after text step buffer' text' → next ≡ write_after (is_ok sent) step.state →
      TurnsBy job state before (record { state = next; came = answer; sent = sent }) buffer'
  turns_by answer sent next g k few small room same stays f n = (turns_behind answer sent next g k few small room same stays f n).0

  -- what is to be written after it
  pub offered_is : bytes_of got ≤ most → state.held ≤ held_most job → state.next + records ≤ most_number → Room after text →
      standing state after ≡ standing state before → Follows job state got after text step buffer' text' →
      take step.offered text' ≡ offered job (standing state before) (read_in got (drop state.held after))
  offered_is k few small room stays f =
      let read : Read = read_in got (drop state.held after) in
      let i : FollowsBy job state read after text step buffer' text' = read_follows k few small room f in
      offered_front i.offers ∙ ap (λ (s : Standing). offered job s read) stays

-- where a turn leads from there
pub goes_on_to : (job : Job) (s s' s'' : Standing) (turn : Turn) → s'' ≡ turned job s turn → s ≡ s' → s.phase ≡ Reading →
    s'' ≡ go_on s'.phase s' (turned job s' turn)
goes_on_to job s s' s'' turn t e reading = rw (t, ← e, reading)
