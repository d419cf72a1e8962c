-- What a turn moves: the bytes of its read and what is offered to its write.
use mathlib.Core.Path.{◌≡◌, refl, sym, ap, subst, ◌∙◌}
use mathlib.Core.Bool.{cond}
use mathlib.Core.List.{List, [], ◌++◌, append-nil}
use Prim.Native.Nat.{ℕ, ◌+◌, ◌≤◌, ◌<◌}
use native.Mathlib.Omega.{arith}
use lib.IntN.{ℤ}
use lib.ListN.{length, take, drop}
use lib.Seq.{length-take-le, take_at}
use Rattle.std.specs.Prelude.{Option, Result, Ok, Err, IfOk, is_ok}
use Rattle.std.specs.Io.KnownBytes.{Appends, Consumes, ReadConsumes, IsAtEnd}
use Rattle.std.specs.Io.{ReadsAtMost}
use Rattle.std.proofs.lemmas.List.{take-append-le, drop_at}
use Rattle.std.proofs.lemmas.Result.{IfOk-weaker}
use Rattle.std.proofs.KnownBytes.{Consumes-nil, Consumes-kept}
use Rattle.report.specs.Block.{most_number}
use Rattle.jobs.specs.declared.Job.{Job}
use Rattle.stream.specs.declared.state.State.{State}
use Rattle.stream.specs.declared.state.Got.{Got}
use Rattle.stream.specs.declared.step.Step.{Step}
use Rattle.stream.specs.Run.{ended, bytes_in, offered}
use Rattle.stream.specs.Step.{came_to, bytes_of, read_in, standing, write_after, Follows}
use Rattle.filter.specs.Calls.{Sent}
use Rattle.filter.specs.Turns.{records, most, held_most, Room}
use Rattle.filter.specs.Moves.{IsPart, TurnMoves}
use Rattle.filter.proofs.Turns.{by_error, by_count, few_came, held_few, turns_behind, offered_is}

module _ (left left' : Option (List ℕ)) (space post : List ℕ) where
  -- the bytes of a read are taken, and an error brings none
  pub took_read : (came : Result ℕ ℤ) → ReadsAtMost came space → ReadConsumes left left' came space →
      Consumes left left' (bytes_in (read_in (came_to came) (space ++ post)))
  took_read (Ok n) m t =
      by_count (λ (g : Got). Consumes left left' (bytes_in (read_in g (space ++ post)))) n (λ z. rw z at t.0) (rw (take-append-le n space post m.0) t.0)
  took_read (Err error) m t =
      let none : Consumes left left' [] = Consumes-kept left left left' [] (Consumes-nil left) t in
      by_error (λ (g : Got). Consumes left left' (bytes_in (read_in g (space ++ post)))) none none error

  -- and is no end
  pub took_all : (came : Result ℕ ℤ) → 0 < length space → ReadConsumes left left' came space →
      read_in (came_to came) (space ++ post) ≡ ended → IsAtEnd left'
  took_all (Ok n) h t = by_count (λ (g : Got). read_in g (space ++ post) ≡ ended → IsAtEnd left') n (λ z q. t.1 z h) (λ q. cc)
  took_all (Err error) h t = by_error (λ (g : Got). read_in g (space ++ post) ≡ ended → IsAtEnd left') (λ q. cc) (λ q. cc) error

-- what a write left in the writer
pub sent_part : {E : Type 0} (r : Result (Unit {0}) E) (held held' : Option (List ℕ)) (offer : List ℕ) → Sent r held held' offer →
    (part : List ℕ) × IsPart (is_ok r) offer part × Appends held held' (cond (is_ok r) offer [] ++ part)
sent_part (Ok x) held held' offer s = ([], refl, rw (append-nil offer) s)
sent_part (Err e) held held' offer s =
    let (k, l, a) = s in
    let n : length (take k offer) ≡ k = length-take-le k offer (omega arith) in
    (take k offer, (omega arith, ap (λ (i : ℕ). take i offer) (sym n)), a)

-- a turn went as a run's does, and moved what it should
module _ (job : Job) (state : State) (before space post text : List ℕ) (came : Result ℕ ℤ) (left left' : Option (List ℕ)) where
  -- the buffer after the read
  abbrev after : List ℕ
  after = take state.held before ++ (space ++ post)

  pub turn_moves : (got : Got) (step : Step) (buffer' text' : List ℕ) (sent : Result (Unit {0}) ℤ) (next : State) (held held' : Option (List ℕ)) →
      length space ≡ most → length after ≡ length before → ReadsAtMost came space → ReadConsumes left left' came space →
      state.held ≤ held_most job → state.next + records ≤ most_number → Room before text →
      got ≡ came_to came → Follows job state got after text step buffer' text' → length buffer' ≡ length after →
      Sent sent held held' (take step.offered text') → next ≡ write_after (is_ok sent) step.state →
      TurnMoves job state before (record { state = next; came = came; sent = sent }) buffer' left left' held held'
  turn_moves got step buffer' text' sent next held held' size same bound bytes few small room g f long wrote n =
      let fits : state.held ≤ length before = omega (arith, room.bytes, held_few job) in
      let front : length (take state.held before) ≡ state.held = length-take-le state.held before fits in
      let stays : standing state after ≡ standing state before =
      ap (λ (rest : List ℕ). record { session = state.session; next = state.next; rest = rest; phase = state.phase })
      (take_at (take state.held before) (space ++ post) state.held front) in
      let behind : drop state.held after ≡ space ++ post = drop_at (take state.held before) (space ++ post) state.held front in
      let room' : Room after text = record { bytes = same ∙ room.bytes; lines = room.lines } in
      let most_came : IfOk came (λ n. n ≤ most) = rw size at (IfOk-weaker came _ (λ n. n ≤ length space) (λ n m. m.0) bound) in
      let k : bytes_of got ≤ most = rw g (few_came came most_came) in
      let (by, is) = turns_behind job state got before after text step buffer' text' came sent next g k few small room' long stays f n in
      let read : read_in (came_to came) by.behind ≡ read_in (came_to came) (space ++ post) = rw (is, behind) refl in
      let offer : take step.offered text' ≡ offered job (standing state before) (read_in (came_to came) (space ++ post)) =
      offered_is job state got before after text step buffer' text' k few small room' stays f ∙ rw (g, behind) refl in
      let (part, is_part, appended) = sent_part sent held held' (take step.offered text') wrote in
      record {
        by = by;
        moves = rw read record {
          took = took_read left left' space post came bound bytes;
          all = took_all left left' space post came (omega (arith, size)) bytes;
          part = part;
          is_part = subst (λ (o : List ℕ). IsPart (is_ok sent) o part) offer is_part;
          wrote = subst (λ (o : List ℕ). Appends held held' (cond (is_ok sent) o [] ++ part)) offer appended;
        };
      }
