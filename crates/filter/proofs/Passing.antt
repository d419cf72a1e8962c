-- What a run took and wrote, turn by turn.
use mathlib.Core.Path.{◌≡◌, refl, sym, ap, subst, ◌∙◌}
use mathlib.Core.Bool.{Bool, true, false, cond}
use mathlib.Core.List.{List, [], ◌∷◌, ◌++◌, append-nil, append_assoc}
use Prim.Native.Nat.{ℕ}
use lib.Dec.{leb}
use lib.ListN.{length}
use Rattle.std.specs.Prelude.{Option, Some, None}
use Rattle.std.specs.Io.KnownBytes.{Appends, Consumes, IsAtEnd}
use Rattle.jobs.specs.declared.Job.{Job}
use Rattle.jobs.specs.Job.{takes_in}
use Rattle.stream.specs.declared.state.Phase.{Phase}
use Rattle.stream.specs.declared.state.Phase.TheVariants.{Reading, Ended, NotStarted, NotRead, NotWritten, TooLong}
use Rattle.stream.specs.Run.{Standing, Read, came, ended, interrupted, failed, bytes_in, Turn, offered, turned, go_on, after_read, after_write, phase_at_start, start, standing_of, input_of, written_of, Wrote}
use Rattle.stream.proofs.Runs.{runs_write}
use Rattle.filter.specs.Moves.{IsPart, Moves, last_offered, last_written, Passes, EndedRunsPass}
use Rattle.std.proofs.KnownBytes.{Appends-nil, Appends-trans, Consumes-nil, Consumes-trans}
use Rattle.filter.proofs.Turns.{goes_on_to}

-- before the first turn
start_no_end : (arguments : ℕ) → phase_at_start arguments ≡ Ended → ⊥
start_no_end arguments = go (leb arguments 1)
  where
    go : (few : Bool) → cond few Reading NotStarted ≡ Ended → ⊥
    go true e = cc
    go false e = cc

pub passes_none : (job : Job) (arguments : ℕ) (s : Standing) (left held : Option (List ℕ)) → s ≡ start arguments →
    (p : Passes job arguments s left left held held) × (p.part ≡ [])
unfolding standing_of input_of written_of last_offered last_written
passes_none job arguments s left held e = (
  record {
    turns = [];
    stands = e;
    took = Consumes-nil left;
    all = λ p. absurd (start_no_end arguments (ap (λ (x : Standing). x.phase) (sym e) ∙ p));
    part = [];
    is_part = refl;
    wrote = Appends-nil held;
  },
  refl,
)

-- a turn of a run that reads ends it only by a read that found the end
ended_read : (job : Job) (s : Standing) (turn : Turn) → s.phase ≡ Reading → (turned job s turn).phase ≡ Ended → turn.read ≡ ended
unfolding after_read after_write
ended_read job s turn reading e = written turn.written e
  where
    by_read : (read : Read) → (after_read job s read).phase ≡ Ended → read ≡ ended
    by_read (came b) e = go (takes_in job (length (s.rest ++ b))) e
      where
        go : (all : Bool) → cond all Reading TooLong ≡ Ended → came b ≡ ended
        go true e = cc
        go false e = cc
    by_read ended e = refl
    by_read interrupted e = cc
    by_read failed e = cc

    written : (w : Bool) → (after_write w (after_read job s turn.read)).phase ≡ Ended → turn.read ≡ ended
    written true e = by_read turn.read e
    written false e = cc

-- a run that reads on has written all that was offered
reading_whole : (w : Bool) (s : Standing) (offer part : List ℕ) → (after_write w s).phase ≡ Reading → IsPart w offer part → part ≡ []
unfolding after_write
reading_whole true s offer part e p = p
reading_whole false s offer part e p = cc

module _ (job : Job) (arguments : ℕ) (turn : Turn) where
  pub passes_more : (s s' : Standing) (left left' left'' held held' held'' : Option (List ℕ)) (p : Passes job arguments s left left' held held') →
      s.phase ≡ Reading → p.part ≡ [] → s' ≡ turned job s turn → Moves job s turn left' left'' held' held'' →
      (q : Passes job arguments s' left left'' held held'') × (s'.phase ≡ Reading → q.part ≡ [])
  unfolding standing_of input_of written_of last_offered last_written
  passes_more s s' left left' left'' held held' held'' p reading none e m =
      let before = standing_of job arguments p.turns in
      let phase : before.phase ≡ Reading = ap (λ (x : Standing). x.phase) (sym p.stands) ∙ reading in
      let input = input_of job arguments p.turns in
      let written = written_of job arguments p.turns in
      let more : List ℕ = cond turn.written (offered job before turn.read) [] in
      let offer : offered job s turn.read ≡ offered job before turn.read = ap (λ (x : Standing). offered job x turn.read) p.stands in
      let wrote : Appends held' held'' (more ++ m.part) = subst (λ (o : List ℕ). Appends held' held'' (cond turn.written o [] ++ m.part)) offer m.wrote in
      let earlier : Appends held held' written = subst (Appends held held') (ap (λ (l : List ℕ). written ++ l) none ∙ append-nil written) p.wrote in (
        record {
          turns = turn ∷ p.turns;
          stands = goes_on_to job s before s' turn e p.stands reading;
          took = rw phase (Consumes-trans left left' left'' input (bytes_in turn.read) p.took m.took);
          all = λ q. m.all (ended_read job s turn reading (ap (λ (x : Standing). x.phase) (sym e) ∙ q));
          part = m.part;
          is_part = rw phase (subst (λ (o : List ℕ). IsPart turn.written o m.part) offer m.is_part);
          wrote = rw phase (subst (Appends held held'') (sym (append_assoc written more m.part))
              (Appends-trans held held' held'' written (more ++ m.part) earlier wrote));
        },
        λ q. reading_whole turn.written (after_read job s turn.read) (offered job s turn.read) m.part (ap (λ (x : Standing). x.phase) (sym e) ∙ q) m.is_part,
      )

-- ---- a run that ended

-- a turn that is not the end is none
ended_turn : (job : Job) (s : Standing) (turn : Turn) (phase : Phase) (before : Bool) → s.phase ≡ phase → (s.phase ≡ Ended → before ≡ true) →
    (go_on phase s (turned job s turn)).phase ≡ Ended → go_on phase before turn.written ≡ true
unfolding after_write
ended_turn job s turn Reading before e h q = written turn.written q
  where
    written : (w : Bool) → (after_write w (after_read job s turn.read)).phase ≡ Ended → w ≡ true
    written true q = refl
    written false q = cc
ended_turn job s turn Ended before e h q = h e
ended_turn job s turn NotStarted before e h q = cc
ended_turn job s turn NotRead before e h q = cc
ended_turn job s turn NotWritten before e h q = cc
ended_turn job s turn TooLong before e h q = cc

module _ (job : Job) (arguments : ℕ) where
  ended_written : (turns : List Turn) → (standing_of job arguments turns).phase ≡ Ended → last_written job arguments turns ≡ true
  unfolding standing_of last_written
  ended_written [] e = refl
  ended_written (turn ∷ earlier) e =
      let s = standing_of job arguments earlier in
      ended_turn job s turn s.phase (last_written job arguments earlier) refl (ended_written earlier) e

all_taken : (xs input : List ℕ) (left' : Option (List ℕ)) → Consumes (Some xs) left' input → IsAtEnd left' → xs ≡ input
all_taken xs input None c a = absurd c
all_taken xs input (Some rest) c a = c ∙ ap (λ (l : List ℕ). input ++ l) a ∙ append-nil input

all_written : (held written : List ℕ) (held' : Option (List ℕ)) → Appends (Some held) held' (written ++ []) → held' ≡ Some (held ++ written)
all_written held written None a = absurd a
all_written held written (Some all) a = ap Some (a ∙ ap (λ (l : List ℕ). held ++ l) (append-nil written))

pub ended_runs_pass : EndedRunsPass
ended_runs_pass job arguments s input held left' held' p e =
    let phase : (standing_of job arguments p.turns).phase ≡ Ended = ap (λ (x : Standing). x.phase) (sym p.stands) ∙ e in
    let wrote = subst (λ (x : Phase). Wrote job x (input_of job arguments p.turns) (written_of job arguments p.turns)) phase (runs_write job arguments p.turns) in
    let none : p.part ≡ [] = rw (ended_written job arguments p.turns phase) at p.is_part in
    let read : input ≡ input_of job arguments p.turns = all_taken input (input_of job arguments p.turns) left' p.took (p.all e) in
    let all : held' ≡ Some (held ++ written_of job arguments p.turns) =
    all_written held (written_of job arguments p.turns) held' (subst (λ (l : List ℕ). Appends (Some held) held' (written_of job arguments p.turns ++ l)) none p.wrote) in
    (rw read wrote.0, all ∙ rw (wrote.1, read) refl)
