-- What a run has written, by its phase.
use mathlib.Core.Path.{◌≡◌, refl, sym, ap, ◌∙◌}
use mathlib.Core.Bool.{Bool, true, false, cond}
use mathlib.Core.List.{List, [], ◌∷◌, ◌++◌, append-nil}
use Prim.Native.Nat.{ℕ, ◌+◌, ◌≤◌, ◌<◌}
use native.Mathlib.Nat.{add_assoc}
use borrow.Author.Tests.{le-leb, lt-leb}
use lib.Dec.{leb}
use lib.ListN.{length}
use Rattle.session.specs.Session.{opened}
use Rattle.report.specs.Program.{first_number}
use Rattle.jobs.specs.declared.Job.{Job}
use Rattle.jobs.specs.Job.{block_of, session_of, worked_in, waiting_of, takes_in}
use Rattle.jobs.proofs.Jobs.{block_more, session_more, worked_more, waiting_more, takes_more, takes_before, session_none, block_none, worked_none, waiting_none, takes_none_lem, result_is, nothing_written}
use Rattle.stream.specs.declared.state.Phase.{Phase}
use Rattle.stream.specs.declared.state.Phase.TheVariants.{Reading, Ended, NotStarted, NotRead, NotWritten, TooLong}
use Rattle.stream.specs.Run.{Standing, start, phase_at_start, Read, came, ended, interrupted, failed, bytes_in, offered, after_read, after_write, Turn, turned, go_on, standing_of, input_of, written_of, Wrote, RunsWrite, GoesOn, AllGoOn, RunsEnd}

-- ---- what a run has written

-- a run that goes on stands as the job leaves it behind what was read
record Stands (job : Job) (s : Standing) (input written : List ℕ) : Type 0 where
  session : s.session ≡ session_of job opened input
  next : s.next ≡ first_number + worked_in job (length input)
  rest : s.rest ≡ waiting_of job input
  takes : takes_in job (length input) ≡ true
  wrote : written ≡ block_of job opened first_number input

-- one that ended has the bytes that waited then; all have written what they should
abbrev Kept : Job → Phase → Standing → List ℕ → List ℕ → Type 0
Kept job Reading s input written = Stands job s input written
Kept job Ended s input written = (s.rest ≡ waiting_of job input) × Wrote job Ended input written
Kept job NotStarted s input written = Wrote job NotStarted input written
Kept job NotRead s input written = Wrote job NotRead input written
Kept job NotWritten s input written = Wrote job NotWritten input written
Kept job TooLong s input written = Wrote job TooLong input written

-- bytes that came are taken, or too many
kept_bytes : (job : Job) (s s' : Standing) (input written b : List ℕ) → Stands job s input written →
    s'.session ≡ session_of job s.session (s.rest ++ b) → s'.next ≡ s.next + worked_in job (length (s.rest ++ b)) →
    s'.rest ≡ waiting_of job (s.rest ++ b) → (all : Bool) → takes_in job (length (s.rest ++ b)) ≡ all →
    Kept job (cond all Reading TooLong) s' (input ++ b) (written ++ block_of job s.session s.next (s.rest ++ b))
kept_bytes job s s' input written b k e n w true a =
    record {
      session = e ∙ rw (k.session, k.rest) (sym (session_more input b opened job));
      next = n ∙ rw (k.next, k.rest, worked_more input b job)
          (add_assoc first_number (worked_in job (length input)) (worked_in job (length (waiting_of job input ++ b))));
      rest = w ∙ rw k.rest (sym (waiting_more input b job));
      takes = takes_more input b job ∙ rw k.rest at a;
      wrote = rw (k.wrote, k.session, k.next, k.rest) (sym (block_more input b opened first_number job));
    }
kept_bytes job s s' input written b k e n w false a =
    let no : takes_in job (length (input ++ b)) ≡ false = takes_more input b job ∙ rw k.rest at a in
    (no, rw (k.wrote, nothing_written job opened first_number input (input ++ b) no) (nothing_written job s.session s.next (s.rest ++ b) (input ++ b) no))

kept_read : (job : Job) (s : Standing) (input written : List ℕ) (read : Read) → s.phase ≡ Reading → Stands job s input written →
    Kept job (after_read job s read).phase (after_read job s read) (input ++ bytes_in read) (written ++ offered job s read)
unfolding after_read offered
kept_read job s input written (came b) e k =
    kept_bytes job s (after_read job s (came b)) input written b k refl refl refl (takes_in job (length (s.rest ++ b))) refl
kept_read job s input written ended e k =
    rw (append-nil input) (k.rest, (k.takes, rw (k.wrote, k.session, k.next, k.rest) (result_is job input)))
kept_read job s input written interrupted e k =
    rw (e, append-nil input, append-nil written)
    (record { session = k.session; next = k.next; rest = k.rest; takes = k.takes; wrote = k.wrote })
kept_read job s input written failed e k = rw (append-nil input, append-nil written) k.wrote

kept_turn : (job : Job) (s : Standing) (input written : List ℕ) (turn : Turn) (all : Bool) → turn.written ≡ all → s.phase ≡ Reading →
    Stands job s input written → let s' = turned job s turn in
    Kept job s'.phase s' (input ++ bytes_in turn.read) (written ++ cond all (offered job s turn.read) [])
unfolding after_write
kept_turn job s input written turn true a e k = rw a (kept_read job s input written turn.read e k)
kept_turn job s input written turn false a e k =
    rw a (record { before = input; last = bytes_in turn.read; input_is = refl; written_is = append-nil written ∙ k.wrote })

kept_on : (job : Job) (s : Standing) (input written : List ℕ) (turn : Turn) (phase : Phase) → s.phase ≡ phase → Kept job phase s input written →
    let s' = go_on phase s (turned job s turn) in
    Kept job s'.phase s' (go_on phase input (input ++ bytes_in turn.read))
    (go_on phase written (written ++ cond turn.written (offered job s turn.read) []))
kept_on job s input written turn Reading e k = kept_turn job s input written turn turn.written refl e k
kept_on job s input written turn Ended e k = rw e k
kept_on job s input written turn NotStarted e k = rw e k
kept_on job s input written turn NotRead e k = rw e k
kept_on job s input written turn NotWritten e k = rw e k
kept_on job s input written turn TooLong e k = rw e k

begins : (job : Job) (arguments : ℕ) → Kept job (phase_at_start arguments) (start arguments) [] []
begins job arguments = go (leb arguments 1)
  where
    go : (few : Bool) → Kept job (cond few Reading NotStarted) (start arguments) [] []
    go true =
        record {
          session = session_none job;
          next = worked_none job;
          rest = waiting_none job;
          takes = takes_none_lem job;
          wrote = block_none job;
        }
    go false = (refl, refl)

kept : (job : Job) (arguments : ℕ) (turns : List Turn) → let s = standing_of job arguments turns in
    Kept job s.phase s (input_of job arguments turns) (written_of job arguments turns)
unfolding standing_of input_of written_of
kept job arguments [] = begins job arguments
kept job arguments (turn ∷ earlier) =
    let s = standing_of job arguments earlier in
    kept_on job s (input_of job arguments earlier) (written_of job arguments earlier) turn s.phase refl (kept job arguments earlier)

wrote_kept : (job : Job) (phase : Phase) (s : Standing) (input written : List ℕ) → Kept job phase s input written → Wrote job phase input written
wrote_kept job Reading s input written k = k.wrote
wrote_kept job Ended s input written k = k.1
wrote_kept job NotStarted s input written k = k
wrote_kept job NotRead s input written k = k
wrote_kept job NotWritten s input written k = k
wrote_kept job TooLong s input written k = k

pub runs_write : RunsWrite
runs_write job arguments turns =
    let s = standing_of job arguments turns in
    wrote_kept job s.phase s (input_of job arguments turns) (written_of job arguments turns) (kept job arguments turns)

-- ---- that runs end

pub taken : {A : Type 0} (phase : Phase) (before after : A) → phase ≡ Reading → go_on phase before after ≡ after
taken phase before after e = rw e

started : (arguments : ℕ) → arguments ≤ 1 → phase_at_start arguments ≡ Reading
started arguments h = rw (le-leb arguments 1 h)

module _ (job : Job) (arguments : ℕ) where
  -- what a run that reads has stands for
  reads : (turns : List Turn) → (standing_of job arguments turns).phase ≡ Reading →
      Stands job (standing_of job arguments turns) (input_of job arguments turns) (written_of job arguments turns)
  unfolding standing_of
  reads turns e = rw e at (kept job arguments turns)

  -- a turn that goes on leaves a run reading, or it has read too much
  turned_on : (turn : Turn) (turns : List Turn) → (standing_of job arguments turns).phase ≡ Reading → GoesOn turn.read → turn.written ≡ true →
      (all : Bool) → takes_in job (length (input_of job arguments turns ++ bytes_in turn.read)) ≡ all →
      (standing_of job arguments (turn ∷ turns)).phase ≡ cond all Reading TooLong
  unfolding standing_of after_read after_write
  turned_on turn turns e g w all a =
      let s = standing_of job arguments turns in
      ap (λ (t : Standing). t.phase) (taken s.phase s (turned job s turn) e) ∙ rw w (read_on turn.read g a)
    where
      read_on : (read : Read) → GoesOn read → takes_in job (length (input_of job arguments turns ++ bytes_in read)) ≡ all →
          (after_write true (after_read job (standing_of job arguments turns) read)).phase ≡ cond all Reading TooLong
      read_on (came b) g a =
          let k = reads turns e in
          let n : takes_in job (length ((standing_of job arguments turns).rest ++ b)) ≡ all =
          rw k.rest (sym (takes_more (input_of job arguments turns) b job) ∙ a) in
          rw n
      read_on ended g a = absurd g
      read_on interrupted g a =
          let k = reads turns e in
          let n : true ≡ all = sym k.takes ∙ rw (append-nil (input_of job arguments turns)) at a in
          rw (← n) e
      read_on failed g a = absurd g

  -- what was read before is a part of what was read
  takes_earlier : (phase : Phase) (input more : List ℕ) → takes_in job (length (go_on phase input (input ++ more))) ≡ true →
      takes_in job (length input) ≡ true
  takes_earlier Reading input more a = takes_before input more job a
  takes_earlier Ended input more a = a
  takes_earlier NotStarted input more a = a
  takes_earlier NotRead input more a = a
  takes_earlier NotWritten input more a = a
  takes_earlier TooLong input more a = a

  goes_on : (turns : List Turn) → arguments ≤ 1 → AllGoOn turns → takes_in job (length (input_of job arguments turns)) ≡ true →
      (standing_of job arguments turns).phase ≡ Reading
  unfolding input_of standing_of
  goes_on [] h g a = started arguments h
  goes_on (turn ∷ earlier) h g a =
      let s = standing_of job arguments earlier in
      let input = input_of job arguments earlier in
      let more = bytes_in turn.read in
      let e = goes_on earlier h g.2 (takes_earlier s.phase input more a) in
      turned_on turn earlier e g.0 g.1 true (rw (taken s.phase input (input ++ more) e) at a)

  ends : (turns : List Turn) → arguments ≤ 1 → AllGoOn turns → takes_in job (length (input_of job arguments turns)) ≡ true →
      (standing_of job arguments (record { read = ended; written = true } ∷ turns)).phase ≡ Ended
  unfolding standing_of after_read after_write
  ends turns h g a = rw (goes_on turns h g a)

  stops : (turn : Turn) (turns : List Turn) → arguments ≤ 1 → AllGoOn (turn ∷ turns) → takes_in job (length (input_of job arguments turns)) ≡ true →
      takes_in job (length (input_of job arguments turns ++ bytes_in turn.read)) ≡ false →
      (standing_of job arguments (turn ∷ turns)).phase ≡ TooLong
  stops turn turns h g a b = turned_on turn turns (goes_on turns h g.2 a) g.0 g.1 false b

  rests : (turns : List Turn) → (standing_of job arguments turns).phase ≡ Ended →
      (standing_of job arguments turns).rest ≡ waiting_of job (input_of job arguments turns)
  rests turns e = (rw e at (kept job arguments turns)).0

  never_starts : (turns : List Turn) → 1 < arguments → (standing_of job arguments turns).phase ≡ NotStarted
  unfolding standing_of
  never_starts [] h = rw (lt-leb arguments 1 h)
  never_starts (turn ∷ earlier) h = rw (never_starts earlier h)

pub runs_end : (job : Job) → RunsEnd job
runs_end job = record { goes_on = goes_on job; stops = stops job; ends = ends job; rests = rests job; never_starts = never_starts job }
