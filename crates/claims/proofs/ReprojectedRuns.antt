-- What the program `reproject` writes of a whole input, from what a run writes by its phase.
use mathlib.Core.List.{List, [], ◌∷◌, ◌++◌, append-nil}
use mathlib.Core.Logic.{◌⊎◌, inl, inr}
use mathlib.Core.Bool.{true, false≢true}
use mathlib.Core.Path.{◌≡◌, refl, sym, ap, subst, ◌∙◌}
use Prim.Native.Nat.{ℕ, ◌+◌, ◌≤◌}
use native.Mathlib.Omega.{arith}
use lib.ListN.{length, length-append}
use Rattle.record.specs.Records.{record_at, tail_of}
use Rattle.reprojection.specs.All.{first_reprojected, whole_reprojected, reprojected_all}
use Rattle.reprojection.proofs.Runs.{whole_long, all_long, all_record, all_tail, whole_all}
use Rattle.jobs.specs.declared.Job.TheVariants.{Reproject}
use Rattle.stream.specs.declared.state.Phase.{Phase}
use Rattle.stream.specs.declared.state.Phase.TheVariants.{Reading, Ended, NotStarted, NotRead, NotWritten, TooLong}
use Rattle.jobs.specs.Job.{block_of, result_of}
use Rattle.stream.specs.Run.{Turn, offered, standing_of, input_of, written_of, Wrote}
use Rattle.stream.proofs.Runs.{taken, runs_write}
use Rattle.claims.specs.ReprojectedRuns.{input, written, ReprojectedRuns}

-- a run has written all of its input, or the whole records of a first part of it
record Part (s w : List ℕ) : Type 0 where
  before : List ℕ
  last : List ℕ
  input_is : s ≡ before ++ last
  written_is : w ≡ whole_reprojected before

wrote : (phase : Phase) (s w : List ℕ) → Wrote Reproject phase s w → (w ≡ reprojected_all s) ⊎ Part s w
unfolding block_of result_of reprojected_all whole_reprojected first_reprojected tail_of
wrote Reading s w h = inr (record { before = s; last = []; input_is = sym (append-nil s); written_is = h })
wrote Ended s w h = inl h.1
wrote NotStarted s w h = inl (rw (h.0, h.1))
wrote NotRead s w h = inr (record { before = s; last = []; input_is = sym (append-nil s); written_is = h })
wrote NotWritten s w h = inr (record { before = h.before; last = h.last; input_is = h.input_is; written_is = h.written_is })
wrote TooLong s w h = absurd (false≢true (sym h.0))

-- the lengths of a first part and of its whole records
part_long : (s w : List ℕ) (p : Part s w) → (length w ≤ length p.before) × (length s ≡ length p.before + length p.last)
part_long s w p =
    let l = whole_long p.before in
    (rw p.written_is (omega arith), ap length p.input_is ∙ length-append p.before p.last)

none : (l : List ℕ) → length l ≡ 0 → l ≡ []
none [] e = refl
none (x ∷ l) e = absurd (omega arith)

no_longer : (s w : List ℕ) → (w ≡ reprojected_all s) ⊎ Part s w → length w ≤ length s
no_longer s w (inl e) = rw e (omega (arith, all_long s))
no_longer s w (inr p) = omega (arith, part_long s w p)

equal_lengths : (s w : List ℕ) → (w ≡ reprojected_all s) ⊎ Part s w → length w ≡ length s → w ≡ reprojected_all s
equal_lengths s w (inl e) l = e
equal_lengths s w (inr p) l =
    let n = part_long s w p in
    let e : s ≡ p.before = p.input_is ∙ ap (λ (t : List ℕ). p.before ++ t) (none p.last (omega (arith, n.0, n.1))) ∙ append-nil p.before in
    let m : length (whole_reprojected p.before) ≡ length p.before = omega (arith, n.0, n.1, ap length p.written_is) in
    p.written_is ∙ whole_all p.before m ∙ ap reprojected_all (sym e)

module _ (arguments : ℕ) (turns : List Turn) where
  way : (written arguments turns ≡ reprojected_all (input arguments turns)) ⊎ Part (input arguments turns) (written arguments turns)
  way = wrote (standing_of Reproject arguments turns).phase (input arguments turns) (written arguments turns) (runs_write Reproject arguments turns)

  ended : (standing_of Reproject arguments turns).phase ≡ Ended → written arguments turns ≡ reprojected_all (input arguments turns)
  unfolding result_of
  ended e =
      (subst (λ (phase : Phase). Wrote Reproject phase (input arguments turns) (written arguments turns)) e (runs_write Reproject arguments turns)).1

-- ---- what a turn offers

module _ (arguments : ℕ) (turns : List Turn) (turn : Turn) (e : (standing_of Reproject arguments turns).phase ≡ Reading) where
  -- the turn, had its write written all
  abbrev all : Turn
  all = record { read = turn.read; written = true }

  abbrev more : List ℕ
  more = offered Reproject (standing_of Reproject arguments turns) turn.read

  wrote_all : written arguments (all ∷ turns) ≡ written arguments turns ++ more
  unfolding written_of
  wrote_all = taken (standing_of Reproject arguments turns).phase (written arguments turns) (written arguments turns ++ more) e

  read_same : input arguments (all ∷ turns) ≡ input arguments (turn ∷ turns)
  unfolding input_of
  read_same = refl

  offered_fits : length (written arguments turns) + length more ≤ length (input arguments (turn ∷ turns))
  offered_fits =
      let h = no_longer (input arguments (all ∷ turns)) (written arguments (all ∷ turns)) (way arguments (all ∷ turns)) in
      omega (arith, h, ap length wrote_all, ap length read_same, length-append (written arguments turns) more)

pub reprojected_runs : ReprojectedRuns
unfolding record_at tail_of
reprojected_runs =
    record {
      length_same = all_long;
      record_by_record = all_record;
      tail_same = all_tail;
      ended = ended;
      no_longer = λ arguments turns. no_longer (input arguments turns) (written arguments turns) (way arguments turns);
      offered_fits = offered_fits;
      equal_lengths = λ arguments turns. equal_lengths (input arguments turns) (written arguments turns) (way arguments turns);
    }
