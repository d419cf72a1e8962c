-- What the program `reproject` writes of a whole input, and how its length shows that it is all.
use Rattle.std.specs.Prelude.{List, ◌∷◌, ◌≡◌, ℕ, ◌+◌, ◌*◌, ◌/◌, ◌≤◌, ◌<◌, length, take, drop}
use Rattle.reprojection.specs.Reprojected.{reprojected}
use Rattle.reprojection.specs.All.{reprojected_all}
use Rattle.jobs.specs.declared.Job.TheVariants.{Reproject}
use Rattle.stream.specs.declared.state.Phase.TheVariants.{Reading, Ended}
use Rattle.stream.specs.Run.{Turn, offered, standing_of, input_of, written_of}

-- what a run has read and what it has written, by how many arguments it has and its turns
abbrev pub input : ℕ → List Turn → List ℕ
input = input_of Reproject

abbrev pub written : ℕ → List Turn → List ℕ
written = written_of Reproject

pub record ReprojectedRuns : Type 0 where
  -- as many bytes as the input: each record of 16 bytes by itself, and a short tail unchanged
  pub length_same : (s : List ℕ) → length (reprojected_all s) ≡ length s
  pub record_by_record : (s : List ℕ) (i : ℕ) → i < length s / 16 →
      take 16 (drop (16 * i) (reprojected_all s)) ≡ reprojected (take 16 (drop (16 * i) s))
  pub tail_same : (s : List ℕ) → drop (16 * (length s / 16)) (reprojected_all s) ≡ drop (16 * (length s / 16)) s
  -- a run that ended has written that of all that it read, however its reads cut it
  pub ended : (arguments : ℕ) (turns : List Turn) → (standing_of Reproject arguments turns).phase ≡ Ended →
      written arguments turns ≡ reprojected_all (input arguments turns)
  -- no run has written more than it has read, and one that has written as much has written all of that
  pub no_longer : (arguments : ℕ) (turns : List Turn) → length (written arguments turns) ≤ length (input arguments turns)
  pub equal_lengths : (arguments : ℕ) (turns : List Turn) → length (written arguments turns) ≡ length (input arguments turns) →
      written arguments turns ≡ reprojected_all (input arguments turns)
  -- nor would it have with all that a turn offers, so that a run whose write failed on the way has written less
  pub offered_fits : (arguments : ℕ) (turns : List Turn) (turn : Turn) → (standing_of Reproject arguments turns).phase ≡ Reading →
      length (written arguments turns) + length (offered Reproject (standing_of Reproject arguments turns) turn.read)
      ≤ length (input arguments (turn ∷ turns))
