-- What the functions inside the crate promise each other.
use Rattle.std.specs.Prelude.{List, [], ◌∷◌, ◌≡◌, ℕ, zero, suc, ◌*◌, ◌/◌, ◌≤◌, length, take, drop, All}
use Rattle.little_endian.specs.Whole.{whole_of}
use Rattle.torn.specs.Pieces.{most, list_room}
use Rattle.listing.specs.Listing.{most_runs, listing_room}

-- the run that 8 bytes stand for: its first place, and its length
abbrev pub run_in : List ℕ → ℕ × ℕ
run_in bytes = (whole_of (take 4 bytes), whole_of (drop 4 bytes))

-- so many runs from the front of a list on
unfoldable pub first_runs : ℕ → List ℕ → List (ℕ × ℕ)
first_runs zero list = []
first_runs (suc count) list = run_in (take 8 list) ∷ first_runs count (drop 8 list)

-- the runs that a list holds
abbrev pub runs_in : List ℕ → List (ℕ × ℕ)
runs_in list = first_runs (length list / 8) list

-- both numbers of a run lie in the longest file
pub record Short (run : ℕ × ℕ) : Type 0 where
  pub place : run.0 ≤ most
  pub long : run.1 ≤ most

-- a list holds no more runs than the longest one, all of them short, and a text has the room for the longest listing
pub record Lent (list text : List ℕ) : Type 0 where
  pub few : length list ≤ 8 * most_runs
  pub short : All Short (runs_in list)
  pub room : listing_room ≤ length text

-- pieces that have the room for the salvage of any file, a file that is not too long, and a text for its listing
pub record Rooms (input records list text : List ℕ) : Type 0 where
  pub short : length input ≤ most
  pub taken : length records ≡ most
  pub listed : length list ≡ list_room most
  pub room : listing_room ≤ length text
