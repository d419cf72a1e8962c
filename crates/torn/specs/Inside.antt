-- What the functions inside the crate promise each other.
use Rattle.std.specs.Prelude.{cond, List, [], ◌∷◌, ◌≡◌, ℕ, ◌+◌, ◌-◌, ◌*◌, ◌≤◌, ltb, length}
use Rattle.digits.specs.Put.{put_front, Put}
use Rattle.torn.specs.Parts.{taken_of, runs_of, closed_up}
use Rattle.torn.specs.Pieces.{most, list_room, list_of}
use Rattle.torn.specs.Answer.{counts_of}

-- the run from one place up to another, if there is one
abbrev pub run_between : ℕ → ℕ → List (ℕ × ℕ)
run_between from to = cond (ltb from to) ((from, to - from) ∷ []) []

-- what `Runs::close` makes of the count of runs and of the list
pub record Closes (list : List ℕ) (runs from to r : ℕ) (list' : List ℕ) : Type 0 where
  pub counted : r ≡ runs + length (run_between from to)
  pub listed : Put list (8 * runs) (list_of (run_between from to)) (8 * r) list'

-- the pieces are of the right lengths
pub record Rooms (input records list : List ℕ) : Type 0 where
  pub short : length input ≤ most
  pub record_room : length records ≡ length input
  pub run_room : length list ≡ list_room (length input)

-- what `read_all` answers then, and what the pieces become
pub record Reads (input records list : List ℕ) (r : ℕ × ℕ) (records' list' : List ℕ) : Type 0 where
  pub counts : r ≡ counts_of input
  pub closed : records' ≡ put_front records (closed_up (taken_of input))
  pub listed : list' ≡ put_front list (list_of (runs_of input))
