-- What the functions inside the crate promise each other.
use Rattle.std.specs.Prelude.{List, ◌≡◌, ℕ, ◌≤◌, length}
use Rattle.torn.specs.Pieces.{most, list_room}

-- a file that is not too long, a text with room for all of it, and a list piece of its length
pub record Lent (input text list : List ℕ) : Type 0 where
  pub short : length input ≤ most
  pub room : length input ≤ length text
  pub listed : length list ≡ list_room (length input)
