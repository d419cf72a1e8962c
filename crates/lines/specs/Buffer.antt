-- Text at the front of a buffer.
use Rattle.std.specs.Prelude.{◌≡◌, Bool, cond, List, ℕ, length, Option, Some, None}
use Rattle.digits.specs.Put.{put_front}

-- what is answered, and what a buffer l becomes, where text is to stand at its front: how many bytes of it stand there, or none where
-- the buffer is too short, and then it stays as it was
pub record Placed (fits : Bool) (text l : List ℕ) (answer : Option ℕ) (l' : List ℕ) : Type 0 where
  pub counted : answer ≡ cond fits (Some (length text)) None
  pub holds : l' ≡ cond fits (put_front l text) l
