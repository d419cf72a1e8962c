-- Text put into a buffer at a place.
use Rattle.std.specs.Prelude.{◌≡◌, List, ◌++◌, ℕ, ◌+◌, length, take, drop}

-- a buffer with text in the place of what stands from a place on
unfoldable pub put_at : List ℕ → ℕ → List ℕ → List ℕ
put_at l at text = take at l ++ (text ++ drop (at + length text) l)

-- a buffer with text at its front
unfoldable pub put_front : List ℕ → List ℕ → List ℕ
put_front l text = text ++ drop (length text) l

-- text was put at a place of a buffer l, which became l', and `next` is the place behind it
pub record Put (l : List ℕ) (at : ℕ) (text : List ℕ) (next : ℕ) (l' : List ℕ) : Type 0 where
  pub behind : next ≡ at + length text
  pub holds : l' ≡ put_at l at text
