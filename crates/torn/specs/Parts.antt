-- A torn file read from the front: taken records and runs of skipped bytes, in order.
use Rattle.std.specs.Prelude.{cond, List, [], ◌∷◌, ◌++◌, ℕ, zero, suc, ◌+◌, length, take, drop}
use Rattle.record.specs.Record.{size}
use Rattle.record.specs.Answer.{convertible}

pub data Part : Type 0 where
  taken : List ℕ → Part
  skipped : List ℕ → Part

-- a byte skipped in front of other parts: it joins a run that begins there
unfoldable pub skip : ℕ → List Part → List Part
skip b [] = skipped (b ∷ []) ∷ []
skip b (taken r ∷ ps) = skipped (b ∷ []) ∷ taken r ∷ ps
skip b (skipped run ∷ ps) = skipped (b ∷ run) ∷ ps

-- if the next 16 bytes are a record that the rules convert, it is taken, and the reading goes 16 on; otherwise one byte is skipped
unfoldable pub reading : ℕ → List ℕ → List Part
reading zero s = []
reading (suc turns) [] = []
reading (suc turns) (b ∷ s) =
    cond (convertible (take size (b ∷ s)))
    (taken (take size (b ∷ s)) ∷ reading turns (drop size (b ∷ s)))
    (skip b (reading turns s))

-- the parts of a file: no more turns than bytes
unfoldable pub parts_of : List ℕ → List Part
parts_of s = reading (length s) s

-- the taken records
unfoldable pub taken_in : List Part → List (List ℕ)
taken_in [] = []
taken_in (taken r ∷ ps) = r ∷ taken_in ps
taken_in (skipped run ∷ ps) = taken_in ps

-- first place and length of every run, of parts that begin at a place
unfoldable pub runs_from : ℕ → List Part → List (ℕ × ℕ)
runs_from at [] = []
runs_from at (taken r ∷ ps) = runs_from (at + length r) ps
runs_from at (skipped run ∷ ps) = (at, length run) ∷ runs_from (at + length run) ps

-- of a whole file
abbrev pub taken_of : List ℕ → List (List ℕ)
taken_of s = taken_in (parts_of s)

abbrev pub runs_of : List ℕ → List (ℕ × ℕ)
runs_of s = runs_from 0 (parts_of s)

-- records closed up
unfoldable pub closed_up : List (List ℕ) → List ℕ
closed_up [] = []
closed_up (r ∷ rs) = r ++ closed_up rs

-- taken records and skipped runs put back in order
abbrev pub bytes_in : Part → List ℕ
bytes_in (taken r) = r
bytes_in (skipped run) = run

unfoldable pub back_of : List Part → List ℕ
back_of [] = []
back_of (p ∷ ps) = bytes_in p ++ back_of ps
