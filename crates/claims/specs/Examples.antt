-- The worked examples of document 01 ('Either side of each line'), as one table under one statement.
use Rattle.std.specs.Prelude.{true, false, ◌≡◌, List, [], ◌∷◌, map, ℕ, ℤ, pos, negsuc}
use Rattle.std.specs.Float.{fin}
use Rattle.parallel.specs.Table.{neg, row_of}
use Rattle.parallel.specs.Parallel.{half_width}
use Rattle.parallel.specs.Latitude.{y_of}
use Rattle.refusal.specs.Outcome.{Outcome, refused, given}
use Rattle.projection.specs.Longitude.{difference_of}
use Rattle.projection.specs.Answer.{forward_of}
use Rattle.reading.specs.Reading.{centiseconds}

-- an example's number, what the definitions give, and what document 01 writes
pub record Example : Type 0 where
  pub number : ℕ
  pub defined : List ℤ
  pub written : List ℤ

abbrev pub example : ℕ → List ℤ → List ℤ → Example
example n d w = record { number = n; defined = d; written = w }

-- W and y of a kind at a northern latitude
abbrev pub width : ℕ → ℕ → ℤ
width kind p = pos (half_width (row_of kind) p)

abbrev pub y : ℕ → ℕ → ℤ
y kind p = y_of (row_of kind) (pos p)

-- x and y of a position; none where it is refused
abbrev pub xy : Outcome (ℤ × ℤ) → List ℤ
xy (given p) = p.0 ∷ p.1 ∷ []
xy (refused n) = []

-- the difference of a longitude from a central meridian of 170 degrees
abbrev pub from170 : ℤ → ℤ
from170 longitude = difference_of (pos 61200000) longitude

-- P12's 0.0078125 degrees is the float 1 * 2 ^ -7
unfoldable pub examples : List Example
examples =
    example 1 (xy (forward_of 1 (pos 0) (pos 32400000) (pos 16200000))) (pos 157079632 ∷ pos 78539816 ∷ [])
    ∷ example 2 (xy (forward_of 1 (pos 0) (neg 32400000) (neg 16200000))) (neg 157079632 ∷ neg 78539816 ∷ [])
    ∷ example 3 (width 6 32400000 ∷ y 6 32400000 ∷ []) (pos 136034952 ∷ pos 157079632 ∷ [])
    ∷ example 4 (width 2 19440000 ∷ y 2 19440000 ∷ []) (pos 251327412 ∷ pos 94247780 ∷ [])
    ∷ example 5 (width 2 25920000 ∷ y 2 25920000 ∷ []) (pos 188495559 ∷ pos 125663706 ∷ [])
    ∷ example 6 (width 5 0 ∷ width 5 32400000 ∷ []) (pos 265300086 ∷ pos 132650043 ∷ [])
    ∷ example 7 (width 7 16200000 ∷ []) (pos 187997120 ∷ [])
    ∷ example 8 (width 8 16200000 ∷ width 8 32400000 ∷ []) (pos 219329974 ∷ pos 125331414 ∷ [])
    ∷ example 9 (width 9 0 ∷ width 9 32400000 ∷ []) (pos 318387849 ∷ pos 0 ∷ [])
    ∷ example 10 (width 10 32400000 ∷ []) (pos 159193924 ∷ [])
    ∷ example 11 (from170 (neg 61200000) ∷ from170 (neg 3600000) ∷ xy (forward_of 1 (pos 61200000) (neg 3600000) (pos 0)))
    (pos 7200000 ∷ neg 64800000 ∷ neg 314159265 ∷ pos 0 ∷ [])
    ∷ example 12 (centiseconds (fin false 1 (negsuc 6)) ∷ centiseconds (fin true 1 (negsuc 6)) ∷ []) (pos 2812 ∷ neg 2812 ∷ [])
    ∷ []

-- the examples are P1 to P12, and each is as document 01 writes it
pub record Examples : Type 0 where
  pub numbers : map (λ (e : Example). e.number) examples ≡ 1 ∷ 2 ∷ 3 ∷ 4 ∷ 5 ∷ 6 ∷ 7 ∷ 8 ∷ 9 ∷ 10 ∷ 11 ∷ 12 ∷ []
  pub values : map (λ (e : Example). e.defined) examples ≡ map (λ (e : Example). e.written) examples
