-- Texts and what each is answered; positions, lengths of the lent text, and what each is answered.
use Rattle.std.specs.Prelude.{List, [], ◌∷◌, map, ◌≡◌, ℕ, ℤ, pos}
use Prim.Native.Char.{code}
use Prim.Native.String.{String, [] as none, ◌∷◌ as ◌then◌}
use Rattle.parallel.specs.Table.{neg}
use Rattle.refusal.specs.Outcome.{Outcome, refused, given}
use Rattle.iso6709.specs.Answer.{read_of, write_of}

-- the bytes of a text in ASCII
abbrev pub ascii : String → List ℕ
ascii none = []
ascii (c then s) = code c ∷ ascii s

-- an example: what the definitions give, and what is written here
pub record Example (A : Type 0) : Type 0 where
  pub defined : Outcome A
  pub expected : Outcome A

abbrev pub reads : String → Outcome (ℤ × ℤ) → Example (ℤ × ℤ)
reads s answer = record { defined = read_of (ascii s); expected = answer }

abbrev pub writes : ℤ → ℤ → ℕ → Outcome (List ℕ) → Example (List ℕ)
writes longitude latitude room answer = record { defined = write_of longitude latitude room; expected = answer }

unfoldable pub read : List (Example (ℤ × ℤ))
read =
    -- the request's text; zero; both poles and both ends of the longitudes; a hundredth of a second south
    reads "+450000.00+0900000.00/" (given (pos 32400000, pos 16200000))
    ∷ reads "+000000.00+0000000.00/" (given (pos 0, pos 0))
    ∷ reads "+900000.00+1800000.00/" (given (pos 64800000, pos 32400000))
    ∷ reads "-900000.00-1800000.00/" (given (neg 64800000, neg 32400000))
    ∷ reads "-000000.01+0000000.00/" (given (pos 0, neg 1))
    -- 12: no byte, 21 and 23 bytes
    ∷ reads "" (refused 12)
    ∷ reads "+450000.00+0900000.00" (refused 12)
    ∷ reads "+450000.00+0900000.00//" (refused 12)
    -- 13: a space for a digit, a comma for a point, no sign, no slash; and before 14
    ∷ reads "+45 000.00+0900000.00/" (refused 13)
    ∷ reads "+450000,00+0900000.00/" (refused 13)
    ∷ reads "+450000.0000900000.00/" (refused 13)
    ∷ reads "+450000.00+0900000.000" (refused 13)
    ∷ reads "+456000.00+0900000.000" (refused 13)
    -- 14: 60 minutes and 60 seconds, of either angle; and before 15
    ∷ reads "+906000.00+0000000.00/" (refused 14)
    ∷ reads "+450060.00+0900000.00/" (refused 14)
    ∷ reads "+450000.00+0906000.00/" (refused 14)
    ∷ reads "+450000.00+0900060.00/" (refused 14)
    ∷ reads "-000000.00+0006000.00/" (refused 14)
    -- 15: minus before zero, in either angle; and before 5
    ∷ reads "-000000.00+0000000.00/" (refused 15)
    ∷ reads "+000000.00-0000000.00/" (refused 15)
    ∷ reads "+900000.01-0000000.00/" (refused 15)
    -- 5, also where the longitude is out of range too; and 4
    ∷ reads "+900000.01+0000000.00/" (refused 5)
    ∷ reads "-900000.01+1800000.01/" (refused 5)
    ∷ reads "+900000.00+1800000.01/" (refused 4)
    ∷ reads "+900000.00-1800000.01/" (refused 4)
    ∷ []

unfoldable pub written : List (Example (List ℕ))
written =
    writes (pos 32400000) (pos 16200000) 22 (given (ascii "+450000.00+0900000.00/"))
    ∷ writes (pos 0) (pos 0) 22 (given (ascii "+000000.00+0000000.00/"))
    ∷ writes (pos 64800000) (pos 32400000) 22 (given (ascii "+900000.00+1800000.00/"))
    ∷ writes (neg 64800000) (neg 32400000) 22 (given (ascii "-900000.00-1800000.00/"))
    ∷ writes (neg 4428367) (pos 1) 22 (given (ascii "+000000.01-0121803.67/"))
    -- 12 before 5 before 4
    ∷ writes (pos 64800001) (neg 32400001) 21 (refused 12)
    ∷ writes (pos 64800001) (neg 32400001) 22 (refused 5)
    ∷ writes (pos 64800001) (neg 32400000) 22 (refused 4)
    ∷ []

pub record TextExamples : Type 0 where
  pub read_so : map (λ (e : Example (ℤ × ℤ)). e.defined) read ≡ map (λ (e : Example (ℤ × ℤ)). e.expected) read
  pub written_so : map (λ (e : Example (List ℕ)). e.defined) written ≡ map (λ (e : Example (List ℕ)). e.expected) written
