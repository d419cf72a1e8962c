-- The number of each refusal of the code, and what its answers mean.
use Rattle.std.specs.Prelude.{ℕ, List, ◌++◌, codes, decimal, Result, Ok, Err}
use Rattle.refusal.specs.declared.Refusal.{Refusal}
use Rattle.refusal.specs.declared.Refusal.TheVariants.{Kind, Float, Central, Longitude, Latitude, North, East, Length, Mark, Form, Full, TextLength, TextShape, Sixties, MinusZero, Counts, West, South, TooLong, Rooms}
use Rattle.refusal.specs.Outcome.{Outcome, refused, given}

abbrev pub number_of : Refusal → ℕ
number_of Kind = 1
number_of Float = 2
number_of Central = 3
number_of Longitude = 4
number_of Latitude = 5
number_of North = 6
number_of East = 7
number_of Length = 8
number_of Mark = 9
number_of Form = 10
number_of Full = 11
number_of TextLength = 12
number_of TextShape = 13
number_of Sixties = 14
number_of MinusZero = 15
number_of Counts = 16
number_of West = 17
number_of South = 18
number_of TooLong = 23
number_of Rooms = 24

-- what a refusal prints, as "refused 5"
abbrev pub printed_of : Refusal → List ℕ
printed_of refusal = codes "refused " ++ decimal (number_of refusal)

-- document 01's number or values for each case of the code's answers
abbrev pub meaning : {A : Type 0} → Result A Refusal → Outcome A
meaning (Ok a) = given a
meaning (Err refusal) = refused (number_of refusal)

-- the same of a call that answers only that what was asked for is done
abbrev pub done : {A : Type 0} → Outcome A → Outcome (Unit {0})
done (given a) = given tt
done (refused n) = refused n
