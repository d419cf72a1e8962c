-- The lines that document 01 has the program print. Each ends in a line feed.
use Rattle.std.specs.Prelude.{List, [], ◌∷◌, ◌++◌, ℕ, ◌+◌, ℤ, Result, Ok, Err}
use Rattle.refusal.specs.Outcome.{Outcome, refused, given}
use Rattle.session.specs.declared.Session.{Session}
use Rattle.lines.specs.Decimal.{decimal_of, number_text}

-- a space and a line feed
abbrev pub space : List ℕ
space = 32 ∷ []

abbrev pub line_feed : List ℕ
line_feed = 10 ∷ []

-- "refused ", " at " and "moved "
abbrev pub refused_word : List ℕ
refused_word = 114 ∷ 101 ∷ 102 ∷ 117 ∷ 115 ∷ 101 ∷ 100 ∷ space

abbrev pub at_word : List ℕ
at_word = 32 ∷ 97 ∷ 116 ∷ space

abbrev pub moved_word : List ℕ
moved_word = 109 ∷ 111 ∷ 118 ∷ 101 ∷ 100 ∷ space

-- a word with a number behind it
abbrev pub named : List ℕ → ℕ → List ℕ
named word n = word ++ decimal_of n

-- an answer whose refusal is a number
abbrev pub by_number : {A : Type 0} → Result A ℕ → Outcome A
by_number (Ok a) = given a
by_number (Err n) = refused n

-- the line of the answer to the record of this number: "157079632 78539816", or "refused 17 at 4"
unfoldable pub line_of : ℕ → Outcome (ℤ × ℤ) → List ℕ
line_of number (given p) = number_text p.0 ++ (space ++ (number_text p.1 ++ line_feed))
line_of number (refused n) = named refused_word n ++ (named at_word number ++ line_feed)

-- "moved 1 refused 0"
unfoldable pub closing_of : Session → List ℕ
closing_of t = named moved_word t.moved ++ (named (space ++ refused_word) t.refused ++ line_feed)

-- the room of a line: a refusal of 8 bits, 3 digits, and a record's number of 64 bits, 20 digits, the words with their spaces, and a
-- line feed. Two numbers of 32 bits, 11 bytes each, want less
abbrev pub line_room : ℕ
line_room = 8 + 3 + 4 + 20 + 1

-- the room of the closing line: two counts of 64 bits, 20 digits each, the words with their spaces, and a line feed
abbrev pub closing_room : ℕ
closing_room = 6 + 20 + 9 + 20 + 1

-- the room of a line of two words of these lengths, with a number of 64 bits behind each
abbrev pub named_room : ℕ → ℕ → ℕ
named_room first second = first + 20 + second + 20 + 1
