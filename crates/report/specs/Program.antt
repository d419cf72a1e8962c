-- What the program `convert` prints of its input, and how it comes to it by reads.
use Rattle.std.specs.Prelude.{◌≡◌, List, [], ◌∷◌, ◌++◌, ℕ, zero, suc, ◌+◌, ◌<◌, length}
use Rattle.refusal.specs.Outcome.{refused}
use Rattle.record.specs.Record.{size}
use Rattle.record.specs.Records.{record_at, records_in, tail_of}
use Rattle.session.specs.declared.Session.{Session}
use Rattle.session.specs.Session.{opened, feed_of, session_after}
use Rattle.session.specs.History.{Event, fed, session_of}
use Rattle.lines.specs.Line.{line_of, closing_of, line_room, closing_room}
use Rattle.report.specs.Block.{answer_at, session_at, lines_of, block_session, block_lines}

-- the end: the line of a tail that is not empty, which the session answers as the next record, and the closing line
unfoldable pub end_of : Session → ℕ → List ℕ → List ℕ
end_of t next [] = closing_of t
end_of t next (b ∷ bs) = let answer = feed_of t (b ∷ bs) size in line_of next answer ++ closing_of (session_after t answer)

-- the room of the end
abbrev pub end_room : ℕ
end_room = line_room + closing_room

-- the lines of all whole records, of which the first has the number `next`, and the end
unfoldable pub printed_from : Session → ℕ → List ℕ → List ℕ
printed_from t next s = block_lines t next s ++ end_of (block_session t s) (next + records_in s) (tail_of s)

-- records are numbered from 1
abbrev pub first_number : ℕ
first_number = 1

-- what it prints of its whole input
unfoldable pub printed_of : List ℕ → List ℕ
printed_of s = printed_from opened first_number s

-- the line of record i, the first being record 0, stands behind those of the i records before it, and has the number 1 + i
pub record LineAt (s : List ℕ) (i : ℕ) : Type 0 where
  pub behind : List ℕ
  pub stands : printed_of s ≡ lines_of opened first_number s 0 i ++ (line_of (1 + i) (answer_at (session_at opened s 0 i) s i) ++ behind)

abbrev pub Numbered : Type 0
Numbered = (s : List ℕ) (i : ℕ) → i < records_in s → LineAt s i

-- a tail has its line behind those of all whole records, with the next number, and before the closing line
abbrev pub TailNumbered : Type 0
TailNumbered =
    (s : List ℕ) → 0 < length (tail_of s) →
    printed_of s ≡ block_lines opened first_number s ++ (line_of (1 + records_in s) (refused 8) ++ closing_of (block_session opened s))

-- what is printed of an input that comes in pieces, each taken in behind the bytes that the one before left over
unfoldable pub printed_by : Session → ℕ → List ℕ → List (List ℕ) → List ℕ
printed_by t next rest [] = end_of t next rest
printed_by t next rest (piece ∷ pieces) =
    let s = rest ++ piece in block_lines t next s ++ printed_by (block_session t s) (next + records_in s) (tail_of s) pieces

-- the pieces one after the other
unfoldable pub joined : List (List ℕ) → List ℕ
joined [] = []
joined (piece ∷ pieces) = piece ++ joined pieces

-- however the reads cut the input, the output is that of the whole input, the numbers of its records too
abbrev pub ReadsDoNotMatter : Type 0
ReadsDoNotMatter = (pieces : List (List ℕ)) → printed_by opened first_number [] pieces ≡ printed_of (joined pieces)

-- a tail shorter than a record is refused by 8 as the next record, and no count changes
abbrev pub TailRefused : Type 0
TailRefused =
    (t : Session) (next : ℕ) (tail : List ℕ) → 0 < length tail → length tail < size →
    end_of t next tail ≡ line_of next (refused 8) ++ closing_of t

-- the calls that the first records of an input make, the latest first
unfoldable pub calls_of : List ℕ → ℕ → List Event
calls_of s zero = []
calls_of s (suc count) = fed (record { input = record_at s count; output = size }) ∷ calls_of s count

-- the counts that are printed are those of the history of all whole records
abbrev pub SessionOfHistory : Type 0
SessionOfHistory = (s : List ℕ) → block_session opened s ≡ session_of (calls_of s (records_in s))
