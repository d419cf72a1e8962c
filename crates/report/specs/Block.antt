-- The records of a run of bytes, fed to a session one after the other.
use Rattle.std.specs.Prelude.{◌≡◌, Bool, cond, ◌&&◌, List, [], ◌++◌, ℕ, zero, suc, ◌+◌, ◌*◌, leb, ℤ, length}
use Rattle.refusal.specs.Outcome.{Outcome}
use Rattle.record.specs.Record.{size}
use Rattle.record.specs.Records.{record_at, records_in}
use Rattle.session.specs.declared.Session.{Session}
use Rattle.session.specs.Session.{feed_of, session_after}
use Rattle.lines.specs.Buffer.{Placed}
use Rattle.lines.specs.Line.{line_of, line_room}
use Rattle.report.specs.declared.block.Block.{Block}

-- what a session answers to record i of s, the first being record 0; its output piece is as long as a record
unfoldable pub answer_at : Session → List ℕ → ℕ → Outcome (ℤ × ℤ)
answer_at t s i = feed_of t (record_at s i) size

-- the session t after `count` records of s, from record `first` on
unfoldable pub session_at : Session → List ℕ → ℕ → ℕ → Session
session_at t s first zero = t
session_at t s first (suc count) =
    let u = session_at t s first count in session_after u (answer_at u s (first + count))

-- the lines of those records, where record i of s has the number next + i in its stream
unfoldable pub lines_of : Session → ℕ → List ℕ → ℕ → ℕ → List ℕ
lines_of t next s first zero = []
lines_of t next s first (suc count) =
    let i = first + count in lines_of t next s first count ++ line_of (next + i) (answer_at (session_at t s first count) s i)

-- blocks compose: a + b records are a records, and then b records in the session after those
abbrev pub SessionsCompose : Type 0
SessionsCompose =
    (t : Session) (s : List ℕ) (first a b : ℕ) → session_at t s first (a + b) ≡ session_at (session_at t s first a) s (first + a) b

abbrev pub LinesCompose : Type 0
LinesCompose =
    (t : Session) (next : ℕ) (s : List ℕ) (first a b : ℕ) →
    lines_of t next s first (a + b) ≡ lines_of t next s first a ++ lines_of (session_at t s first a) next s (first + a) b

-- the session and the lines of all whole records
unfoldable pub block_session : Session → List ℕ → Session
block_session t s = session_at t s 0 (records_in s)

unfoldable pub block_lines : Session → ℕ → List ℕ → List ℕ
block_lines t next s = lines_of t next s 0 (records_in s)

-- the greatest number of 64 bits
abbrev pub most_number : ℕ
most_number = 18446744073709551615

-- a text of this length has the room of a line for each of `count` records from number `next` on, and their numbers and the one
-- behind them have 64 bits
abbrev pub lines_fit : ℕ → ℕ → ℕ → Bool
lines_fit next count room = leb (line_room * count) room && leb (next + count) most_number

abbrev pub block_fits : ℕ → List ℕ → List ℕ → Bool
block_fits next s text = lines_fit next (records_in s) (length text)

-- what `convert_block` answers in a session t, and what the text becomes: where the lines do not fit, no record is fed
pub record Converted (t : Session) (next : ℕ) (s text : List ℕ) (r : Block) (text' : List ℕ) : Type 0 where
  pub session : r.session ≡ cond (block_fits next s text) (block_session t s) t
  pub lines : Placed (block_fits next s text) (block_lines t next s) text r.text text'
