-- What each job makes of its input: of the whole records of a run of bytes, and of the bytes that are left at the end.
use Rattle.std.specs.Prelude.{◌≡◌, Bool, true, cond, ◌&&◌, List, [], ℕ, ◌*◌, ◌/◌, ◌%◌, leb, length}
use Rattle.record.specs.Record.{size}
use Rattle.record.specs.Records.{records_in, tail_of}
use Rattle.session.specs.declared.Session.{Session}
use Rattle.reprojection.specs.All.{whole_reprojected, reprojected_all}
use Rattle.torn.specs.Parts.{taken_of, closed_up}
use Rattle.torn.specs.Pieces.{most}
use Rattle.lines.specs.Buffer.{Placed}
use Rattle.report.specs.declared.block.Block.{Block}
use Rattle.report.specs.Block.{block_session, block_lines, block_fits, lines_fit}
use Rattle.report.specs.Program.{end_of, end_room, printed_of}
use Rattle.jobs.specs.declared.Job.{Job}
use Rattle.jobs.specs.declared.Job.TheVariants.{Convert, Reproject, Salvage}

-- what is written of the whole records of a run of bytes in a session, where the first of them has the number `next`, and the session
-- after them. A torn file is read as a whole, at its end
unfoldable pub block_of : Job → Session → ℕ → List ℕ → List ℕ
block_of Convert t next s = block_lines t next s
block_of Reproject t next s = whole_reprojected s
block_of Salvage t next s = []

unfoldable pub session_of : Job → Session → List ℕ → Session
session_of Convert t s = block_session t s
session_of Reproject t s = t
session_of Salvage t s = t

-- how many records of so many bytes are worked on, and how many bytes wait for those that come behind
abbrev pub worked_in : Job → ℕ → ℕ
worked_in Convert n = n / size
worked_in Reproject n = n / size
worked_in Salvage n = 0

abbrev pub waiting_in : Job → ℕ → ℕ
waiting_in Convert n = n % size
waiting_in Reproject n = n % size
waiting_in Salvage n = n

-- the bytes that wait: those behind the last whole record, or all
unfoldable pub waiting_of : Job → List ℕ → List ℕ
waiting_of Convert s = tail_of s
waiting_of Reproject s = tail_of s
waiting_of Salvage s = s

-- whether a job takes so many bytes: a torn file has 65,536 at most
abbrev pub takes_in : Job → ℕ → Bool
takes_in Convert n = true
takes_in Reproject n = true
takes_in Salvage n = leb n most

-- the taken records of a torn file; of one that is too long, nothing
unfoldable pub salvaged_of : List ℕ → List ℕ
salvaged_of s = cond (leb (length s) most) (closed_up (taken_of s)) []

-- what is written at the end, with the bytes that are left
unfoldable pub ending_of : Job → Session → ℕ → List ℕ → List ℕ
ending_of Convert t next rest = end_of t next rest
ending_of Reproject t next rest = rest
ending_of Salvage t next rest = salvaged_of rest

-- what is written of a whole input
unfoldable pub result_of : Job → List ℕ → List ℕ
result_of Convert s = printed_of s
result_of Reproject s = reprojected_all s
result_of Salvage s = salvaged_of s

-- what a job makes of the whole records of a run of bytes fits a text
abbrev pub work_fits : Job → ℕ → List ℕ → List ℕ → Bool
work_fits Convert next s text = block_fits next s text
work_fits Reproject next s text = leb (size * records_in s) (length text)
work_fits Salvage next s text = true

-- what it writes at the end fits a text of this length
abbrev pub end_fits : Job → List ℕ → ℕ → Bool
end_fits Convert rest text = leb end_room text
end_fits Reproject rest text = leb (length rest) text
end_fits Salvage rest text = leb (length rest) text

-- a text of this length has the room for both, of so many bytes, where the first record among them has the number `next`
abbrev pub lines_room : ℕ → ℕ → ℕ → Bool
lines_room next n text = lines_fit next (n / size) text && leb end_room text

abbrev pub room_for : Job → ℕ → ℕ → ℕ → Bool
room_for Convert next n text = lines_room next n text
room_for Reproject next n text = lines_room next n text
room_for Salvage next n text = leb n text

-- what `work` answers in a session t, and what the text becomes: where it does not fit, nothing is worked on
pub record Works (job : Job) (t : Session) (next : ℕ) (s text : List ℕ) (r : Block) (text' : List ℕ) : Type 0 where
  pub session : r.session ≡ cond (work_fits job next s text) (session_of job t s) t
  pub placed : Placed (work_fits job next s text) (block_of job t next s) text r.text text'
