-- What a job makes of bytes that come behind others, of nothing and of a whole input, and the room that it wants.
use mathlib.Core.Path.{◌≡◌, refl, sym}
use mathlib.Core.List.{List, [], ◌++◌}
use mathlib.Core.Bool.{true, false, false≢true, and-eq-true_iff}
use Prim.Native.Nat.{ℕ, ◌+◌, ◌*◌, ◌/◌, ◌≤◌}
use native.Mathlib.Omega.{arith}
use borrow.Author.Tests.{le-leb, leb-true}
use lib.Dec.{leb}
use lib.ListN.{length, length-append}
use Rattle.record.specs.Record.{size}
use Rattle.record.specs.Records.{records_in, tail_of}
use Rattle.record.proofs.Records.{records_more, tail_more, tail_length}
use Rattle.reprojection.specs.All.{first_reprojected, whole_reprojected, reprojected_all}
use Rattle.reprojection.proofs.Runs.{whole_more}
use Rattle.session.specs.declared.Session.{Session}
use Rattle.session.specs.Session.{opened}
use Rattle.torn.specs.Pieces.{most}
use Rattle.report.specs.Block.{block_session, block_lines, lines_fit, lines_of, session_at}
use Rattle.report.specs.Program.{end_room, first_number, printed_of, printed_from}
use Rattle.report.proofs.Blocks.{room_of}
use Rattle.report.proofs.Streams.{block_session_lem, block_lines_lem}
use Rattle.jobs.specs.declared.Job.{Job}
use Rattle.jobs.specs.declared.Job.TheVariants.{Convert, Reproject, Salvage}
use Rattle.jobs.specs.Job.{block_of, session_of, worked_in, waiting_in, waiting_of, takes_in, ending_of, result_of, work_fits, end_fits, lines_room, room_for}

-- ---- bytes that come behind others

module _ (s more : List ℕ) where
  pub block_more : (t : Session) (next : ℕ) (job : Job) →
      block_of job t next (s ++ more) ≡ block_of job t next s ++ block_of job (session_of job t s) (next + worked_in job (length s)) (waiting_of job s ++ more)
  unfolding block_of session_of waiting_of
  block_more t next Convert = block_lines_lem t s more next
  block_more t next Reproject = whole_more s more
  block_more t next Salvage = refl

  pub session_more : (t : Session) (job : Job) → session_of job t (s ++ more) ≡ session_of job (session_of job t s) (waiting_of job s ++ more)
  unfolding session_of waiting_of
  session_more t Convert = block_session_lem t s more
  session_more t Reproject = refl
  session_more t Salvage = refl

  pub worked_more : (job : Job) → worked_in job (length (s ++ more)) ≡ worked_in job (length s) + worked_in job (length (waiting_of job s ++ more))
  unfolding waiting_of
  worked_more Convert = records_more s more
  worked_more Reproject = records_more s more
  worked_more Salvage = refl

  pub waiting_more : (job : Job) → waiting_of job (s ++ more) ≡ waiting_of job (waiting_of job s ++ more)
  unfolding waiting_of
  waiting_more Convert = tail_more s more
  waiting_more Reproject = tail_more s more
  waiting_more Salvage = refl

  -- as many bytes are taken as with those that wait alone
  pub takes_more : (job : Job) → takes_in job (length (s ++ more)) ≡ takes_in job (length (waiting_of job s ++ more))
  unfolding waiting_of
  takes_more Convert = refl
  takes_more Reproject = refl
  takes_more Salvage = refl

  -- and no fewer of what came before
  pub takes_before : (job : Job) → takes_in job (length (s ++ more)) ≡ true → takes_in job (length s) ≡ true
  takes_before Convert e = refl
  takes_before Reproject e = refl
  takes_before Salvage e =
      le-leb (length s) most (omega (arith, leb-true (length (s ++ more)) most e, length-append s more))

pub waiting_length : (job : Job) (s : List ℕ) → length (waiting_of job s) ≡ waiting_in job (length s)
unfolding waiting_of
waiting_length Convert s = let l = tail_length s in omega arith
waiting_length Reproject s = let l = tail_length s in omega arith
waiting_length Salvage s = refl

-- ---- nothing, a whole input, and one that is not taken

pub session_none : (job : Job) → opened ≡ session_of job opened []
unfolding session_of block_session session_at
session_none Convert = refl
session_none Reproject = refl
session_none Salvage = refl

pub block_none : (job : Job) → [] ≡ block_of job opened first_number []
unfolding block_of block_lines lines_of whole_reprojected first_reprojected
block_none Convert = refl
block_none Reproject = refl
block_none Salvage = refl

pub worked_none : (job : Job) → first_number ≡ first_number + worked_in job 0
worked_none Convert = refl
worked_none Reproject = refl
worked_none Salvage = refl

pub waiting_none : (job : Job) → [] ≡ waiting_of job []
unfolding waiting_of tail_of
waiting_none Convert = refl
waiting_none Reproject = refl
waiting_none Salvage = refl

pub takes_none_lem : (job : Job) → takes_in job 0 ≡ true
takes_none_lem Convert = refl
takes_none_lem Reproject = refl
takes_none_lem Salvage = refl

pub result_is : (job : Job) (s : List ℕ) →
    block_of job opened first_number s ++ ending_of job (session_of job opened s) (first_number + worked_in job (length s)) (waiting_of job s) ≡ result_of job s
unfolding block_of session_of waiting_of ending_of result_of printed_of printed_from reprojected_all
result_is Convert s = refl
result_is Reproject s = refl
result_is Salvage s = refl

-- a job that does not take its input has written nothing of it
pub nothing_written : (job : Job) (t : Session) (next : ℕ) (s more : List ℕ) → takes_in job (length more) ≡ false → block_of job t next s ≡ []
unfolding block_of
nothing_written Convert t next s more e = absurd (false≢true (sym e))
nothing_written Reproject t next s more e = absurd (false≢true (sym e))
nothing_written Salvage t next s more e = refl

-- ---- room

rooms : (next n text : ℕ) → lines_room next n text ≡ true → (lines_fit next (n / size) text ≡ true) × (end_room ≤ text)
rooms next n text e =
    let r = (and-eq-true_iff (lines_fit next (n / size) text) (leb end_room text)).0 e in
    (r.0, leb-true end_room text r.1)

-- there is room enough for what is worked on
pub work_fits_lem : (job : Job) (next : ℕ) (s text : List ℕ) → room_for job next (length s) (length text) ≡ true → work_fits job next s text ≡ true
work_fits_lem Convert next s text e = (rooms next (length s) (length text) e).0
work_fits_lem Reproject next s text e =
    le-leb (size * records_in s) (length text)
    (omega (arith, (room_of next (records_in s) (length text) (rooms next (length s) (length text) e).0).0))
work_fits_lem Salvage next s text e = refl

-- and for the end
pub end_fits_lem : (job : Job) (next : ℕ) (rest : List ℕ) (text : ℕ) → room_for job next (length rest) text ≡ true → end_fits job rest text ≡ true
end_fits_lem Convert next rest text e = le-leb end_room text (rooms next (length rest) text e).1
end_fits_lem Reproject next rest text e =
    let r = rooms next (length rest) text e in
    le-leb (length rest) text (omega (arith, r.1, (room_of next (length rest / size) text r.0).0))
end_fits_lem Salvage next rest text e = e
