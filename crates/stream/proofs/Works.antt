-- What the work of a job leaves in the text and in the buffer.
use mathlib.Core.Path.{◌≡◌}
use mathlib.Core.Bool.{Bool, true, false}
use mathlib.Core.List.{List}
use Prim.Native.Nat.{ℕ, ◌-◌, ◌*◌, ◌%◌}
use native.Mathlib.Omega.{arith}
use lib.ListN.{length, drop}
use Rattle.std.specs.Prelude.{Option, Some}
use Rattle.record.specs.Record.{size}
use Rattle.record.specs.Records.{records_in, tail_of}
use Rattle.digits.specs.Put.{Put}
use Rattle.lines.specs.Buffer.{Placed}
use Rattle.digits.proofs.Puts.{front_put}
use Rattle.jobs.specs.declared.Job.{Job}
use Rattle.jobs.specs.declared.Job.TheVariants.{Convert, Reproject, Salvage}
use Rattle.jobs.specs.Job.{waiting_in, waiting_of}

-- text that has a count was put
pub counted_put : (fits : Bool) {lines l l' : List ℕ} {answer : Option ℕ} {n : ℕ} → Placed fits lines l answer l' → answer ≡ Some n → Put l 0 lines n l'
counted_put true {lines} {l} {n = n} p e = let k : n ≡ length lines = cc in front_put l lines k p.holds
counted_put false p e = cc

-- the bytes that wait are the last
pub waiting_last : (job : Job) (s : List ℕ) → drop (length s - waiting_in job (length s)) s ≡ waiting_of job s
unfolding waiting_of tail_of
waiting_last Convert s = let e : length s - length s % size ≡ size * records_in s = omega arith in rw e
waiting_last Reproject s = let e : length s - length s % size ≡ size * records_in s = omega arith in rw e
waiting_last Salvage s = let e : length s - length s ≡ 0 = omega arith in rw e
