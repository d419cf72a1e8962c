-- What a run says always fits the text.
use mathlib.Core.Bool.{Bool, true}
use mathlib.Core.List.{List}
use mathlib.Core.Path.{◌≡◌, refl, sym, subst}
use Prim.Native.Nat.{ℕ, ◌*◌}
use native.Mathlib.Omega.{arith}
use borrow.Author.Tests.{le-leb, leb-true}
use lib.ListN.{length, take}
use lib.Seq.{length-take-le}
use Rattle.std.specs.Prelude.{Option, Some}
use Rattle.lines.specs.Buffer.{Placed}
use Rattle.lines.proofs.Buffers.{counted_le}
use Rattle.torn.specs.Pieces.{most as longest}
use Rattle.lines.specs.Line.{line_room}
use Rattle.listing.specs.Listing.{listing_room}
use Rattle.jobs.specs.declared.Job.{Job}
use Rattle.jobs.specs.declared.Job.TheVariants.{Convert, Reproject, Salvage}
use Rattle.jobs.specs.Job.{waiting_of, takes_in}
use Rattle.stream.specs.declared.state.Phase.{Phase}
use Rattle.stream.specs.declared.state.Phase.TheVariants.{Reading, Ended, NotStarted, NotRead, NotWritten, TooLong}
use Rattle.stream.specs.Run.{Standing, Turn, standing_of, input_of, written_of, Wrote}
use Rattle.stream.proofs.Runs.{runs_write, runs_end}
use Rattle.messages.specs.Message.{message_room, ended_fits, phase_fits, message_fits}
use Rattle.filter.specs.Turns.{records}

-- at the end the bytes that waited are no more than the job takes
ended_fits_lem : (job : Job) (s rest : List ℕ) (text : ℕ) → takes_in job (length s) ≡ true → rest ≡ waiting_of job s → text ≡ line_room * records →
    ended_fits job rest text ≡ true
unfolding waiting_of
ended_fits_lem Convert s rest text t e l = refl
ended_fits_lem Reproject s rest text t e l = refl
ended_fits_lem Salvage s rest text t e l =
    rw (e, le-leb (length s) longest (leb-true (length s) longest t), le-leb listing_room text (omega (arith, l)))

module _ (job : Job) (arguments : ℕ) (turns : List Turn) (text : ℕ) (l : text ≡ line_room * records) where
  at_phase : (phase : Phase) → (standing_of job arguments turns).phase ≡ phase →
      phase_fits job phase (standing_of job arguments turns).rest text ≡ true
  at_phase Reading e = refl
  at_phase Ended e =
      let w = subst (λ (p : Phase). Wrote job p (input_of job arguments turns) (written_of job arguments turns)) e (runs_write job arguments turns) in
      ended_fits_lem job (input_of job arguments turns) (standing_of job arguments turns).rest text w.0 ((runs_end job).rests arguments turns e) l
  at_phase NotStarted e = refl
  at_phase NotRead e = refl
  at_phase NotWritten e = refl
  at_phase TooLong e = refl

  pub said_fits : (s : Standing) → s ≡ standing_of job arguments turns → message_fits job s.phase s.rest text ≡ true
  said_fits s e =
      rw (e, le-leb message_room text (omega (arith, l))) (at_phase (standing_of job arguments turns).phase refl)

-- what is said stands in the text
pub said_there : (fits : Bool) {said l l' : List ℕ} {answer : Option ℕ} {n : ℕ} → Placed fits said l answer l' → answer ≡ Some n → n ≡ length (take n l')
said_there fits {l' = l'} {n = n} p e = sym (length-take-le n l' (counted_le fits p e))
