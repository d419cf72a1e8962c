-- The C interface: what a status says, and how a session is kept. What each function returns and leaves in lent memory is in
-- its contract.
use Rattle.std.specs.Prelude.{List, [], ◌∷◌, ◌↔◌, ◌≡◌, ℕ, Float, ℤ}
use Rattle.refusal.specs.Outcome.{Outcome, refused, given}
use Rattle.projection.specs.Answer.{forward_of, inverse_of}
use Rattle.degrees.specs.Answer.{forward_of as forward_degrees, inverse_of as inverse_degrees}
use Rattle.iso6709.specs.Answer.{read_of, write_of}
use Rattle.record.specs.Answer.{convert_of}
use Rattle.torn.specs.Answer.{salvage_of}
use Rattle.session.specs.declared.Session.{Session}
use Rattle.session.specs.Session.{feed_of}
use Rattle.session.specs.Handover.{save_of, restore_of}
use Rattle.uldaseong.specs.Status.{status_of, pair_after, session_in, counts_of}

abbrev pub Converted : {A : Type 0} → Outcome A → Type 0
Converted (given a) = Unit {0}
Converted (refused n) = ⊥

-- a status of 0 says that the call did what was asked, and that of a refusal is its number
pub record Tells {A : Type 0} (outcome : Outcome A) : Type 0 where
  pub converted : (status_of outcome ≡ 0) ↔ Converted outcome
  pub number : (n : ℕ) → outcome ≡ refused n → status_of outcome ≡ n

pub record Interface : Type 0 where
  pub forward : (kind : ℕ) (central longitude latitude : ℤ) → Tells (forward_of kind central longitude latitude)
  pub inverse : (kind : ℕ) (central x y : ℤ) → Tells (inverse_of kind central x y)
  pub forward_degrees_lem : (kind : ℕ) (central longitude latitude : Float) → Tells (forward_degrees kind central longitude latitude)
  pub inverse_degrees_lem : (kind : ℕ) (central x y : Float) → Tells (inverse_degrees kind central x y)
  pub convert_record : (input : List ℕ) (output : ℕ) → Tells (convert_of input output)
  pub feed : (session : Session) (input : List ℕ) (output : ℕ) → Tells (feed_of session input output)
  pub read_text_lem : (text : List ℕ) → Tells (read_of text)
  pub write_text_lem : (longitude latitude : ℤ) (room : ℕ) → Tells (write_of longitude latitude room)
  pub save : (session : Session) (room : ℕ) → Tells (save_of session room)
  pub restore : (note : List ℕ) → Tells (restore_of note)
  pub salvage : (input : List ℕ) (records list : ℕ) → Tells (salvage_of input records list)
  -- the lent pair has x and then y, or longitude and then latitude; a refusal leaves it
  pub pair_given : (pair : List ℤ) (first second : ℤ) → pair_after pair (given (first, second)) ≡ first ∷ second ∷ []
  pub pair_refused : (pair : List ℤ) (n : ℕ) → pair_after pair (refused n) ≡ pair
  -- the lent counts have the records taken and then the runs skipped; a refusal leaves them
  pub counts_given : (counts : List ℕ) (records runs : ℕ) → pair_after counts (given (records, runs)) ≡ records ∷ runs ∷ []
  pub counts_refused : (counts : List ℕ) (n : ℕ) → pair_after counts (refused n) ≡ counts
  -- a session is kept as its two counts, moved and then refused, and nothing is lost either way
  pub counts_are : (session : Session) → counts_of session ≡ session.moved ∷ session.refused ∷ []
  pub session_kept : (session : Session) → session_in (counts_of session) ≡ session
  pub counts_kept : (moved refused : ℕ) → counts_of (session_in (moved ∷ refused ∷ [])) ≡ moved ∷ refused ∷ []
