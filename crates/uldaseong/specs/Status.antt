-- What a function of the C interface returns, and what lent memory holds afterwards.
use Rattle.std.specs.Prelude.{List, [], ◌∷◌, ℕ, get_or}
use Rattle.refusal.specs.Outcome.{Outcome, refused, given}
use Rattle.session.specs.declared.Session.{Session}

-- 0 where the call did what was asked, else the refusal's number
abbrev pub status_of : {A : Type 0} → Outcome A → ℕ
status_of (given a) = 0
status_of (refused n) = n

-- the lent pair: as it was where the call refused
abbrev pub pair_after : {A : Type 0} → List A → Outcome (A × A) → List A
pair_after pair (given answer) = answer.0 ∷ answer.1 ∷ []
pair_after pair (refused n) = pair

-- a session as its caller keeps it: moved, then refused
abbrev pub session_in : List ℕ → Session
session_in counts = record { moved = get_or counts 0 0; refused = get_or counts 1 0 }

abbrev pub counts_of : Session → List ℕ
counts_of session = session.moved ∷ session.refused ∷ []
