-- Answers: a refusal by its number, or what was asked for. Refusals are numbers with their conditions, in an order, of which the first
-- that applies is given.
use Rattle.std.specs.Prelude.{Bool, true, false, cond, List, [], ◌∷◌, ℕ}

-- a refusal's number, and whether its condition holds
pub record Rule : Type 0 where
  pub number : ℕ
  pub applies : Bool

-- an answer as document 01 speaks of it: a refusal by its number, or what was asked for
pub data Outcome (A : Type 0) : Type 0 where
  refused : ℕ → Outcome A
  given : A → Outcome A

-- what holds of the number where an answer is a refusal
abbrev pub OfNumber : {A : Type 0} → (ℕ → Type 0) → Outcome A → Type 0
OfNumber P (refused n) = P n
OfNumber P (given a) = Unit {0}

-- f of what is given; a refusal stays
abbrev pub on_given : {A B : Type 0} → (A → B) → Outcome A → Outcome B
on_given f (given a) = given (f a)
on_given f (refused n) = refused n

-- what is answered to what is given; a refusal stays
abbrev pub and_then : {A B : Type 0} → (A → Outcome B) → Outcome A → Outcome B
and_then f (given a) = f a
and_then f (refused n) = refused n

-- what is given; where the answer is a refusal, what was there before
abbrev pub or_else : {A : Type 0} → A → Outcome A → A
or_else before (given a) = a
or_else before (refused n) = before

-- whether what was asked for is given
abbrev pub is_given : {A : Type 0} → Outcome A → Bool
is_given (given a) = true
is_given (refused n) = false

-- the first refusal that applies, or else a
unfoldable pub unless : {A : Type 0} → List Rule → A → Outcome A
unless [] a = given a
unless (r ∷ rs) a = cond r.applies (refused r.number) (unless rs a)
