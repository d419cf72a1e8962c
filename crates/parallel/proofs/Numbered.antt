-- What a number is answered as a kind.
use Rattle.std.proofs.Common.{◌≡◌, refl, sym, Bool, true, false, not, cond, ℕ, Result, Ok, Err}
use Rattle.std.specs.Prelude.{is_ok}
use Rattle.refusal.specs.declared.Refusal.{Refusal}
use Rattle.refusal.specs.Outcome.{refused, given, unless}
use Rattle.refusal.specs.Number.{number_of as refusal_number}
use Rattle.parallel.specs.declared.kind.Kind.{Kind}
use Rattle.parallel.specs.Kind.{number_of, KindOf}
use Rattle.parallel.specs.Refusal.{is_kind}
use Rattle.parallel.proofs.Orders.{not_both}

-- a kind is answered to its own number alone
pub known : (number : ℕ) (kind : Kind) → KindOf number (Ok kind) → (is_kind number ≡ true) × (number_of kind ≡ number)
unfolding unless
known number kind h = go (is_kind number) refl h
  where
    go : (b : Bool) → is_kind number ≡ b → given (number_of kind) ≡ cond (not b) (refused 1) (given number) →
        (is_kind number ≡ true) × (number_of kind ≡ number)
    go true e h = (e, cc)
    go false e h = absurd (not_both _ _ (sym h))

-- and 1 to any other
pub unknown : (number : ℕ) (refusal : Refusal) → KindOf number (Err refusal) →
    (is_kind number ≡ false) × (refusal_number refusal ≡ 1)
unfolding unless
unknown number refusal h = go (is_kind number) refl h
  where
    go : (b : Bool) → is_kind number ≡ b → refused (refusal_number refusal) ≡ cond (not b) (refused 1) (given number) →
        (is_kind number ≡ false) × (refusal_number refusal ≡ 1)
    go true e h = absurd (not_both _ _ h)
    go false e h = (e, cc)

pub ok_is : (number : ℕ) (answer : Result Kind Refusal) → KindOf number answer → is_ok answer ≡ is_kind number
ok_is number (Ok kind) h = sym (known number kind h).0
ok_is number (Err refusal) h = sym (unknown number refusal h).0
