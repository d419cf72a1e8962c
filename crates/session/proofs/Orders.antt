-- The answer of a call of feed, refusal by refusal in its order.
use mathlib.Core.List.{List}
use mathlib.Core.Path.{◌≡◌}
use Prim.Native.Nat.{ℕ}
use Rattle.refusal.specs.Outcome.{refused, unless}
use Rattle.parallel.proofs.Orders.{Applies, Passes}
use Rattle.record.specs.Refusal.{bad_pieces}
use Rattle.record.specs.Answer.{convert_of}
use Rattle.session.specs.declared.Session.{Session}
use Rattle.session.specs.Session.{full, feed_of}

module _ (session : Session) (input : List ℕ) (output : ℕ) where
  pub fed_8 : Applies (bad_pieces input output) → refused 8 ≡ feed_of session input output
  unfolding feed_of unless
  fed_8 b = rw b

  pub fed_11 : Passes (bad_pieces input output) → Applies (full session) → refused 11 ≡ feed_of session input output
  unfolding feed_of unless
  fed_11 b f = rw (b, f)

  -- a session that is not full answers as the record alone is answered
  pub fed : Passes (full session) → convert_of input output ≡ feed_of session input output
  unfolding feed_of convert_of unless
  fed f = rw f
