-- What a salvage answers, refusal by refusal in its order.
use mathlib.Core.Bool.{true, false}
use mathlib.Core.List.{List}
use mathlib.Core.Path.{◌≡◌, sym}
use Prim.Native.Nat.{ℕ, ◌≤◌, ◌<◌}
use borrow.Author.Tests.{lt-ltb, le-ltb, eq-eqb}
use lib.ListN.{length}
use Rattle.refusal.specs.Outcome.{refused, given, unless}
use Rattle.torn.specs.Pieces.{most, list_room, rooms_fit}
use Rattle.torn.specs.Answer.{counts_of, salvage_of}

module _ (input : List ℕ) (records list : ℕ) where
  pub answer_23 : most < length input → refused 23 ≡ salvage_of input records list
  unfolding salvage_of unless
  answer_23 h = rw (lt-ltb most (length input) h)

  pub answer_24 : length input ≤ most → rooms_fit (length input) records list ≡ false → refused 24 ≡ salvage_of input records list
  unfolding salvage_of unless
  answer_24 h k = rw (le-ltb most (length input) h, k)

  answer_counts : length input ≤ most → rooms_fit (length input) records list ≡ true →
      given (counts_of input) ≡ salvage_of input records list
  unfolding salvage_of unless
  answer_counts h k = rw (le-ltb most (length input) h, k)

  -- where the pieces have their lengths nothing is refused
  pub accepts : length input ≤ most → records ≡ length input → list ≡ list_room (length input) →
      salvage_of input records list ≡ given (counts_of input)
  accepts h r l =
      sym (answer_counts h (rw (eq-eqb records (length input) r, eq-eqb list (list_room (length input)) l)))
