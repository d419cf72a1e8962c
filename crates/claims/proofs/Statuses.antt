-- No refusal has the number 0, so that a status of 0 tells.
use mathlib.Core.List.{List}
use mathlib.Core.Path.{refl, sym, ap, subst}
use Prim.Native.Nat.{ℕ}
use lib.Dec.{T, ltb}
use Rattle.refusal.specs.Outcome.{Rule, Outcome, refused, given, OfNumber, unless}
use Rattle.parallel.proofs.Orders.{OfNumbers, unless_number}
use Rattle.projection.specs.Answer.{forward_of, inverse_of}
use Rattle.degrees.specs.Answer.{forward_of as forward_degrees, inverse_of as inverse_degrees}
use Rattle.iso6709.specs.Answer.{read_of, write_of}
use Rattle.record.specs.Answer.{convert_of}
use Rattle.record.proofs.Orders.{pair_numbers}
use Rattle.note.specs.Answer.{written_as, read_as}
use Rattle.torn.specs.Answer.{salvage_of}
use Rattle.session.specs.Session.{feed_of}
use Rattle.session.proofs.Handovers.{restored_order}
use Rattle.uldaseong.specs.Status.{status_of}
use Rattle.claims.specs.Interface.{Tells, Interface}

abbrev Above0 : ℕ → Type 0
Above0 n = T (ltb 0 n)

tells : {A : Type 0} (outcome : Outcome A) → OfNumber Above0 outcome → Tells outcome
tells (given a) h = record { converted = (λ e. tt, λ c. refl); number = λ n e. ap status_of e }
tells (refused m) h = record { converted = (λ e. subst Above0 e h, λ c. absurd c); number = λ n e. ap status_of e }

ordered : {A : Type 0} (order : List Rule) (a : A) → OfNumbers Above0 order → Tells (unless order a)
ordered order a h = tells (unless order a) (unless_number Above0 order a h)

pub interface : Interface
unfolding forward_of inverse_of forward_degrees inverse_degrees convert_of feed_of read_of write_of written_as read_as salvage_of
interface =
    record {
      forward = λ kind c l f. ordered _ _ (tt, (tt, (tt, (tt, tt))));
      inverse = λ kind c x y. ordered _ _ (tt, (tt, (tt, (tt, (tt, (tt, tt))))));
      forward_degrees_lem = λ kind c l f. ordered _ _ (tt, (tt, (tt, (tt, (tt, (tt, (tt, tt)))))));
      inverse_degrees_lem = λ kind c x y. ordered _ _ (tt, (tt, (tt, (tt, (tt, (tt, (tt, (tt, (tt, tt)))))))));
      convert_record = λ input output. ordered _ _ (tt, (tt, (tt, pair_numbers Above0 input tt tt tt tt tt tt tt tt)));
      feed = λ session input output. ordered _ _ (tt, (tt, (tt, (tt, pair_numbers Above0 input tt tt tt tt tt tt tt tt))));
      read_text_lem = λ text. ordered _ _ (tt, (tt, (tt, (tt, (tt, (tt, tt))))));
      write_text_lem = λ l f room. ordered _ _ (tt, (tt, (tt, tt)));
      save = λ session room. ordered _ _ (tt, (tt, tt));
      restore = λ note. subst Tells (sym (restored_order note)) (ordered _ _ (tt, (tt, (tt, tt))));
      salvage = λ input records list. ordered _ _ (tt, (tt, tt));
      pair_given = λ pair first second. refl;
      pair_refused = λ pair n. refl;
      counts_given = λ counts records runs. refl;
      counts_refused = λ counts n. refl;
      counts_are = λ session. refl;
      session_kept = λ session. refl;
      counts_kept = λ m r. refl;
    }
