-- Positions and texts, and the examples.
use mathlib.Core.Path.{◌≡◌, refl, ap}
use mathlib.Core.Bool.{Bool, true, false, cond}
use mathlib.Core.List.{List}
use mathlib.Core.Logic.{◌⊎◌, inl, inr, ◌↔◌, ◌≢◌}
use Prim.Native.Nat.{ℕ, ◌≤◌}
use native.Mathlib.Omega.{arith}
use borrow.Author.Tests.{eqb-true, eqb-false, eq-eqb, ne_eqb, not-true, ltb-true, lt-ltb, not-false}
use lib.Dec.{eqb, ltb}
use lib.IntN.{ℤ, pos, negsuc, nat_abs}
use lib.ListN.{length, get_or}
use Rattle.whole.specs.declared.Signed.{Signed}
use Rattle.whole.specs.Signed.{join_of}
use Rattle.whole.proofs.Tests.{both}
use Rattle.angle.specs.Sexagesimal.{signed_of, below_sixty}
use Rattle.refusal.specs.Outcome.{given, unless}
use Rattle.digits.specs.Digits.{last_digits, value_from}
use Rattle.shape.specs.Shape.{slash, shape, stand}
use Rattle.shape.proofs.Standing.{long}
use Rattle.shape.proofs.Words.{sign_is, signs_at, points_at, slash_at, digits_stand, stands_so}
use Rattle.iso6709.specs.Part.{part_at, part_of}
use Rattle.iso6709.specs.Refusal.{bad_length, bad_shape, bad_sixties, is_minus_zero, bad_zero}
use Rattle.iso6709.specs.Answer.{latitude_in, longitude_in, read_order, both_of, text_of, write_order, read_of, write_of}
use Rattle.iso6709.proofs.Words.{value_two, value_three}
use Rattle.iso6709.proofs.Returning.{has_text, text_long, position_returns, text_returns, one_text}
use Rattle.claims.specs.Texts.{byte, two, three, InShape, BelowSixty, MinusZero, hundredths, sign_for, OneText, Texts}
use Rattle.claims.specs.TextExamples.{TextExamples, read, written}
use Rattle.claims.proofs.Refusals.{unless_given}

-- ---- the examples

pub text_examples : TextExamples
unfolding read written read_of write_of unless shape stand part_at value_from both_of part_of last_digits
text_examples = record { read_so = refl; written_so = refl }

-- ---- what the refusals of a text mean

by_12 : (n : ℕ) → ((bad_length n).applies ≡ true) ↔ (n ≢ 22)
by_12 n = (λ e. eqb-false n 22 (not-true (eqb n 22) e), λ h. rw (ne_eqb n 22 h))

by_13 : (text : List ℕ) → length text ≡ 22 → ((bad_shape text).applies ≡ false) ↔ InShape text
by_13 text n = (there, back)
  where
    there : (bad_shape text).applies ≡ false → InShape text
    there e =
        let st = not-false (stand shape text) e in
        record {
          first_sign = sign_is (get_or text 0 0) (signs_at text st).0;
          first_point = (points_at text st).0;
          second_sign = sign_is (get_or text 10 0) (signs_at text st).1;
          second_point = (points_at text st).1;
          slash = slash_at text st;
          digits = digits_stand text st;
        }

    back : InShape text → (bad_shape text).applies ≡ false
    back s =
        rw (stands_so text n s.first_sign s.first_point s.second_sign s.second_point s.slash s.digits)

by_14 : (text : List ℕ) → length text ≡ 22 → ((bad_sixties (longitude_in text) (latitude_in text)).applies ≡ false) ↔ BelowSixty text
unfolding part_at
by_14 text n =
    let m = value_two text 3 (omega arith) in
    let s = value_two text 5 (omega arith) in
    let m' = value_two text 14 (omega arith) in
    let s' = value_two text 16 (omega arith) in
    let e = longitude_in text in
    let f = latitude_in text in (
      λ passes.
          let b = both (below_sixty f) (below_sixty e) (not-false _ passes) in
          let north = both (ltb f.minutes 60) (ltb f.seconds 60) b.0 in
          let east = both (ltb e.minutes 60) (ltb e.seconds 60) b.1 in
          record {
            latitude_minutes = rw m at (ltb-true f.minutes 60 north.0);
            latitude_seconds = rw s at (ltb-true f.seconds 60 north.1);
            longitude_minutes = rw m' at (ltb-true e.minutes 60 east.0);
            longitude_seconds = rw s' at (ltb-true e.seconds 60 east.1);
          },
      λ b.
          rw (
            m,
            s,
            m',
            s',
            lt-ltb (two text 3) 60 b.latitude_minutes,
            lt-ltb (two text 5) 60 b.latitude_seconds,
            lt-ltb (two text 14) 60 b.longitude_minutes,
            lt-ltb (two text 16) 60 b.longitude_seconds,
          ),
    )

minus_zero : (s : Signed) → (is_minus_zero s ≡ true) ↔ MinusZero s
minus_zero s = (λ e. let b = both s.negative (eqb s.size 0) e in (b.0, eqb-true s.size 0 b.1), λ m. rw (m.0, eq-eqb s.size 0 m.1))

by_15 : (longitude latitude : Signed) → ((bad_zero longitude latitude).applies ≡ true) ↔ (MinusZero latitude ⊎ MinusZero longitude)
by_15 longitude latitude = (there, back)
  where
    go : (b : Bool) → is_minus_zero latitude ≡ b → cond b true (is_minus_zero longitude) ≡ true → MinusZero latitude ⊎ MinusZero longitude
    go true e h = inl ((minus_zero latitude).0 e)
    go false e h = inr ((minus_zero longitude).0 h)

    there : (bad_zero longitude latitude).applies ≡ true → MinusZero latitude ⊎ MinusZero longitude
    there h = go (is_minus_zero latitude) refl h

    either : (b : Bool) → is_minus_zero longitude ≡ true → cond b true (is_minus_zero longitude) ≡ true
    either true h = refl
    either false h = h

    back : MinusZero latitude ⊎ MinusZero longitude → (bad_zero longitude latitude).applies ≡ true
    back (inl m) = rw ((minus_zero latitude).1 m)
    back (inr m) = either (is_minus_zero latitude) ((minus_zero longitude).1 m)

-- ---- the angles of a text

latitude_is : (text : List ℕ) → length text ≡ 22 →
    signed_of (latitude_in text)
    ≡ record { negative = eqb (byte text 0) 45; size = hundredths (two text 1) (two text 3) (two text 5) (two text 8) }
unfolding part_at
latitude_is text n =
    rw (value_two text 1 (omega arith), value_two text 3 (omega arith), value_two text 5 (omega arith), value_two text 8 (omega arith))
    (ap (λ (k : ℕ). record { negative = eqb (byte text 0) 45; size = k }) (omega arith))

longitude_is : (text : List ℕ) → length text ≡ 22 →
    signed_of (longitude_in text)
    ≡ record { negative = eqb (byte text 10) 45; size = hundredths (three text 11) (two text 14) (two text 16) (two text 19) }
unfolding part_at
longitude_is text n =
    rw (value_three text 11 (omega arith), value_two text 14 (omega arith), value_two text 16 (omega arith), value_two text 19 (omega arith))
    (ap (λ (k : ℕ). record { negative = eqb (byte text 10) 45; size = k }) (omega arith))

read_is : (text : List ℕ) (longitude latitude : ℤ) → read_of text ≡ given (longitude, latitude) →
    (longitude ≡ join_of (signed_of (longitude_in text))) × (latitude ≡ join_of (signed_of (latitude_in text)))
unfolding read_of
read_is text longitude latitude e =
    let p = (unless_given (read_order text) _ (longitude, latitude) e).1 in
    (ap (λ (q : ℤ × ℤ). q.0) p, ap (λ (q : ℤ × ℤ). q.1) p)

-- ---- a position's text

only_text : (longitude latitude : ℤ) → nat_abs longitude ≤ 64800000 → nat_abs latitude ≤ 32400000 → OneText longitude latitude
only_text longitude latitude h k =
    let text = text_of longitude latitude in
    let r = has_text longitude latitude k h in
    record {
      text = text;
      long = text_long longitude latitude;
      written = text_returns longitude latitude text r;
      read = r;
      only = λ other e. one_text (longitude, latitude) other text e r;
    }

signs_written : (longitude latitude : ℤ) → (byte (text_of longitude latitude) 0 ≡ sign_for latitude) × (byte (text_of longitude latitude) 10 ≡ sign_for longitude)
unfolding both_of part_of last_digits
signs_written (pos n) (pos m) = (refl, refl)
signs_written (pos n) (negsuc m) = (refl, refl)
signs_written (negsuc n) (pos m) = (refl, refl)
signs_written (negsuc n) (negsuc m) = (refl, refl)

signs : (longitude latitude : ℤ) (text : List ℕ) → write_of longitude latitude 22 ≡ given text →
    (byte text 0 ≡ sign_for latitude) × (byte text 10 ≡ sign_for longitude)
unfolding write_of
signs longitude latitude text e =
    rw (unless_given (write_order longitude latitude 22) _ text e).1 (signs_written longitude latitude)

pub texts : Texts
texts =
    record {
      read_order_lem = λ text. refl;
      write_order_lem = λ longitude latitude room. refl;
      by_12 = by_12;
      by_13 = by_13;
      by_14 = by_14;
      by_15 = by_15;
      by_5 = λ latitude. (ltb-true 32400000 (nat_abs latitude), lt-ltb 32400000 (nat_abs latitude));
      by_4 = λ longitude. (ltb-true 64800000 (nat_abs longitude), lt-ltb 64800000 (nat_abs longitude));
      latitude_is = latitude_is;
      longitude_is = longitude_is;
      read_is = read_is;
      one_text = only_text;
      position_returns = position_returns;
      text_returns = λ text longitude latitude e. text_returns longitude latitude text e;
      same_text = λ text other longitude latitude e d. one_text (longitude, latitude) text other e d;
      signs = signs;
      text_written = λ text bytes. refl;
      text_kept = λ text n. refl;
    }
