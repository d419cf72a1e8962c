-- A place with a sign turned, sent back: numbers, floats and records.
use mathlib.Core.List.{List, [], ◌∷◌}
use mathlib.Core.Logic.{◌↔◌, ◌≢◌}
use mathlib.Core.Path.{◌≡◌, refl}
use Prim.Native.Nat.{ℕ}
use native.Mathlib.Omega.{arith}
use lib.Ieee.{Float}
use lib.Ieee.Scale.{finite}
use lib.IntN.{ℤ, neg_ℤ}
use Rattle.whole.proofs.Signs.{nat_abs_neg}
use Rattle.angle.specs.Angle.{per_degree, H}
use Rattle.parallel.specs.declared.table.Row.{Row}
use Rattle.parallel.specs.Table.{row_of}
use Rattle.parallel.specs.Parallel.{height}
use Rattle.parallel.specs.Latitude.{width_at}
use Rattle.refusal.specs.Outcome.{refused, given, unless}
use Rattle.parallel.specs.Refusal.{bad_kind}
use Rattle.parallel.specs.Answer.{pole_order}
use Rattle.parallel.proofs.Heights.{latitude_turned, width_turned}
use Rattle.parallel.proofs.Orders.{sides}
use Rattle.projection.specs.Inverse.{difference_at, position_of}
use Rattle.projection.specs.Refusal.{bad_central}
use Rattle.projection.specs.Answer.{row_order, inverse_of}
use Rattle.projection.proofs.Found.{difference_turned, longitude_turned}
use Rattle.reading.specs.Reading.{centiseconds, units, outside}
use Rattle.degrees.specs.Refusal.{bad_float, bad_central as bad_meridian}
use Rattle.degrees.specs.Answer.{written_position, inverse_of as inverse_degrees}
use Rattle.record.specs.Record.{position, kind_in, form_in, central_in, first_in, second_in}
use Rattle.claims.specs.Demand3.{numbers, floats, TurnedFloat}
use Rattle.claims.specs.RecordLaws.{RecordCall, converting, feeding, TurnedEast, TurnedNorth}
use Rattle.claims.specs.TurnedPlaces.{other_side, other_pole, AlikeBy, SameLatitude, TurnedLongitude, TurnedLatitude, PlacesTurn, TurnedXAlone, RecordPlacesTurn, TurnedPlaces}
use Rattle.claims.proofs.Floats.{turned_read, turned_finite, turned_outside, floats_by_numbers}
use Rattle.claims.proofs.Pieces.{Answers, Stays, converting_answers, feeding_answers}
use Rattle.claims.proofs.Records.{fed_alike}
use Rattle.claims.proofs.Sided.{exchanged_other, both_refused, both_given, after, turned_sides}

-- a row's order, with x turned or y
module _ {A : Type 0} (R : A → A → Type 0) (r : Row) (x y : ℤ) (p q : A) (h : R p q) where
  row_x : AlikeBy other_side R (unless (row_order r x y) p) (unless (row_order r (neg_ℤ x) y) q)
  unfolding unless
  row_x =
      let w = width_at r y in
      after 7 17 refl R (pole_order r y) (sides 7 17 w x []) (sides 7 17 w (neg_ℤ x) []) p q (refl, (refl, tt))
      (turned_sides 7 17 refl R w x [] [] p q (both_given 7 17 refl R p q h))

  row_y : AlikeBy other_pole R (unless (row_order r x y) p) (unless (row_order r x (neg_ℤ y)) q)
  unfolding unless
  row_y =
      let rest = sides 7 17 (width_at r y) x [] in
      rw (width_turned r y)
      (turned_sides 6 18 refl R (height r H) y rest rest p q
      (after 6 18 refl R rest [] [] p q (refl, (refl, tt)) (both_given 6 18 refl R p q h)))

-- ---- numbers

numbers_x : (kind : ℕ) (c x y : ℤ) → AlikeBy other_side (SameLatitude numbers) (inverse_of kind c x y) (inverse_of kind c (neg_ℤ x) y)
unfolding inverse_of position_of
numbers_x kind c x y =
    let r = row_of kind in
    let p = position_of r c x y in
    let q = position_of r c (neg_ℤ x) y in
    after 7 17 refl (SameLatitude numbers) (bad_kind kind ∷ bad_central c ∷ []) (row_order r x y) (row_order r (neg_ℤ x) y) p q
    (refl, (refl, tt)) (row_x (SameLatitude numbers) r x y p q refl)

numbers_central : (kind : ℕ) (c x y : ℤ) →
    AlikeBy other_side (TurnedLongitude numbers) (inverse_of kind c x y) (inverse_of kind (neg_ℤ c) (neg_ℤ x) y)
unfolding inverse_of position_of
numbers_central kind c x y =
    let r = row_of kind in
    let w = width_at r y in
    let p = position_of r c x y in
    let q = position_of r (neg_ℤ c) (neg_ℤ x) y in
    rw (nat_abs_neg c)
    (after 7 17 refl (TurnedLongitude numbers) (bad_kind kind ∷ bad_central c ∷ []) (row_order r x y) (row_order r (neg_ℤ x) y) p q
    (refl, (refl, tt))
    (row_x (TurnedLongitude numbers) r x y p q (rw (difference_turned w x) (longitude_turned c (difference_at w x)), refl)))

numbers_y : (kind : ℕ) (c x y : ℤ) → AlikeBy other_pole (TurnedLatitude numbers) (inverse_of kind c x y) (inverse_of kind c x (neg_ℤ y))
unfolding inverse_of position_of
numbers_y kind c x y =
    let r = row_of kind in
    let p = position_of r c x y in
    let q = position_of r c x (neg_ℤ y) in
    after 6 18 refl (TurnedLatitude numbers) (bad_kind kind ∷ bad_central c ∷ []) (row_order r x y) (row_order r x (neg_ℤ y)) p q
    (refl, (refl, tt)) (row_y (TurnedLatitude numbers) r x y p q (rw (width_turned r y), latitude_turned r y))

of_numbers : PlacesTurn numbers (λ (z t : ℤ). t ≡ neg_ℤ z)
of_numbers =
    record {
      x = λ kind c x x' y h. rw h (numbers_x kind c x y);
      difference_turned = λ kind x x' y h. rw h (difference_turned (width_at (row_of kind) y) x);
      x_and_central = λ kind c c' x x' y h k. rw (h, k) (numbers_central kind c x y);
      y = λ kind c x y y' h. rw h (numbers_y kind c x y);
    }

-- ---- floats: refused by their own order, and answered as the numbers read

abbrev Any : Float × Float → Float × Float → Type 0
Any p q = Unit {0}

refused_x : (kind : ℕ) (c c' x x' y : Float) → finite c' ≡ finite c → outside 180 c' ≡ outside 180 c → TurnedFloat x x' → (n : ℕ) →
    (inverse_degrees kind c x y ≡ refused n) ↔ (inverse_degrees kind c' x' y ≡ refused (other_side n))
unfolding inverse_degrees
refused_x kind c c' x x' y f o h =
    let r = row_of kind in
    let p = written_position (position_of r (centiseconds c) (units x) (units y)) in
    let q = written_position (position_of r (centiseconds c') (neg_ℤ (units x)) (units y)) in
    rw (f, o, turned_finite x x' h, turned_read 1 x x' h)
    (after 7 17 refl Any (bad_kind kind ∷ bad_float c ∷ bad_float x ∷ bad_float y ∷ bad_meridian c ∷ [])
    (row_order r (units x) (units y)) (row_order r (neg_ℤ (units x)) (units y)) p q
    (refl, (refl, (refl, (refl, (refl, tt))))) (row_x Any r (units x) (units y) p q tt)).refusals

refused_y : (kind : ℕ) (c x y y' : Float) → TurnedFloat y y' → (n : ℕ) →
    (inverse_degrees kind c x y ≡ refused n) ↔ (inverse_degrees kind c x y' ≡ refused (other_pole n))
unfolding inverse_degrees
refused_y kind c x y y' h =
    let r = row_of kind in
    let p = written_position (position_of r (centiseconds c) (units x) (units y)) in
    let q = written_position (position_of r (centiseconds c) (units x) (neg_ℤ (units y))) in
    rw (turned_finite y y' h, turned_read 1 y y' h)
    (after 6 18 refl Any (bad_kind kind ∷ bad_float c ∷ bad_float x ∷ bad_float y ∷ bad_meridian c ∷ [])
    (row_order r (units x) (units y)) (row_order r (units x) (neg_ℤ (units y))) p q
    (refl, (refl, (refl, (refl, (refl, tt))))) (row_y Any r (units x) (units y) p q tt)).refusals

-- the numbers of a pair of floats, and the answer there
abbrev read : Float × Float → ℤ × ℤ
read p = (centiseconds p.0, centiseconds p.1)

on_numbers : (kind : ℕ) (c x y : Float) (p : Float × Float) → inverse_degrees kind c x y ≡ given p →
    inverse_of kind (centiseconds c) (units x) (units y) ≡ given (read p)
on_numbers kind c x y p e = (floats_by_numbers.sent_back kind c x y p.0 p.1 e).on_numbers

of_floats : PlacesTurn floats TurnedFloat
of_floats =
    record {
      x = λ kind c x x' y h.
          record {
            refusals = refused_x kind c c x x' y refl refl h;
            answers = λ p q e g.
                (of_numbers.x kind (centiseconds c) (units x) (units x') (units y) (turned_read 1 x x' h)
                ).answers (read p) (read q) (on_numbers kind c x y p e) (on_numbers kind c x' y q g);
          };
      difference_turned = λ kind x x' y h. of_numbers.difference_turned kind (units x) (units x') (units y) (turned_read 1 x x' h);
      x_and_central = λ kind c c' x x' y h k.
          record {
            refusals = refused_x kind c c' x x' y (turned_finite c c' h) (turned_outside 180 c c' h) k;
            answers = λ p q e g.
                (of_numbers.x_and_central kind (centiseconds c) (centiseconds c') (units x) (units x') (units y)
                (turned_read per_degree c c' h) (turned_read 1 x x' k)
                ).answers (read p) (read q) (on_numbers kind c x y p e) (on_numbers kind c' x' y q g);
          };
      y = λ kind c x y y' h.
          record {
            refusals = refused_y kind c x y y' h;
            answers = λ p q e g.
                (of_numbers.y kind (centiseconds c) (units x) (units y) (units y') (turned_read 1 y y' h)
                ).answers (read p) (read q) (on_numbers kind c x y p e) (on_numbers kind c x y' q g);
          };
    }

-- ---- records

stays_x : (R : ℤ × ℤ → ℤ × ℤ → Type 0) → Stays (AlikeBy other_side R)
stays_x R n l h = both_refused 7 17 refl R n n (exchanged_other 7 17 n (omega arith) (omega arith))

stays_y : (R : ℤ × ℤ → ℤ × ℤ → Type 0) → Stays (AlikeBy other_pole R)
stays_y R n l h = both_refused 6 18 refl R n n (exchanged_other 6 18 n (omega arith) (omega arith))

module _ (h : RecordCall) (a : Answers h) where
  record_x : (t : h.State) (s s' : List ℕ) (output : ℕ) → form_in s ≢ position → TurnedXAlone s s' →
      AlikeBy other_side (SameLatitude numbers) (h.answer t s output) (h.answer t s' output)
  record_x t s s' output n k =
      fed_alike h a (AlikeBy other_side (SameLatitude numbers)) (stays_x (SameLatitude numbers)) t s s' output k.head (λ e. absurd (n e))
      (λ _. rw (k.central, k.y) (of_numbers.x (kind_in s) (central_in s) (first_in s) (first_in s') (second_in s) k.x))

  record_central : (t : h.State) (s s' : List ℕ) (output : ℕ) → form_in s ≢ position → TurnedEast s s' →
      AlikeBy other_side (TurnedLongitude numbers) (h.answer t s output) (h.answer t s' output)
  record_central t s s' output n k =
      fed_alike h a (AlikeBy other_side (TurnedLongitude numbers)) (stays_x (TurnedLongitude numbers)) t s s' output k.head
      (λ e. absurd (n e))
      (λ _. rw k.latitude
      (of_numbers.x_and_central (kind_in s) (central_in s) (central_in s') (first_in s) (first_in s') (second_in s) k.central k.longitude))

  record_y : (t : h.State) (s s' : List ℕ) (output : ℕ) → form_in s ≢ position → TurnedNorth s s' →
      AlikeBy other_pole (TurnedLatitude numbers) (h.answer t s output) (h.answer t s' output)
  record_y t s s' output n k =
      fed_alike h a (AlikeBy other_pole (TurnedLatitude numbers)) (stays_y (TurnedLatitude numbers)) t s s' output k.head
      (λ e. absurd (n e))
      (λ _. rw (k.central, k.longitude)
      (of_numbers.y (kind_in s) (central_in s) (first_in s) (second_in s) (second_in s') k.latitude))

  of_records : RecordPlacesTurn h
  of_records = record { x = record_x; x_and_central = record_central; y = record_y }

pub turned_places : TurnedPlaces
turned_places =
    record {
      of_numbers = of_numbers;
      of_floats = of_floats;
      of_convert_record = of_records converting converting_answers;
      of_feed = of_records feeding feeding_answers;
    }
