-- Each refusal of a place says which edge of the map it is past.
use mathlib.Core.Bool.{Bool, true, false, cond}
use mathlib.Core.List.{List, [], ◌∷◌}
use mathlib.Core.Path.{◌≡◌, refl, sym}
use Prim.Native.Nat.{ℕ, suc}
use native.Mathlib.Omega.{arith}
use borrow.Author.Tests.{ltb-true}
use lib.Dec.{eqb}
use lib.Ieee.{Float}
use lib.IntN.{ℤ, pos, negsuc}
use Rattle.whole.specs.Nearest.{nearest, carry}
use Rattle.angle.specs.Angle.{H, above, below}
use Rattle.angle.proofs.Sides.{one_side, either_side}
use Rattle.sine.specs.Series.{angle, next, alternating, series}
use Rattle.sine.specs.Table.{entry_of, entries_from, table}
use Rattle.sine.specs.Sine.{line, sine_of, cosine_of}
use Rattle.parallel.specs.Table.{rows, row_of}
use Rattle.parallel.specs.Parallel.{radicand, q_by, q_at, one_by, one_of, numerator, half_width, height}
use Rattle.parallel.specs.Latitude.{latitude_size, latitude_at, width_at}
use Rattle.refusal.specs.Outcome.{Rule, refused, unless}
use Rattle.parallel.specs.Refusal.{is_kind}
use Rattle.parallel.proofs.Orders.{not_both}
use Rattle.projection.specs.Longitude.{wrap}
use Rattle.projection.specs.Inverse.{difference_at, position_of}
use Rattle.projection.specs.Answer.{forward_order, row_order, inverse_order, inverse_of}
use Rattle.reading.specs.Reading.{centiseconds, units}
use Rattle.degrees.specs.Answer.{written_position, inverse_order as inverse_degrees_order, inverse_of as inverse_degrees}
use Rattle.record.specs.Record.{kind_in, form_in, central_in, first_in, second_in}
use Rattle.record.specs.Answer.{pair_order, pair_of, record_order, convert_order, convert_of}
use Rattle.session.specs.declared.Session.{Session}
use Rattle.session.specs.Session.{feed_order, feed_of}
use Rattle.claims.specs.Edges.{Above, Below, TellsSide, Edges}

is_above : (n : ℕ) (z : ℤ) → above n z ≡ true → Above n z
is_above n (pos m) e = (m, refl, ltb-true n m e)
is_above n (negsuc m) e = absurd (omega (arith, ltb-true n 0 e))

is_below : (n : ℕ) (z : ℤ) → below n z ≡ true → Below n z
is_below n (pos m) e = absurd (omega (arith, ltb-true n 0 e))
is_below n (negsuc m) e = (suc m, refl, ltb-true n (suc m) e)

-- what holds of the number of each refusal of an order that applies holds of the number that is answered
abbrev OfApplying : (ℕ → Type 0) → List Rule → Type 0
OfApplying P [] = Unit {0}
OfApplying P (r ∷ rs) = (r.applies ≡ true → P r.number) × OfApplying P rs

of_applying : {A : Type 0} (P : ℕ → Type 0) (order : List Rule) (a : A) → OfApplying P order → (n : ℕ) → unless order a ≡ refused n → P n
unfolding unless
of_applying P [] a h n e = absurd (not_both n a (sym e))
of_applying P (r ∷ rs) a h n e = go r.applies refl e (of_applying P rs a h.1 n)
  where
    go : (b : Bool) → r.applies ≡ b → cond b (refused r.number) (unless rs a) ≡ refused n → (unless rs a ≡ refused n → P n) → P n
    go true t k on = let s : r.number ≡ n = cc in rw s at (h.0 t)
    go false t k on = on k

module _ (kind : ℕ) (x y : ℤ) where
  -- what a number tells of a place: 6, 18, 7 and 17 its side, and any other nothing
  abbrev Told : ℕ → Type 0
  Told n =
      cond (eqb n 6) (Above (height (row_of kind) H) y)
      (cond (eqb n 18) (Below (height (row_of kind) H) y)
      (cond (eqb n 7) (Above (width_at (row_of kind) y) x) (cond (eqb n 17) (Below (width_at (row_of kind) y) x) (Unit {0}))))

  row_told : OfApplying Told (row_order (row_of kind) x y)
  row_told =
      let n = height (row_of kind) H in
      let w = width_at (row_of kind) y in
      (is_above n y, (is_below n y, (is_above w x, (is_below w x, tt))))

  tells : {A : Type 0} (order : List Rule) (a : A) → OfApplying Told order → TellsSide (unless order a) kind x y
  tells order a h =
      record {
        north = of_applying Told order a h 6;
        south = of_applying Told order a h 18;
        east = of_applying Told order a h 7;
        west = of_applying Told order a h 17;
      }

numbers : (kind : ℕ) (c x y : ℤ) → TellsSide (inverse_of kind c x y) kind x y
unfolding inverse_of
numbers kind c x y =
    tells kind x y (inverse_order kind c x y) (position_of (row_of kind) c x y) (λ _. tt, (λ _. tt, row_told kind x y))

floats : (kind : ℕ) (c x y : Float) → TellsSide (inverse_degrees kind c x y) kind (units x) (units y)
unfolding inverse_degrees
floats kind c x y =
    tells kind (units x) (units y) (inverse_degrees_order kind c x y)
    (written_position (position_of (row_of kind) (centiseconds c) (units x) (units y)))
    (λ _. tt, (λ _. tt, (λ _. tt, (λ _. tt, (λ _. tt, row_told kind (units x) (units y))))))

module _ (s : List ℕ) where
  -- a record that holds a position is refused by 4 and 5 instead
  record_told : OfApplying (Told (kind_in s) (first_in s) (second_in s)) (record_order s)
  unfolding pair_order
  record_told = (λ _. tt, (λ _. tt, go (eqb (form_in s) 0)))
    where
      go : (b : Bool) →
          OfApplying (Told (kind_in s) (first_in s) (second_in s))
          (cond b (forward_order (kind_in s) (central_in s) (first_in s) (second_in s)) (inverse_order (kind_in s) (central_in s) (first_in s) (second_in s)))
      go true = (λ _. tt, (λ _. tt, (λ _. tt, (λ _. tt, tt))))
      go false = (λ _. tt, (λ _. tt, row_told (kind_in s) (first_in s) (second_in s)))

  convert_record : (output : ℕ) → TellsSide (convert_of s output) (kind_in s) (first_in s) (second_in s)
  unfolding convert_of
  convert_record output =
      tells (kind_in s) (first_in s) (second_in s) (convert_order s output) (pair_of s) (λ _. tt, record_told)

  feed : (t : Session) (output : ℕ) → TellsSide (feed_of t s output) (kind_in s) (first_in s) (second_in s)
  unfolding feed_of
  feed t output =
      tells (kind_in s) (first_in s) (second_in s) (feed_order t s output) (pair_of s) (λ _. tt, (λ _. tt, record_told))

pub edges : Edges
unfolding inverse_of unless is_kind position_of latitude_at latitude_size width_at difference_at height wrap row_of rows
    half_width numerator one_of one_by q_at radicand q_by nearest carry cosine_of sine_of line entry_of entries_from table series alternating angle next
edges =
    record {
      one_pole = λ r y. one_side (height r H) y;
      one_side = one_side;
      either_pole = λ r y. either_side (height r H) y;
      either_side = either_side;
      numbers = numbers;
      floats = floats;
      convert_record = convert_record;
      feed = λ t s. feed s t;
      on_the_edges = (refl, refl, refl, refl, refl);
      past_the_edges = (refl, refl, refl, refl, refl, refl);
      poles_first = (refl, refl);
    }
