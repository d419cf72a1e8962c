-- A place with a sign turned: the side that it is refused for turns with it, and nothing else does (order 6). Said once for the calls
-- on whole numbers and those on floats, and for both calls that take a record.
use Rattle.std.specs.Prelude.{cond, List, ◌↔◌, ◌≢◌, ◌≡◌, ℕ, eqb, ℤ, neg_ℤ}
use Rattle.refusal.specs.Outcome.{Outcome, refused, given}
use Rattle.record.specs.Record.{position, central_in, form_in, first_in, second_in}
use Rattle.claims.specs.Demand3.{Calls, numbers, floats, TurnedFloat, difference}
use Rattle.claims.specs.RecordLaws.{RecordCall, converting, feeding, SameHead, TurnedEast, TurnedNorth}

-- a and b exchanged; every other number stays
abbrev pub exchanged : ℕ → ℕ → ℕ → ℕ
exchanged a b n = cond (eqb n a) b (cond (eqb n b) a n)

-- east and west exchanged, and north and south
abbrev pub other_side : ℕ → ℕ
other_side = exchanged 7 17

abbrev pub other_pole : ℕ → ℕ
other_pole = exchanged 6 18

-- the one is refused exactly when the other is, by the number that f makes of its number; and what both give stands in R
pub record AlikeBy {A : Type 0} (f : ℕ → ℕ) (R : A → A → Type 0) (first second : Outcome A) : Type 0 where
  pub refusals : (n : ℕ) → (first ≡ refused n) ↔ (second ≡ refused (f n))
  pub answers : (p q : A) → first ≡ given p → second ≡ given q → R p q

module _ (w : Calls) where
  -- the latitude the same; the longitude turned and the latitude the same; the latitude turned and the longitude the same
  abbrev pub SameLatitude : w.Angle × w.Angle → w.Angle × w.Angle → Type 0
  SameLatitude p q = w.centiseconds q.1 ≡ w.centiseconds p.1

  abbrev pub TurnedLongitude : w.Angle × w.Angle → w.Angle × w.Angle → Type 0
  TurnedLongitude p q = (w.centiseconds q.0 ≡ neg_ℤ (w.centiseconds p.0)) × (w.centiseconds q.1 ≡ w.centiseconds p.1)

  abbrev pub TurnedLatitude : w.Angle × w.Angle → w.Angle × w.Angle → Type 0
  TurnedLatitude p q = (w.centiseconds q.0 ≡ w.centiseconds p.0) × (w.centiseconds q.1 ≡ neg_ℤ (w.centiseconds p.1))

  -- TurnedUnits: when a second coordinate is the first with its sign turned
  pub record PlacesTurn (TurnedUnits : w.Coordinate → w.Coordinate → Type 0) : Type 0 where
    -- x turned: the latitude stays, and the difference from the central meridian is turned
    pub x : (kind : ℕ) (c : w.Angle) (x x' y : w.Coordinate) → TurnedUnits x x' →
        AlikeBy other_side SameLatitude (w.inverse kind c x y) (w.inverse kind c x' y)
    pub difference_turned : (kind : ℕ) (x x' y : w.Coordinate) → TurnedUnits x x' →
        difference w kind x' y ≡ neg_ℤ (difference w kind x y)
    -- x and the central meridian turned together: the longitude is turned
    pub x_and_central : (kind : ℕ) (c c' : w.Angle) (x x' y : w.Coordinate) → w.Turned c c' → TurnedUnits x x' →
        AlikeBy other_side TurnedLongitude (w.inverse kind c x y) (w.inverse kind c' x' y)
    -- y turned: the latitude is turned
    pub y : (kind : ℕ) (c : w.Angle) (x y y' : w.Coordinate) → TurnedUnits y y' →
        AlikeBy other_pole TurnedLatitude (w.inverse kind c x y) (w.inverse kind c x y')

-- t is s with x's sign turned; with that of the central meridian too it is TurnedEast, and with y's sign turned TurnedNorth
pub record TurnedXAlone (s t : List ℕ) : Type 0 where
  pub head : SameHead s t
  pub central : central_in t ≡ central_in s
  pub x : first_in t ≡ neg_ℤ (first_in s)
  pub y : second_in t ≡ second_in s

-- a record whose form is not 0 is a place, or refused by 10 or earlier
pub record RecordPlacesTurn (h : RecordCall) : Type 0 where
  pub x : (t : h.State) (s s' : List ℕ) (output : ℕ) → form_in s ≢ position → TurnedXAlone s s' →
      AlikeBy other_side (SameLatitude numbers) (h.answer t s output) (h.answer t s' output)
  pub x_and_central : (t : h.State) (s s' : List ℕ) (output : ℕ) → form_in s ≢ position → TurnedEast s s' →
      AlikeBy other_side (TurnedLongitude numbers) (h.answer t s output) (h.answer t s' output)
  pub y : (t : h.State) (s s' : List ℕ) (output : ℕ) → form_in s ≢ position → TurnedNorth s s' →
      AlikeBy other_pole (TurnedLatitude numbers) (h.answer t s output) (h.answer t s' output)

pub record TurnedPlaces : Type 0 where
  pub of_numbers : PlacesTurn numbers (λ (z t : ℤ). t ≡ neg_ℤ z)
  pub of_floats : PlacesTurn floats TurnedFloat
  pub of_convert_record : RecordPlacesTurn converting
  pub of_feed : RecordPlacesTurn feeding
