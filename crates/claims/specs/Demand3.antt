-- Demand 3, said once for the calls on whole numbers and those on floats. For records, whose pieces and session
-- may refuse beyond that, it is said in RecordLaws.
use Rattle.std.specs.Prelude.{◌⊎◌, ◌≢◌, ◌↔◌, ◌≡◌, true, ℕ, ◌≤◌, ◌<◌, Float, ℤ, pos, neg_ℤ, nat_abs, ◌-ℤ◌}
use Rattle.std.specs.Float.{binary64}
use Rattle.std.specs.Float.Ieee.{neg, eq, of_int}
use Rattle.angle.specs.Angle.{N}
use Rattle.parallel.specs.Table.{row_of}
use Rattle.parallel.specs.Parallel.{half_width}
use Rattle.parallel.specs.Latitude.{width_at}
use Rattle.refusal.specs.Outcome.{Outcome, refused, given}
use Rattle.projection.specs.Inverse.{difference_at}
use Rattle.projection.specs.Answer.{forward_of, inverse_of}
use Rattle.reading.specs.Reading.{centiseconds, units}
use Rattle.degrees.specs.Answer.{forward_of as forward_degrees, inverse_of as inverse_degrees}

-- what is handed in and answered, the whole numbers that it stands for, when a second angle is the first with its sign
-- turned, and the two calls
pub record Calls : Type 1 where
  pub Angle : Type 0
  pub Coordinate : Type 0
  pub centiseconds : Angle → ℤ
  pub units : Coordinate → ℤ
  pub Turned : Angle → Angle → Type 0
  pub forward : ℕ → Angle → Angle → Angle → Outcome (Coordinate × Coordinate)
  pub inverse : ℕ → Angle → Coordinate → Coordinate → Outcome (Angle × Angle)

-- whole numbers
abbrev pub numbers : Calls
numbers =
    record {
      Angle = ℤ;
      Coordinate = ℤ;
      centiseconds = λ (z : ℤ). z;
      units = λ (z : ℤ). z;
      Turned = λ (z t : ℤ). t ≡ neg_ℤ z;
      forward = forward_of;
      inverse = inverse_of;
    }

-- floats, of which each stands for the whole number read from it. Turned, a float is its negative, a zero has either sign,
-- and a NaN is a NaN
abbrev pub TurnedFloat : Float → Float → Type 0
TurnedFloat x t = (t ≡ neg x) ⊎ ((t ≡ x) × (eq x (of_int binary64 (pos 0)) ≡ true))

abbrev pub floats : Calls
floats =
    record {
      Angle = Float;
      Coordinate = Float;
      centiseconds = centiseconds;
      units = units;
      Turned = TurnedFloat;
      forward = forward_degrees;
      inverse = inverse_degrees;
    }

-- -N and N are one meridian
abbrev pub OneMeridian : ℤ → ℤ → Type 0
OneMeridian l m = (l ≡ m) ⊎ ((nat_abs l ≡ N) × (nat_abs m ≡ N))

-- the same longitude, 180 west and 180 east counting as one unless the central meridian c is 0
abbrev pub SameAt : ℤ → ℤ → ℤ → Type 0
SameAt c m l = (m ≡ l) ⊎ ((c ≢ pos 0) × (nat_abs m ≡ N) × (nat_abs l ≡ N))

-- at most 2 units apart
abbrev pub Close : ℤ → ℤ → Type 0
Close a b = nat_abs (a -ℤ b) ≤ 2

-- the one is refused exactly when the other is, by the same number; and what both give stands in R
pub record Alike {A : Type 0} (R : A → A → Type 0) (first second : Outcome A) : Type 0 where
  pub refusals : (n : ℕ) → (first ≡ refused n) ↔ (second ≡ refused n)
  pub answers : (p q : A) → first ≡ given p → second ≡ given q → R p q

-- c is the central meridian, l and f the longitude and the latitude of a position, and x and y a place
module _ (w : Calls) where
  -- x turned and y the same
  abbrev pub TurnedX : w.Coordinate × w.Coordinate → w.Coordinate × w.Coordinate → Type 0
  TurnedX p q = (w.units q.0 ≡ neg_ℤ (w.units p.0)) × (w.units q.1 ≡ w.units p.1)

  -- y turned and x the same
  abbrev pub TurnedY : w.Coordinate × w.Coordinate → w.Coordinate × w.Coordinate → Type 0
  TurnedY p q = (w.units q.0 ≡ w.units p.0) × (w.units q.1 ≡ neg_ℤ (w.units p.1))

  -- the half-width of the parallel of a latitude
  abbrev pub width : ℕ → w.Angle → ℕ
  width kind f = half_width (row_of kind) (nat_abs (w.centiseconds f))

  -- (m, g) is the position (l, f) again: the same latitude and, on a parallel of half-width N or more, the same longitude
  pub record SamePosition (kind : ℕ) (c l f m g : w.Angle) : Type 0 where
    pub latitude_same : w.centiseconds g ≡ w.centiseconds f
    pub longitude_same : N ≤ width kind f → SameAt (w.centiseconds c) (w.centiseconds m) (w.centiseconds l)

  -- the place (x, y) of a position (l, f) is accepted and comes back to it
  pub record Returns (kind : ℕ) (c l f : w.Angle) (x y : w.Coordinate) : Type 0 where
    pub longitude : w.Angle
    pub latitude : w.Angle
    pub accepted : w.inverse kind c x y ≡ given (longitude, latitude)
    pub same : SamePosition kind c l f longitude latitude

  -- two different meridians have equal forward answers
  pub record Shares (kind : ℕ) (c f : w.Angle) : Type 0 where
    pub first : w.Angle
    pub second : w.Angle
    pub different : OneMeridian (w.centiseconds first) (w.centiseconds second) → ⊥
    pub place₁ : w.Coordinate × w.Coordinate
    pub place₂ : w.Coordinate × w.Coordinate
    pub accepted₁ : w.forward kind c first f ≡ given place₁
    pub accepted₂ : w.forward kind c second f ≡ given place₂
    pub same_x : w.units place₁.0 ≡ w.units place₂.0
    pub same_y : w.units place₁.1 ≡ w.units place₂.1

  -- the longitude difference of a place, which inverse finds before the central meridian is added
  abbrev pub difference : ℕ → w.Coordinate → w.Coordinate → ℤ
  difference kind x y = difference_at (width_at (row_of kind) (w.units y)) (w.units x)

  -- (x', y') is within 2 units of the place (x, y) on each axis, x unless the difference is exactly 180 degrees and the central
  -- meridian c is not 0
  pub record ClosePlace (kind : ℕ) (c : w.Angle) (x y x' y' : w.Coordinate) : Type 0 where
    pub y_close : Close (w.units y') (w.units y)
    pub x_close : Close (w.units x') (w.units x) ⊎ ((nat_abs (difference kind x y) ≡ N) × (w.centiseconds c ≢ pos 0))

  -- the position (l, f) of a place (x, y) is accepted and comes back near to it
  pub record Resends (kind : ℕ) (c : w.Angle) (x y : w.Coordinate) (l f : w.Angle) : Type 0 where
    pub x' : w.Coordinate
    pub y' : w.Coordinate
    pub accepted : w.forward kind c l f ≡ given (x', y')
    pub close : ClosePlace kind c x y x' y'

  pub record Demand3 : Type 0 where
    pub turning_x : (kind : ℕ) (c c' l l' f : w.Angle) → w.Turned c c' → w.Turned l l' →
        Alike TurnedX (w.forward kind c l f) (w.forward kind c' l' f)
    pub turning_y : (kind : ℕ) (c l f f' : w.Angle) → w.Turned f f' → Alike TurnedY (w.forward kind c l f) (w.forward kind c l f')
    pub forward_back : (kind : ℕ) (c l f : w.Angle) (x y : w.Coordinate) → w.forward kind c l f ≡ given (x, y) →
        Returns kind c l f x y
    -- c and f are accepted with some longitude, and so with every one that is a meridian
    pub sharing : (kind : ℕ) (c l f : w.Angle) (p : w.Coordinate × w.Coordinate) → w.forward kind c l f ≡ given p →
        width kind f < N → Shares kind c f
    pub back_forward : (kind : ℕ) (c : w.Angle) (x y : w.Coordinate) (l f : w.Angle) → w.inverse kind c x y ≡ given (l, f) →
        Resends kind c x y l f
