-- Which edge of the map a refused place is past (order 6): 6 for north and 18 for south of the poles, 7 for east and 17 for west of
-- its row.
use Rattle.std.specs.Prelude.{true, ◌||◌, List, ◌≡◌, ℕ, ◌<◌, ltb, Float, ℤ, pos, neg_ℤ, nat_abs}
use Rattle.angle.specs.Angle.{H}
use Rattle.parallel.specs.declared.table.Row.{Row}
use Rattle.parallel.specs.Table.{row_of}
use Rattle.parallel.specs.Parallel.{height}
use Rattle.parallel.specs.Latitude.{width_at}
use Rattle.refusal.specs.Outcome.{Outcome, refused, given}
use Rattle.parallel.specs.Refusal.{past_north, past_south}
use Rattle.projection.specs.Refusal.{past_east, past_west}
use Rattle.projection.specs.Answer.{inverse_of}
use Rattle.reading.specs.Reading.{units}
use Rattle.degrees.specs.Answer.{inverse_of as inverse_degrees}
use Rattle.record.specs.Record.{kind_in, first_in, second_in}
use Rattle.record.specs.Answer.{convert_of}
use Rattle.session.specs.declared.Session.{Session}
use Rattle.session.specs.Session.{feed_of}

-- z is greater than n, and z is less than -n
abbrev pub Above : ℕ → ℤ → Type 0
Above n z = (m : ℕ) × (z ≡ pos m) × (n < m)

abbrev pub Below : ℕ → ℤ → Type 0
Below n z = (m : ℕ) × (z ≡ neg_ℤ (pos m)) × (n < m)

-- what the number of a refusal tells of the place (x, y) of a kind
pub record TellsSide {A : Type 0} (answer : Outcome A) (kind : ℕ) (x y : ℤ) : Type 0 where
  pub north : answer ≡ refused 6 → Above (height (row_of kind) H) y
  pub south : answer ≡ refused 18 → Below (height (row_of kind) H) y
  pub east : answer ≡ refused 7 → Above (width_at (row_of kind) y) x
  pub west : answer ≡ refused 17 → Below (width_at (row_of kind) y) x

pub record Edges : Type 0 where
  -- only one of each pair can apply
  pub one_pole : (r : Row) (y : ℤ) → (past_north r y).applies ≡ true → (past_south r y).applies ≡ true → ⊥
  pub one_side : (w : ℕ) (x : ℤ) → (past_east w x).applies ≡ true → (past_west w x).applies ≡ true → ⊥
  -- together they are what 6 and 7 were: size of y greater than the pole's y, size of x greater than W
  pub either_pole : (r : Row) (y : ℤ) → ((past_north r y).applies || (past_south r y).applies) ≡ ltb (height r H) (nat_abs y)
  pub either_side : (w : ℕ) (x : ℤ) → ((past_east w x).applies || (past_west w x).applies) ≡ ltb w (nat_abs x)
  -- so each number tells the side: of numbers, of those that floats stand for, and of those that a record holds
  pub numbers : (kind : ℕ) (c x y : ℤ) → TellsSide (inverse_of kind c x y) kind x y
  pub floats : (kind : ℕ) (c x y : Float) → TellsSide (inverse_degrees kind c x y) kind (units x) (units y)
  pub convert_record : (s : List ℕ) (output : ℕ) → TellsSide (convert_of s output) (kind_in s) (first_in s) (second_in s)
  pub feed : (t : Session) (s : List ℕ) (output : ℕ) → TellsSide (feed_of t s output) (kind_in s) (first_in s) (second_in s)
  -- the last place on each edge of kind 1 at the Equator and at the poles, and of kind 11 at its pointed pole, and one unit past it
  pub on_the_edges : (inverse_of 1 (pos 0) (pos 314159265) (pos 0) ≡ given (pos 64800000, pos 0))
      × (inverse_of 1 (pos 0) (neg_ℤ (pos 314159265)) (pos 0) ≡ given (neg_ℤ (pos 64800000), pos 0))
      × (inverse_of 1 (pos 0) (pos 0) (pos 157079632) ≡ given (pos 0, pos 32400000))
      × (inverse_of 1 (pos 0) (pos 0) (neg_ℤ (pos 157079632)) ≡ given (pos 0, neg_ℤ (pos 32400000)))
      × (inverse_of 11 (pos 0) (pos 0) (pos 157079632) ≡ given (pos 0, pos 32400000))
  pub past_the_edges : (inverse_of 1 (pos 0) (pos 314159266) (pos 0) ≡ refused 7)
      × (inverse_of 1 (pos 0) (neg_ℤ (pos 314159266)) (pos 0) ≡ refused 17)
      × (inverse_of 1 (pos 0) (pos 0) (pos 157079633) ≡ refused 6)
      × (inverse_of 1 (pos 0) (pos 0) (neg_ℤ (pos 157079633)) ≡ refused 18)
      × (inverse_of 11 (pos 0) (pos 1) (pos 157079632) ≡ refused 7)
      × (inverse_of 11 (pos 0) (neg_ℤ (pos 1)) (pos 157079632) ≡ refused 17)
  -- y comes before x, whichever side x is on
  pub poles_first : (inverse_of 1 (pos 0) (neg_ℤ (pos 314159266)) (pos 157079633) ≡ refused 6)
      × (inverse_of 1 (pos 0) (pos 314159266) (neg_ℤ (pos 157079633)) ≡ refused 18)
