-- The refusals that texts add: 12 to 15.
use Rattle.std.specs.Prelude.{Bool, true, false, not, cond, List, ℕ, eqb}
use Rattle.whole.specs.declared.Signed.{Signed}
use Rattle.refusal.specs.Outcome.{Rule}
use Rattle.angle.specs.declared.sexagesimal.Sexagesimal.{Sexagesimal}
use Rattle.angle.specs.Sexagesimal.{below_sixty}
use Rattle.shape.specs.Shape.{size, shape, stand}

-- 12: length is not 22; to write, the output's
abbrev pub bad_length : ℕ → Rule
bad_length length = record { number = 12; applies = not (eqb length size) }

-- 13: a sign, digit, point or slash is missing from its place
abbrev pub bad_shape : List ℕ → Rule
bad_shape text = record { number = 13; applies = not (stand shape text) }

-- 14: minutes or seconds are 60 or more, of either angle
abbrev pub bad_sixties : Sexagesimal → Sexagesimal → Rule
bad_sixties longitude latitude = record { number = 14; applies = not (cond (below_sixty latitude) (below_sixty longitude) false) }

-- 15: minus before zero, in either angle
abbrev pub is_minus_zero : Signed → Bool
is_minus_zero angle = cond angle.negative (eqb angle.size 0) false

abbrev pub bad_zero : Signed → Signed → Rule
bad_zero longitude latitude = record { number = 15; applies = cond (is_minus_zero latitude) true (is_minus_zero longitude) }
