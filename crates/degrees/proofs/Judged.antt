-- What the tests of a call on floats say.
use mathlib.Core.Bool.{Bool, true, ◌&&◌, ◌||◌, and-eq-true_iff}
use mathlib.Core.Path.{◌≡◌, refl, sym}
use Prim.Native.Nat.{ℕ}
use lib.Ieee as Ieee
use lib.Ieee.{Float, binary64, of_bits}
use lib.Ieee.Scale.{finite}
use Rattle.reading.specs.Reading.{outside}
use Rattle.reading.proofs.Floats.{limit}

-- the code's test against a limit, and what it says of 180.0 and 90.0, by their bits
abbrev tested : ℕ → Float → Bool
tested bits x = Ieee.lt (of_bits binary64 bits) x || Ieee.lt x (Ieee.neg (of_bits binary64 bits))

pub outside_180 : (x : Float) → outside 180 x ≡ tested 4640537203540230144 x
unfolding of_bits
outside_180 x = sym (limit x 180 45 2 refl)

pub outside_90 : (x : Float) → outside 90 x ≡ tested 4636033603912859648 x
unfolding of_bits
outside_90 x = sym (limit x 90 45 1 refl)

-- three floats that are numbers
pub record Finite (a b c : Float) : Type 0 where
  pub first : finite a ≡ true
  pub second : finite b ≡ true
  pub third : finite c ≡ true

pub all_finite : (a b c : Float) → (finite a && finite b && finite c) ≡ true → Finite a b c
all_finite a b c h =
    let t = (and-eq-true_iff (finite a && finite b) (finite c)).0 h in
    let u = (and-eq-true_iff (finite a) (finite b)).0 t.0 in
    record { first = u.0; second = u.1; third = t.1 }
