-- No float that a call answers is a NaN: each is a whole number rounded, or such a one divided by 360,000 and rounded.
use mathlib.Core.Bool.{Bool, true, false, cond}
use mathlib.Core.List.{List, [], ◌∷◌}
use Prim.Native.Nat.{ℕ, zero, suc, ◌*◌, ◌^◌}
use lib.Dec.{ltb}
use lib.IntN.{ℤ, pos, negsuc}
use lib.Ieee.{Float, nan, inf, fin, binary64, is_nan, unlike, up, down, odd, units, round, of_int, div}
use lib.Ieee.Fits.{round_is}
use Rattle.std.specs.Float.{NotNan}
use Rattle.refusal.specs.Outcome.{Rule, Outcome, refused, given, unless}
use Rattle.degrees.specs.Writing.{degrees_of, units_of}
use Rattle.degrees.specs.Answer.{forward_of, inverse_of, forward_order, inverse_order}
use Rattle.degrees.proofs.Written.{per_degree_lem}

-- the floats of an answer are no NaNs
abbrev pub NoNans : Outcome (Float × Float) → Type 0
NoNans (refused n) = Unit {0}
NoNans (given p) = NotNan p.0 × NotNan p.1

odd_not_nan : (d : ℕ) (s : Bool) (q k l : ℕ) → NotNan (odd d s q k l)
unfolding odd is_nan
odd_not_nan d s zero k l = tt
odd_not_nan d s (suc q) k l = tt

units_not_nan : (s : Bool) (q k : ℕ) → NotNan (units binary64 s q k)
unfolding units is_nan
units_not_nan s q k = go (ltb (q * 2 ^ k) (2 ^ 2098))
  where
    go : (b : Bool) → NotNan (cond b (odd 54 s q k 1074) (inf s))
    go true = odd_not_nan 54 s q k 1074
    go false = tt

round_not_nan : (s : Bool) (a b : ℕ) → NotNan (round binary64 s a b)
round_not_nan s a b = rw (round_is binary64 s a b) (units_not_nan s _ _)

whole_not_nan : (z : ℤ) → NotNan (of_int binary64 z)
unfolding of_int
whole_not_nan (pos n) = round_not_nan false n 1
whole_not_nan (negsuc n) = round_not_nan true (suc n) 1

divided_not_nan : (x : Float) → NotNan x → NotNan (div binary64 x (fin false 5625 (pos 6)))
unfolding div is_nan
divided_not_nan nan h = absurd h
divided_not_nan (inf s) h = tt
divided_not_nan (fin s m e) h = round_not_nan (unlike s false) (m * up e * 1) (5625 * 2 ^ 6 * down e)

place_not_nan : (z : ℤ) → NotNan (units_of z)
unfolding units_of
place_not_nan z = whole_not_nan z

angle_not_nan : (z : ℤ) → NotNan (degrees_of z)
unfolding degrees_of
angle_not_nan z = rw per_degree_lem (divided_not_nan (of_int binary64 z) (whole_not_nan z))

unless_not_nan : (order : List Rule) (p : Float × Float) → NotNan p.0 × NotNan p.1 → NoNans (unless order p)
unfolding unless
unless_not_nan [] p h = h
unless_not_nan (r ∷ rs) p h = go r.applies (unless_not_nan rs p h)
  where
    go : (b : Bool) → NoNans (unless rs p) → NoNans (cond b (refused r.number) (unless rs p))
    go true k = tt
    go false k = k

pub forward_not_nan : (kind : ℕ) (central longitude latitude : Float) → NoNans (forward_of kind central longitude latitude)
unfolding forward_of
forward_not_nan kind central longitude latitude =
    unless_not_nan (forward_order kind central longitude latitude) _ (place_not_nan _, place_not_nan _)

pub inverse_not_nan : (kind : ℕ) (central x y : Float) → NoNans (inverse_of kind central x y)
unfolding inverse_of
inverse_not_nan kind central x y = unless_not_nan (inverse_order kind central x y) _ (angle_not_nan _, angle_not_nan _)
