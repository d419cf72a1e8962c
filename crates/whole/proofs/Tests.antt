-- Tests: two that pass together are one and the same, and both sides of a conjunction that passes.
use mathlib.Core.Bool.{Bool, true, false, cond, false≢true}
use mathlib.Core.Path.{◌≡◌, refl}
use lib.Dec.{T}

pub both : (a b : Bool) → cond a b false ≡ true → (a ≡ true) × (b ≡ true)
both true b e = (refl, e)
both false b e = absurd (false≢true e)

pub conj : (a b : Bool) → T (cond a b false) → T a × T b
conj true b t = (tt, t)
conj false b t = absurd t
