-- What is held of a number: it fits 32 bits, and up to the most it is the number.
use mathlib.Core.Path.{◌≡◌, ap, ◌∙◌}
use Prim.Native.Nat.{◌≤◌, min}
use native.Mathlib.Omega.{arith}
use lib.IntN.{ℤ, nat_abs}
use mir.Syntax.{w32}
use mir.Val.{to_z, of_z}
use Rattle.whole.proofs.Signs.{nat_abs_on, on_same, back}
use Rattle.reading.specs.Held.{most, held}

pub held_back : (x : ℤ) {z : ℤ} → z ≡ held x → to_z w32 (of_z w32 z) ≡ held x
held_back x e = ap (λ (z : ℤ). to_z w32 (of_z w32 z)) e ∙ back w32 (held x) (omega (arith, nat_abs_on (min most) x))

pub held_same : (z : ℤ) → nat_abs z ≤ most → held z ≡ z
held_same z h = on_same (min most) z (omega arith)
