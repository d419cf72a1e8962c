-- What is written is read back as it was.
use mathlib.Core.Bool.{Bool, true, false}
use mathlib.Core.Path.{◌≡◌, refl, ap, ◌∙◌}
use Prim.Native.Nat.{ℕ, suc, ◌*◌, ◌^◌, ◌≤◌, ◌<◌}
use native.Mathlib.Nat.{mul_assoc, mul_right_comm, mul-pos}
use native.Mathlib.Omega.{arith}
use lib.Dec.{lit<}
use lib.IntN.{ℤ, pos, negsuc, nat_abs}
use lib.Ieee as Ieee
use lib.Ieee.{Float, nan, inf, fin, binary64, up, down, of_bits, round, of_int}
use lib.Ieee.Back.{round_whole}
use lib.Ieee.Exact.{HasValue}
use lib.Ieee.Fits.{down_pos}
use lib.Ieee.Scale.{round_same}
use mir.Facts.{to_z-of_z}
use Rattle.whole.specs.Signed.{with_sign}
use Rattle.angle.specs.Angle.{per_degree}
use Rattle.reading.proofs.Rounded.{Stands, rounded_back}
use Rattle.degrees.specs.Writing.{degrees_of, units_of}

-- one division by the float of per_degree, which is 5625 * 2 ^ 6
pub per_degree_lem : of_int binary64 (pos per_degree) ≡ fin false 5625 (pos 6)
unfolding of_int round
per_degree_lem = refl

-- the bits of the code's PER_DEGREE, and what finds the answer of the code's division
pub per_degree_bits : of_bits binary64 4689928365371555840 ≡ of_int binary64 (pos per_degree)
unfolding of_bits of_int round
per_degree_bits = refl

pub ruleset division = (per_degree_bits, to_z-of_z)

crossed : (m d n : ℕ) → m * 1 ≡ n * d → m * 1 * per_degree ≡ n * (per_degree * d)
crossed m d n h = ap (λ (x : ℕ). x * per_degree) h ∙ mul_right_comm n d per_degree ∙ mul_assoc n per_degree d

positive : (t : Bool) → Ieee.unlike t false ≡ t
positive true = refl
positive false = refl

quotient : (s : Bool) (x : Float) (n : ℕ) → HasValue x s n 1 →
    Ieee.div binary64 x (fin false 5625 (pos 6)) ≡ round binary64 s n per_degree
unfolding Ieee.div
quotient s nan n v = absurd v
quotient s (inf t) n v = absurd v
quotient s (fin t m e) n v =
    rw (positive t, v.0)
    (round_same binary64 s (m * up e * 1) (per_degree * down e) n per_degree (mul-pos {m = per_degree} (lit< tt) (down_pos e)) (lit< tt)
    (crossed (m * up e) (down e) n v.1))

divided : (s : Bool) (n : ℕ) → n ≤ 2 ^ 53 →
    Ieee.div binary64 (round binary64 s n 1) (of_int binary64 (pos per_degree)) ≡ round binary64 s n per_degree
divided s n h = rw per_degree_lem (quotient s (round binary64 s n 1) n (round_whole binary64 s n h))

degrees_back : (s : Bool) (n : ℕ) → n < 2 ^ 51 →
    Stands per_degree (with_sign s n) (Ieee.div binary64 (round binary64 s n 1) (of_int binary64 (pos per_degree)))
degrees_back s n h = rw (divided s n (omega arith)) (rounded_back s n per_degree (lit< tt) (lit< tt) h)

pub degrees_stand : (z : ℤ) → nat_abs z < 2 ^ 51 → Stands per_degree z (degrees_of z)
unfolding degrees_of of_int
degrees_stand (pos n) h = degrees_back false n h
degrees_stand (negsuc n) h = degrees_back true (suc n) h

pub units_stand : (z : ℤ) → nat_abs z < 2 ^ 51 → Stands 1 z (units_of z)
unfolding units_of of_int
units_stand (pos n) h = rounded_back false n 1 (lit< tt) (lit< tt) h
units_stand (negsuc n) h = rounded_back true (suc n) 1 (lit< tt) (lit< tt) h
