-- Degrees, minutes and seconds of an angle, and back.
use mathlib.Core.Path.{◌≡◌, ap}
use mathlib.Core.Bool.{true}
use Prim.Native.Nat.{ℕ, ◌/◌, ◌%◌, ◌<◌}
use native.Mathlib.Omega.{arith}
use borrow.Author.Tests.{ltb-true, lt-ltb}
use lib.Dec.{ltb}
use Rattle.whole.specs.declared.Signed.{Signed}
use Rattle.whole.proofs.Tests.{both}
use Rattle.angle.specs.Angle.{per_second, per_minute, per_degree}
use Rattle.angle.specs.declared.sexagesimal.Sexagesimal.{Sexagesimal}
use Rattle.angle.specs.Sexagesimal.{sexagesimal_of, size_of, signed_of, below_sixty}

pub signed_back : (s : Signed) → signed_of (sexagesimal_of s) ≡ s
signed_back s = ap (λ (n : ℕ). record { negative = s.negative; size = n }) (omega arith)

pub sexagesimal_back : (t : Sexagesimal) → below_sixty t ≡ true → t.hundredths < 100 → sexagesimal_of (signed_of t) ≡ t
sexagesimal_back t e h =
    let b = both (ltb t.minutes 60) (ltb t.seconds 60) e in
    let m = ltb-true t.minutes 60 b.0 in
    let s = ltb-true t.seconds 60 b.1 in
    let n : ℕ = size_of t in
    let d : n / per_degree ≡ t.degrees = omega arith in
    let m' : n / per_minute % 60 ≡ t.minutes = omega arith in
    let s' : n / per_second % 60 ≡ t.seconds = omega arith in
    let h' : n % per_second ≡ t.hundredths = omega arith in
    rw (d, m', s', h')

pub sixty_below : (s : Signed) → below_sixty (sexagesimal_of s) ≡ true
sixty_below s = rw (lt-ltb (s.size / per_minute % 60) 60 (omega arith)) (lt-ltb (s.size / per_second % 60) 60 (omega arith))
