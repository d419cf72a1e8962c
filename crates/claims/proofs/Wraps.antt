-- A central meridian added and taken away again, each sum wrapped: the same number, but that -N and N may change places.
use mathlib.Core.Logic.{◌⊎◌, inl, inr}
use mathlib.Core.Path.{◌≡◌, ap, ◌∙◌}
use Prim.Native.Nat.{◌+◌, ◌≤◌, ◌<◌}
use native.Mathlib.Omega.{arith}
use lib.IntN.{ℤ, neg_ℤ, nat_abs, ◌+ℤ◌, ◌-ℤ◌}
use Rattle.whole.specs.Signed.{plus, minus}
use Rattle.whole.proofs.Signs.{Parts, parts, sum, less, nat_abs_neg, plus_neg, minus_neg, ext}
use Rattle.angle.specs.Angle.{N}
use Rattle.projection.specs.Longitude.{wrap}
use Rattle.projection.proofs.Longitudes.{Wrapped, stay, down, up, wrapped}

-- a and b are the two ends, and c is not 0
pub record Ends (a c b : ℤ) : Type 0 where
  pub moved : 0 < nat_abs c
  pub first : nat_abs a ≡ N
  pub last : nat_abs b ≡ N

-- what is linear in a, c, z = a + c, its wrap d, y = d - c and its wrap b
record Linear (a c z d y b : ℤ) : Type 0 where
  a_le : nat_abs a ≤ N
  c_le : nat_abs c ≤ N
  pa : Parts a
  pc : Parts c
  pz : Parts z
  pd : Parts d
  py : Parts y
  pb : Parts b
  z_is : plus z + (minus a + minus c) ≡ minus z + (plus a + plus c)
  y_is : plus y + (minus d + plus c) ≡ minus y + (plus d + minus c)

ends : (a c b : ℤ) → 0 < nat_abs c → nat_abs a ≡ N → plus b + plus a ≡ minus b + minus a → Ends a c b
ends a c b h k e =
    let p = plus_neg a in
    let m = minus_neg a in
    let t : b ≡ neg_ℤ a = ext b (neg_ℤ a) (omega arith) in
    record { moved = h; first = k; last = ap nat_abs t ∙ nat_abs_neg a ∙ k }

by_cases : (a c z d y b : ℤ) → Linear a c z d y b → Wrapped z d → Wrapped y b → (b ≡ a) ⊎ Ends a c b
by_cases a c z d y b r (stay f g) (stay h k) = inl (ext b a (omega arith))
by_cases a c z d y b r (stay f g) (down h k) = absurd (omega arith)
by_cases a c z d y b r (stay f g) (up h k) = absurd (omega arith)
by_cases a c z d y b r (down f g) (stay h k) = inr (ends a c b (omega arith) (omega arith) (omega arith))
by_cases a c z d y b r (down f g) (down h k) = absurd (omega arith)
by_cases a c z d y b r (down f g) (up h k) = inl (ext b a (omega arith))
by_cases a c z d y b r (up f g) (stay h k) = inr (ends a c b (omega arith) (omega arith) (omega arith))
by_cases a c z d y b r (up f g) (down h k) = inl (ext b a (omega arith))
by_cases a c z d y b r (up f g) (up h k) = absurd (omega arith)

pub there_and_back : (a c : ℤ) → nat_abs a ≤ N → nat_abs c ≤ N →
    (wrap (wrap (a +ℤ c) -ℤ c) ≡ a) ⊎ Ends a c (wrap (wrap (a +ℤ c) -ℤ c))
there_and_back a c ha hc =
    let z = a +ℤ c in
    let d = wrap z in
    let y = d -ℤ c in
    by_cases a c z d y (wrap y)
    (record {
      a_le = ha;
      c_le = hc;
      pa = parts a;
      pc = parts c;
      pz = parts z;
      pd = parts d;
      py = parts y;
      pb = parts (wrap y);
      z_is = sum a c;
      y_is = less d c;
    })
    (wrapped z) (wrapped y)
