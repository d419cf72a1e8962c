-- A float with its sign turned is judged as it was, and read as the number turned.
use mathlib.Core.Bool.{Bool, beq, true, false, ◌||◌, and-eq-true_iff}
use mathlib.Core.Path.{◌≡◌, refl, sym, ◌∙◌}
use Prim.Native.Nat.{ℕ, ◌*◌}
use native.Mathlib.Nat.{zero-mul, mul-one}
use borrow.Author.Tests.{eqb-true}
use lib.Dec.{eqb}
use lib.IntN.{pos, neg_ℤ}
use lib.Ieee as Ieee
use lib.Ieee.{Float, nan, inf, fin, binary64, up, down, neg, of_int, round}
use lib.Ieee.Scale.{finite}
use Rattle.whole.specs.Nearest.{nearest}
use Rattle.whole.specs.Signed.{with_sign}
use Rattle.whole.proofs.Rounding.{nearest_zero}
use Rattle.whole.proofs.Signs.{sign_turned}
use Rattle.reading.specs.Reading.{read_of, outside}

pub finite_neg : (x : Float) → finite (neg x) ≡ finite x
unfolding neg
finite_neg nan = refl
finite_neg (inf s) = refl
finite_neg (fin s m e) = refl

pub outside_neg : (n : ℕ) (x : Float) → outside n (neg x) ≡ outside n x
unfolding neg outside
outside_neg n nan = refl
outside_neg n (inf s) = refl
outside_neg n (fin s m e) = refl

pub read_neg : (k : ℕ) (x : Float) → read_of k (neg x) ≡ neg_ℤ (read_of k x)
unfolding neg read_of
read_neg k nan = refl
read_neg k (inf s) = refl
read_neg k (fin s m e) = sign_turned s (nearest (m * up e * k) (down e))

-- a zero of either sign is read as 0
either_sign : (s : Bool) → with_sign s 0 ≡ pos 0
either_sign true = refl
either_sign false = refl

pub read_zero : (j : ℕ) (x : Float) → Ieee.eq x (of_int binary64 (pos 0)) ≡ true → read_of j x ≡ pos 0
unfolding Ieee.eq of_int round read_of
read_zero j nan h = refl
read_zero j (inf s) h = refl
read_zero j (fin s m e) h =
    let n = m * up e * 1 in
    let k = eqb-true n (0 * down e) ((and-eq-true_iff (eqb n (0 * down e)) (beq s false || eqb n 0)).0 h).0 in
    let z : m * up e ≡ 0 = sym (mul-one (m * up e)) ∙ k ∙ zero-mul (down e) in
    rw (z, zero-mul j, nearest_zero (down e)) (either_sign s)
