-- The shape place by place, in numbers: a text has it exactly where each of its 22 bytes is what the request says.
use mathlib.Core.Path.{◌≡◌, refl}
use mathlib.Core.Bool.{Bool, true, false, cond}
use mathlib.Core.List.{List, [], ◌∷◌}
use mathlib.Core.Logic.{◌⊎◌, inl, inr, ⊎_elim, ◌≢◌}
use Prim.Native.Nat.{ℕ, suc, ◌≤◌, ◌<◌, suc-le-suc}
use native.Mathlib.Omega.{arith}
use borrow.Author.Tests.{eqb-true, eqb-false, eq-eqb}
use lib.Dec.{eqb}
use lib.ListN.{length, get_or}
use Rattle.digits.specs.Digits.{nought, nine}
use Rattle.digits.proofs.Values.{digit_range, digit_in}
use Rattle.shape.specs.Shape.{Place, Digit, plus, minus, point, slash, is_sign, may_stand, shape, stand}
use Rattle.shape.proofs.Standing.{may, digit_place}

pub sign_is : (byte : ℕ) → is_sign byte ≡ true → (byte ≡ plus) ⊎ (byte ≡ minus)
sign_is byte e = go (eqb byte plus) refl e
  where
    go : (b : Bool) → eqb byte plus ≡ b → cond b true (eqb byte minus) ≡ true → (byte ≡ plus) ⊎ (byte ≡ minus)
    go true p h = inl (eqb-true byte plus p)
    go false p h = inr (eqb-true byte minus h)

pub is_sign_lem : (byte : ℕ) → (byte ≡ plus) ⊎ (byte ≡ minus) → is_sign byte ≡ true
is_sign_lem byte (inl e) = rw e
is_sign_lem byte (inr e) = rw e

-- bytes that may each stand at their places
stand_each : (places : List Place) (bytes : List ℕ) → length bytes ≡ length places →
    ((i : ℕ) → i < length bytes → may_stand (get_or places i Digit) (get_or bytes i 0) ≡ true) → stand places bytes ≡ true
unfolding stand
stand_each [] [] e f = refl
stand_each [] (byte ∷ bytes) e f = absurd (omega arith)
stand_each (place ∷ places) [] e f = absurd (omega arith)
stand_each (place ∷ places) (byte ∷ bytes) e f =
    rw (f 0 (omega arith)) (stand_each places bytes (omega arith) (λ i h. f (suc i) (suc-le-suc h)))

equal : (i j : ℕ) → (i ≡ j) ⊎ (i ≢ j)
equal i j = go (eqb i j) refl
  where
    go : (b : Bool) → eqb i j ≡ b → (i ≡ j) ⊎ (i ≢ j)
    go true e = inl (eqb-true i j e)
    go false e = inr (eqb-false i j e)

-- the signs, points, slash and digits of a text of the shape
pub signs_at : (text : List ℕ) → stand shape text ≡ true → (is_sign (get_or text 0 0) ≡ true) × (is_sign (get_or text 10 0) ≡ true)
unfolding shape
signs_at text st = (may text st 0 (omega arith), may text st 10 (omega arith))

pub points_at : (text : List ℕ) → stand shape text ≡ true → (get_or text 7 0 ≡ point) × (get_or text 18 0 ≡ point)
unfolding shape
points_at text st = (eqb-true (get_or text 7 0) point (may text st 7 (omega arith)), eqb-true (get_or text 18 0) point (may text st 18 (omega arith)))

pub slash_at : (text : List ℕ) → stand shape text ≡ true → get_or text 21 0 ≡ slash
unfolding shape
slash_at text st = eqb-true (get_or text 21 0) slash (may text st 21 (omega arith))

pub digits_stand : (text : List ℕ) → stand shape text ≡ true → (i : ℕ) → i < 22 → i ≢ 0 → i ≢ 7 → i ≢ 10 → i ≢ 18 → i ≢ 21 →
    (nought ≤ get_or text i 0) × (get_or text i 0 ≤ nine)
digits_stand text st i h n0 n7 n10 n18 n21 =
    digit_range (get_or text i 0) (rw (digit_place i h n0 n7 n10 n18 n21) at (may text st i h))

-- bytes that are what they should be at every place have the shape
module _ (text : List ℕ) (size_is : length text ≡ 22)
    (first_sign : (get_or text 0 0 ≡ plus) ⊎ (get_or text 0 0 ≡ minus)) (first_point : get_or text 7 0 ≡ point)
    (second_sign : (get_or text 10 0 ≡ plus) ⊎ (get_or text 10 0 ≡ minus)) (second_point : get_or text 18 0 ≡ point)
    (end : get_or text 21 0 ≡ slash)
    (digits : (i : ℕ) → i < 22 → i ≢ 0 → i ≢ 7 → i ≢ 10 → i ≢ 18 → i ≢ 21 → (nought ≤ get_or text i 0) × (get_or text i 0 ≤ nine)) where
  each : (i : ℕ) → i < 22 → may_stand (get_or shape i Digit) (get_or text i 0) ≡ true
  unfolding shape
  each i h =
      ⊎_elim (λ e. rw e (is_sign_lem (get_or text 0 0) first_sign)) (λ n0.
      ⊎_elim (λ e. rw e (eq-eqb (get_or text 7 0) point first_point)) (λ n7.
      ⊎_elim (λ e. rw e (is_sign_lem (get_or text 10 0) second_sign)) (λ n10.
      ⊎_elim (λ e. rw e (eq-eqb (get_or text 18 0) point second_point)) (λ n18.
      ⊎_elim (λ e. rw e (eq-eqb (get_or text 21 0) slash end)) (λ n21.
      let d = digits i h n0 n7 n10 n18 n21 in
      rw (digit_place i h n0 n7 n10 n18 n21) (digit_in (get_or text i 0) d.0 d.1))
      (equal i 21)) (equal i 18)) (equal i 10)) (equal i 7)) (equal i 0)

  pub stands_so : stand shape text ≡ true
  unfolding shape
  stands_so = stand_each shape text size_is (λ i h. each i (rw (← size_is) h))
