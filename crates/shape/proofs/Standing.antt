-- Bytes that stand at their places, and which places are those of digits.
use mathlib.Core.Path.{◌≡◌, refl, ap, ◌∙◌}
use mathlib.Core.Bool.{Bool, true, false, cond, ◌&&◌, false≢true}
use mathlib.Core.List.{List, [], ◌∷◌}
use mathlib.Core.Logic.{◌≢◌}
use Prim.Native.Nat.{ℕ, zero, suc, ◌+◌, ◌<◌}
use native.Mathlib.Numerals.{add-one}
use native.Mathlib.Nat.{le_of_suc-le-suc, not-suc-le-zero}
use native.Mathlib.Omega.{arith}
use borrow.Author.Tests.{ne_eqb}
use lib.Dec.{eqb}
use lib.ListN.{length, get_or, drop, drop_of_length-le}
use lib.Seq.{drop-cons}
use Rattle.std.specs.List.{list_all, enumerate_from}
use Rattle.whole.proofs.Tests.{both}
use Rattle.whole.proofs.Everywhere.{agree_at}
use Rattle.shape.specs.Shape.{Place, Sign, Digit, Point, Slash, may_stand, shape, stand}

-- the library's conjunction is the one of `stand`
and_cond : (a b : Bool) → (a && b) ≡ cond a b false
and_cond true b = refl
and_cond false b = refl

-- bytes that stand at the places from n on, one by one
stands_from : (places : List Place) (n : ℕ) (bytes : List ℕ) → n + length bytes ≡ length places →
    list_all (λ (p : ℕ × ℕ). may_stand (get_or places p.0 Digit) p.1) (enumerate_from n bytes) ≡ stand (drop n places) bytes
unfolding stand
stands_from places n [] e = rw (drop_of_length-le places {i = n} (omega arith))
stands_from places n (byte ∷ bytes) e =
    rw (drop-cons places n Digit (omega arith), add-one n, stands_from places (suc n) bytes (omega arith))
    (and_cond (may_stand (get_or places n Digit) byte) (stand (drop (suc n) places) bytes))

-- what stands at places has as many bytes
pub as_long : (places : List Place) (bytes : List ℕ) → stand places bytes ≡ true → length bytes ≡ length places
unfolding stand
as_long [] [] e = refl
as_long [] (byte ∷ bytes) e = absurd (false≢true e)
as_long (place ∷ places) [] e = absurd (false≢true e)
as_long (place ∷ places) (byte ∷ bytes) e = ap suc (as_long places bytes (both (may_stand place byte) (stand places bytes) e).1)

-- each byte may stand at its place
pub may_at : (places : List Place) (bytes : List ℕ) → stand places bytes ≡ true → (i : ℕ) → i < length bytes →
    may_stand (get_or places i Digit) (get_or bytes i 0) ≡ true
unfolding stand
may_at [] [] e i h = absurd (not-suc-le-zero h)
may_at [] (byte ∷ bytes) e i h = absurd (false≢true e)
may_at (place ∷ places) [] e i h = absurd (false≢true e)
may_at (place ∷ places) (byte ∷ bytes) e zero h = (both (may_stand place byte) (stand places bytes) e).0
may_at (place ∷ places) (byte ∷ bytes) e (suc i) h =
    may_at places bytes (both (may_stand place byte) (stand places bytes) e).1 i (le_of_suc-le-suc h)

-- ---- which places are those of digits: by a test computed over all of them

sort_of : Place → ℕ
sort_of Sign = 0
sort_of Point = 1
sort_of Slash = 2
sort_of Digit = 3

sort_at : ℕ → ℕ
sort_at i = cond (eqb i 0) 0 (cond (eqb i 10) 0 (cond (eqb i 7) 1 (cond (eqb i 18) 1 (cond (eqb i 21) 2 3))))

sort_digit : (place : Place) → sort_of place ≡ 3 → place ≡ Digit
unfolding sort_of
sort_digit Sign e = absurd (omega arith)
sort_digit Point e = absurd (omega arith)
sort_digit Slash e = absurd (omega arith)
sort_digit Digit e = refl

pub digit_place : (i : ℕ) → i < 22 → i ≢ 0 → i ≢ 7 → i ≢ 10 → i ≢ 18 → i ≢ 21 → get_or shape i Digit ≡ Digit
unfolding shape sort_of sort_at
digit_place i h n0 n7 n10 n18 n21 =
    sort_digit (get_or shape i Digit)
    (agree_at (λ (k : ℕ). sort_of (get_or shape k Digit)) sort_at 22 tt i h
    ∙ rw (ne_eqb i 0 n0, ne_eqb i 10 n10, ne_eqb i 7 n7, ne_eqb i 18 n18, ne_eqb i 21 n21))

-- ---- a text of the shape: its length, and the byte at each place

module _ (text : List ℕ) (st : stand shape text ≡ true) where
  pub long : length text ≡ 22
  unfolding shape
  long = as_long shape text st

  pub may : (i : ℕ) → i < 22 → may_stand (get_or shape i Digit) (get_or text i 0) ≡ true
  may i h = may_at shape text st i (rw long h)

-- of a text as long as the shape, each byte at its place decides together
pub stands_each : (text : List ℕ) (all : Bool) → all ≡ list_all (λ (p : ℕ × ℕ). may_stand (get_or shape p.0 Digit) p.1) (enumerate_from 0 text) →
    length text ≡ 22 → all ≡ stand shape text
unfolding shape
stands_each text all e h = e ∙ stands_from shape 0 text (omega arith)

pub not_long : (text : List ℕ) → length text ≢ 22 → stand shape text ≡ false
not_long text h = go (stand shape text) refl
  where
    go : (b : Bool) → stand shape text ≡ b → stand shape text ≡ false
    go true e = absurd (h (long text e))
    go false e = e
