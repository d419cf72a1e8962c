-- The numbers in a text: digits stand where they are read, and what they stand for fits.
use mathlib.Core.Path.{◌≡◌, refl, sym, ap, ◌∙◌}
use mathlib.Core.Bool.{true}
use mathlib.Core.List.{List, [], ◌∷◌}
use Prim.Native.Nat.{ℕ, zero, suc, ◌+◌, ◌-◌, ◌*◌, ◌^◌, ◌≤◌, ◌<◌}
use native.Mathlib.Nat.{pow-le-pow_right}
use native.Mathlib.Numerals.{add-one}
use native.Mathlib.Omega.{arith}
use lib.ListN.{length, get_or, drop, length-drop, drop_of_length-le}
use lib.Seq.{drop-cons, length-take-le}
use Rattle.digits.specs.Digits.{is_digit, AllDigits, value_from, value_of}
use Rattle.digits.proofs.Values.{value_next, value_grows, value_below}
use Rattle.iso6709.specs.Numbers.{Narrow, HasDigits}
use Rattle.shape.specs.Shape.{shape, stand}
use Rattle.shape.proofs.Standing.{long, may}
use Rattle.iso6709.specs.Part.{bytes_at, part_at}

-- ---- so many bytes at a place of a text

pub bytes_long : (text : List ℕ) (at count : ℕ) → at + count ≤ length text → length (bytes_at text at count) ≡ count
bytes_long text at count h = length-take-le count (drop at text) (omega (arith, length-drop at text))

-- the bytes of a text, one by one
abbrev pub listed : List ℕ → ℕ → ℕ → List ℕ
listed text at zero = []
listed text at (suc count) = get_or text at 0 ∷ listed text (suc at) count

pub bytes_listed : (text : List ℕ) (at count : ℕ) → at + count ≤ length text → bytes_at text at count ≡ listed text at count
bytes_listed text at zero h = refl
bytes_listed text at (suc count) h = rw (drop-cons text at 0 (omega arith)) (ap (λ (l : List ℕ). get_or text at 0 ∷ l) (bytes_listed text (suc at) count (omega arith)))

digits_at : (text : List ℕ) (at count : ℕ) → at + count ≤ length text → AllDigits (listed text at count) → AllDigits (bytes_at text at count)
digits_at text at count h d = rw (bytes_listed text at count h) d

-- ---- the number of digits, read one by one: at digit i, none so far is more than the one that all stand for

module _ (digits : List ℕ) (value i : ℕ) (so_far : value_from value (drop i digits) ≡ value_of digits) where
  pub number_next : i < length digits → value_from (value * 10 + (get_or digits i 0 - 48)) (drop (i + 1) digits) ≡ value_of digits
  number_next h = rw (add-one i) (sym (value_next digits value i h) ∙ so_far)

  pub number_small : AllDigits digits → length digits ≤ 3 → i < length digits → value * 10 + (get_or digits i 0 - 48) < 1000
  number_small all few h =
      let g = value_grows (drop (i + 1) digits) (value * 10 + (get_or digits i 0 - 48)) in
      let p : 10 ^ length digits ≤ 10 ^ 3 = pow-le-pow_right (omega arith) few in
      omega (arith, number_next h, value_below digits all)

  pub number_done : length digits ≤ i → value ≡ value_of digits
  unfolding value_from
  number_done h = rw (drop_of_length-le digits h) at so_far

-- ---- a part's digits

module _ (text : List ℕ) (st : stand shape text ≡ true) where
  -- two digits that stand at places of digits
  module _ (at : ℕ) (h : at + 2 ≤ 22) where
    two : is_digit (get_or text at 0) ≡ true → is_digit (get_or text (suc at) 0) ≡ true → AllDigits (bytes_at text at 2)
    two d e = digits_at text at 2 (omega (arith, long text st)) (d, (e, tt))

  pub has_latitude : HasDigits text 0 2
  unfolding shape
  has_latitude =
      record {
        narrow = omega arith;
        room = omega (arith, long text st);
        degrees = two 1 (omega arith) (may text st 1 (omega arith)) (may text st 2 (omega arith));
        minutes = two 3 (omega arith) (may text st 3 (omega arith)) (may text st 4 (omega arith));
        seconds = two 5 (omega arith) (may text st 5 (omega arith)) (may text st 6 (omega arith));
        hundredths = two 8 (omega arith) (may text st 8 (omega arith)) (may text st 9 (omega arith));
      }

  pub has_longitude : HasDigits text 10 3
  unfolding shape
  has_longitude =
      record {
        narrow = omega arith;
        room = omega (arith, long text st);
        degrees = digits_at text 11 3 (omega (arith, long text st)) (may text st 11 (omega arith), (may text st 12 (omega arith), (may text st 13 (omega arith), tt)));
        minutes = two 14 (omega arith) (may text st 14 (omega arith)) (may text st 15 (omega arith));
        seconds = two 16 (omega arith) (may text st 16 (omega arith)) (may text st 17 (omega arith));
        hundredths = two 19 (omega arith) (may text st 19 (omega arith)) (may text st 20 (omega arith));
      }

-- what digits stand for fits
pub narrow : (text : List ℕ) (at width : ℕ) → HasDigits text at width → Narrow (part_at text at width)
unfolding part_at
narrow text at width h =
    let m : ℕ = at + 1 + width in
    let below : (i count : ℕ) → i + count ≤ length text → AllDigits (bytes_at text i count) → value_of (bytes_at text i count) < 10 ^ count =
    λ i count r a. rw (bytes_long text i count r) at (value_below (bytes_at text i count) a) in
    let p : 10 ^ width ≤ 10 ^ 3 = pow-le-pow_right (omega arith) h.narrow in
    record {
      degrees = omega (arith, below (at + 1) width (omega (arith, h.room)) h.degrees, p);
      minutes = below m 2 (omega (arith, h.room)) h.minutes;
      seconds = below (m + 2) 2 (omega (arith, h.room)) h.seconds;
      hundredths = below (m + 5) 2 (omega (arith, h.room)) h.hundredths;
    }
