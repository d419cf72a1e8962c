-- The square root digit by digit.
use mathlib.Core.Path.{◌≡◌, refl, ◌∙◌}
use Prim.Native.Nat.{ℕ, zero, suc, ◌+◌, ◌-◌, ◌*◌, ◌/◌, ◌^◌, ◌≤◌, ◌<◌}
use native.Mathlib.Nat.{pow-succ', one-le-pow}
use native.Mathlib.Omega.{arith}
use Rattle.whole.specs.Root.{root}
use Rattle.whole.proofs.Squares.{root_is, root_unique}

-- What was read of n so far, n / unit, is q * q and a rest of at most 2 q. That is rest / unit: what is still to be read stays in `rest`
-- too, below one unit. `found` is q in units, and one more would not pass 64 bits.
pub record SoFar (unit n q rest found : ℕ) : Type 0 where
  pub square : n ≡ unit * (q * q) + rest
  pub small : rest < unit * (2 * q + 1)
  pub digits : found ≡ unit * q
  pub room : found + unit ≤ 2 ^ 64

-- a digit more, by which a unit is a quarter of what it was: 0 where `rest` does not hold 4 q + 1 units, 1 where it does
zero_next : {n q rest found : ℕ} (bit : ℕ) → SoFar (4 * bit) n q rest found → rest < found + bit → SoFar bit n (2 * q) rest (found / 2)
zero_next bit s t =
    let d = s.digits in
    record { square = omega (arith, s.square); small = omega arith; digits = omega arith; room = omega (arith, s.room) }

one_next : {n q rest found : ℕ} (bit : ℕ) → SoFar (4 * bit) n q rest found → found + bit ≤ rest →
    SoFar bit n (2 * q + 1) (rest - (found + bit)) (found / 2 + bit)
one_next bit s t =
    let d = s.digits in
    record {
      square = omega (arith, s.square);
      small = omega (arith, s.small);
      digits = omega arith;
      room = omega (arith, s.room);
    }

-- `left` digits of the root are to be found, and `bit` is a quarter of the unit, or 0 at the end
pub record Read (n rest found bit : ℕ) : Type 0 where
  pub left : ℕ
  pub place : bit ≡ 4 ^ left / 4
  pub q : ℕ
  pub so_far : SoFar (4 ^ left) n q rest found

pub none_read : (left n : ℕ) → n < 4 ^ left → 4 ^ left ≤ 2 ^ 64 → Read n n 0 (4 ^ left / 4)
none_read left n h k =
    record {
      left = left;
      place = refl;
      q = 0;
      so_far = record { square = omega arith; small = omega arith; digits = omega arith; room = omega arith };
    }

-- a digit is left, and the unit after it is `bit`
record Next (left bit : ℕ) : Type 0 where
  after : ℕ
  unit : bit ≡ 4 ^ after
  four : 4 ^ left ≡ 4 * bit

next : (left bit : ℕ) → bit ≡ 4 ^ left / 4 → 0 < bit → Next left bit
next zero bit e h = absurd (omega arith)
next (suc k) bit e h =
    let p : 4 ^ suc k ≡ 4 * 4 ^ k = pow-succ' 4 k in
    record { after = k; unit = omega arith; four = omega arith }

module _ {n rest found bit : ℕ} (r : Read n rest found bit) (h : 0 < bit) where
  next_is : Next r.left bit
  next_is = next r.left bit r.place h

  by_four : SoFar (4 * bit) n r.q rest found
  by_four = rw next_is.four at r.so_far

  further : {q rest' found' : ℕ} → SoFar bit n q rest' found' → Read n rest' found' (bit / 4)
  further {q} s = let k = next_is in record { left = k.after; place = rw (← k.unit) refl; q = q; so_far = rw (← k.unit) s }

  pub read_0 : rest < found + bit → Read n rest (found / 2) (bit / 4)
  read_0 t = further (zero_next bit by_four t)

  pub read_1 : found + bit ≤ rest → Read n (rest - (found + bit)) (found / 2 + bit) (bit / 4)
  read_1 t = further (one_next bit by_four t)

-- at the end a unit is 1
one_unit : (left : ℕ) → 4 ^ left / 4 ≤ 0 → 4 ^ left ≡ 1
one_unit zero h = refl
one_unit (suc k) h = absurd (omega (arith, pow-succ' 4 k, one-le-pow k 4 (omega arith)))

ended : {n q rest found : ℕ} → SoFar 1 n q rest found → found ≡ root n
ended {n} {q} {found = found} s =
    let d : found ≡ q = omega (arith, s.digits) in
    d ∙ root_unique (record { low = omega (arith, s.square); high = omega (arith, s.square, s.small) }) (root_is n)

pub all_read : {n rest found bit : ℕ} → Read n rest found bit → bit ≤ 0 → found ≡ root n
all_read r h = ended (rw (one_unit r.left (rw r.place at h)) at r.so_far)
