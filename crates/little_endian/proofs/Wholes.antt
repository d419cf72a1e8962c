-- Whole numbers in bytes: what is written is read again, and how both go byte by byte.
use mathlib.Core.List.{List, [], ◌∷◌, ◌++◌, append_assoc}
use mathlib.Core.Path.{◌≡◌, refl, ap, ◌∙◌}
use Prim.Native.Nat.{ℕ, zero, suc, ◌+◌, ◌-◌, ◌*◌, ◌/◌, ◌%◌, ◌^◌, ◌≤◌, ◌<◌}
use native.Mathlib.Nat.{pow-suc, pow-le-pow_right}
use native.Mathlib.Omega.{arith}
use lib.ListN.{length, get_or, set, take, drop, length-set}
use lib.Seq.{drop-cons, take-suc-set}
use Rattle.little_endian.specs.Whole.{whole_of, least_bytes}

pub least_length : (k n : ℕ) → length (least_bytes k n) ≡ k
least_length zero n = refl
least_length (suc k) n = ap suc (least_length k (n / 256))

-- the one law: a number below 256 ^ k is the one that its k least bytes stand for
pub whole_least : (k n : ℕ) → n < 256 ^ k → whole_of (least_bytes k n) ≡ n
whole_least zero n h = omega arith
whole_least (suc k) n h =
    let e : n < 256 ^ k * 256 = rw (pow-suc 256 k) at h in
    let r : n / 256 < 256 ^ k = omega arith in
    rw (whole_least k (n / 256) r) (omega arith)

-- ---- four bytes, one by one

pub whole_four : (a b c d : ℕ) → a + b * 256 + c * 65536 + d * 16777216 ≡ whole_of (a ∷ b ∷ c ∷ d ∷ [])
whole_four a b c d = omega arith

pub least_four : (n : ℕ) → n < 4294967296 → n % 256 ∷ n / 256 % 256 ∷ n / 65536 % 256 ∷ n / 16777216 ∷ [] ≡ least_bytes 4 n
least_four n h =
    let third : n / 65536 % 256 ≡ n / 256 / 256 % 256 = omega arith in
    let fourth : n / 16777216 ≡ n / 256 / 256 / 256 % 256 = omega arith in
    rw (third, fourth)

-- the bytes at a place of a piece
pub four_at : (l : List ℕ) (at : ℕ) → at + 4 ≤ length l →
    get_or l at 0 ∷ get_or l (at + 1) 0 ∷ get_or l (at + 2) 0 ∷ get_or l (at + 3) 0 ∷ [] ≡ take 4 (drop at l)
four_at l at h =
    let one : at + 1 ≡ suc at = omega arith in
    let two : at + 2 ≡ suc (suc at) = omega arith in
    let three : at + 3 ≡ suc (suc (suc at)) = omega arith in
    rw (one, two, three, drop-cons l at 0 (omega arith), drop-cons l (suc at) 0 (omega arith), drop-cons l (suc (suc at)) 0 (omega arith), drop-cons l (suc (suc (suc at))) 0 (omega arith))

-- ---- a byte more that is read, from the last to the first

-- the number of bytes with those of another number behind them
abbrev pub whole_before : List ℕ → ℕ → ℕ
whole_before [] v = v
whole_before (b ∷ bs) v = b + 256 * whole_before bs v

pub before_byte : (bs : List ℕ) (b v : ℕ) → whole_before (bs ++ b ∷ []) v ≡ whole_before bs (v * 256 + b)
before_byte [] b v = omega arith
before_byte (c ∷ bs) b v = ap (λ (n : ℕ). c + 256 * n) (before_byte bs b v)

pub before_none : (bs : List ℕ) → whole_before bs 0 ≡ whole_of bs
before_none [] = refl
before_none (b ∷ bs) = ap (λ (n : ℕ). b + 256 * n) (before_none bs)

-- what was read is no more than the whole
pub le_before : (bs : List ℕ) (v : ℕ) → v ≤ whole_before bs v
le_before [] v = omega arith
le_before (b ∷ bs) v = let h = le_before bs v in omega arith

-- k bytes have a number below 256 ^ k
pub whole_first : (k : ℕ) (bs : List ℕ) → ((i : ℕ) → get_or bs i 0 < 256) → whole_of (take k bs) < 256 ^ k
whole_first zero bs h = omega arith
whole_first (suc k) [] h = let p : 256 ^ 0 ≤ 256 ^ suc k = pow-le-pow_right {n = 256} (omega arith) {i = 0} (omega arith) in omega arith
whole_first (suc k) (b ∷ bs) h = let r = whole_first k bs (λ i. h (suc i)) in let t = h 0 in rw (pow-suc 256 k) (omega arith)

-- ---- a byte more that is written: what stands in front, and the bytes that are left

pub next_written : (bytes : List ℕ) (i k rest : ℕ) → i < length bytes →
    take (suc i) (set bytes i (rest % 256)) ++ least_bytes k (rest / 256) ≡ take i bytes ++ least_bytes (suc k) rest
next_written bytes i k rest h =
    rw (take-suc-set bytes i (rest % 256) h) (append_assoc (take i bytes) (rest % 256 ∷ []) (least_bytes k (rest / 256)))

pub one_written : (piece all : List ℕ) (i rest : ℕ) → i < length piece → take i piece ++ least_bytes (length piece - i) rest ≡ all →
    take (i + 1) (set piece i (rest % 256)) ++ least_bytes (length (set piece i (rest % 256)) - (i + 1)) (rest / 256) ≡ all
one_written piece all i rest h e =
    let one : i + 1 ≡ suc i = omega arith in
    let left : length piece - i ≡ suc (length piece - suc i) = omega arith in
    rw (length-set piece i (rest % 256), one)
    (next_written piece i (length piece - suc i) rest h ∙ rw left at e)
