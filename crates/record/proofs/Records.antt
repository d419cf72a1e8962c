-- The records of a run of bytes, and of bytes that come behind others.
use mathlib.Core.List.{List, ◌++◌}
use mathlib.Core.Path.{◌≡◌, sym, ap, ◌∙◌}
use Prim.Native.Nat.{ℕ, ◌+◌, ◌-◌, ◌*◌, ◌<◌}
use native.Mathlib.Omega.{arith}
use lib.ListN.{length, take, drop, length-append, length-drop}
use lib.Seq.{take-append-le, drop-append-le, drop-drop}
use Rattle.record.specs.Record.{size}
use Rattle.record.specs.Records.{record_at, records_in, tail_of}

-- a record as the code has it, between two places
abbrev pub piece : List ℕ → ℕ → List ℕ
piece s i = take (size * i + size - size * i) (drop (size * i) s)

pub piece_is : (s : List ℕ) (i : ℕ) → piece s i ≡ record_at s i
unfolding record_at
piece_is s i = let e : size * i + size - size * i ≡ size = omega arith in ap (λ (k : ℕ). take k (drop (size * i) s)) e

pub tail_length : (s : List ℕ) → length (tail_of s) ≡ length s - size * records_in s
unfolding tail_of
tail_length s = length-drop (size * records_in s) s

-- bytes that come behind others: the records of the first, and then those of its tail and the others
module _ (s more : List ℕ) where
  abbrev k : ℕ
  k = records_in s

  abbrev n : ℕ
  n = records_in (tail_of s ++ more)

  pub records_more : records_in (s ++ more) ≡ k + n
  records_more =
      let a = length-append s more in
      let b = length-append (tail_of s) more in
      let c = tail_length s in
      omega arith

  behind_first : drop (size * k) (s ++ more) ≡ tail_of s ++ more
  unfolding tail_of
  behind_first = drop-append-le (size * k) s more (omega arith)

  later : (j : ℕ) → drop (size * (k + j)) (s ++ more) ≡ drop (size * j) (tail_of s ++ more)
  later j =
      let e : size * (k + j) ≡ size * k + size * j = omega arith in
      rw e (sym (drop-drop (size * j) (size * k) (s ++ more)) ∙ ap (drop (size * j)) behind_first)

  pub record_before : (i : ℕ) → i < k → record_at (s ++ more) i ≡ record_at s i
  unfolding record_at
  record_before i h =
      let e : drop (size * i) (s ++ more) ≡ drop (size * i) s ++ more = drop-append-le (size * i) s more (omega arith) in
      rw e (take-append-le size (drop (size * i) s) more (simp length-drop (omega arith)))

  pub record_after : (i : ℕ) → record_at (s ++ more) (k + i) ≡ record_at (tail_of s ++ more) i
  unfolding record_at
  record_after i = rw (later i)

  pub tail_more : tail_of (s ++ more) ≡ tail_of (tail_of s ++ more)
  unfolding tail_of
  tail_more = rw records_more (later n)
