-- A run of bytes, its records reprojected one after the other.
use mathlib.Core.List.{List, ◌++◌, append-nil, append_assoc}
use mathlib.Core.Path.{◌≡◌, refl, sym, ap, ◌∙◌}
use Prim.Native.Nat.{ℕ, zero, suc, ◌+◌, ◌-◌, ◌*◌, ◌≤◌, ◌<◌}
use native.Mathlib.Nat.{le_refl, add-zero, add-suc}
use native.Mathlib.Numerals.{add-one}
use native.Mathlib.Omega.{arith}
use lib.ListN.{length, take, drop, take-append-drop, length-append, length-drop, drop_of_length-le}
use lib.Seq.{length-take-le, take_at, drop_at, drop-drop}
use Rattle.record.specs.Record.{size}
use Rattle.record.specs.Records.{record_at, records_in, tail_of}
use Rattle.record.proofs.Records.{piece, piece_is, records_more, record_before, record_after}
use Rattle.reprojection.specs.Reprojected.{reprojected}
use Rattle.reprojection.specs.All.{first_reprojected, whole_reprojected, reprojected_all}
use Rattle.reprojection.proofs.Places.{reprojected_long}

pub record_long : (s : List ℕ) (i : ℕ) → i < records_in s → length (record_at s i) ≡ size
unfolding record_at
record_long s i h = length-take-le size (drop (size * i) s) (simp length-drop (omega arith))

pub first_long : (s : List ℕ) (count : ℕ) → count ≤ records_in s → length (first_reprojected s count) ≡ size * count
unfolding first_reprojected
first_long s zero h = refl
first_long s (suc count) h =
    let e : size * count + size ≡ size * suc count = omega arith in
    rw (length-append (first_reprojected s count) (reprojected (record_at s count)), first_long s count (omega arith), reprojected_long (record_at s count), record_long s count (omega arith), e)

-- what stands where i records are done
abbrev pub done : List ℕ → ℕ → List ℕ
done s i = first_reprojected s i ++ drop (size * i) s

pub done_long : (s : List ℕ) (i : ℕ) → i ≤ records_in s → length (done s i) ≡ length s
done_long s i h =
    length-append (first_reprojected s i) (drop (size * i) s) ∙ rw (first_long s i h, length-drop (size * i) s) (omega arith)

-- one record more, in the part that is lent
module _ (s l part : List ℕ) (i : ℕ) (h : i < records_in s) (e : l ≡ done s i) (p : part ≡ reprojected (piece l i)) where
  front : take (size * i) l ≡ first_reprojected s i
  front = rw e (take_at (first_reprojected s i) (drop (size * i) s) (size * i) (first_long s i (omega arith)))

  behind : drop (size * i) l ≡ drop (size * i) s
  behind = rw e (drop_at (first_reprojected s i) (drop (size * i) s) (size * i) (first_long s i (omega arith)))

  part_is : part ≡ reprojected (record_at s i)
  part_is = p ∙ rw behind (ap reprojected (piece_is s i))

  pub one_more : take (size * i) l ++ (part ++ drop (size * i + size - size * i) (drop (size * i) l)) ≡ done s (i + 1)
  unfolding first_reprojected
  one_more =
      let d : size * i + size - size * i ≡ size = omega arith in
      let m : size * suc i ≡ size * i + size = omega arith in
      rw (front, behind, part_is, d, drop-drop size (size * i) s, add-one i, m)
      (sym (append_assoc (first_reprojected s i) (reprojected (record_at s i)) (drop (size * i + size) s)))

-- ---- record by record

last : (s : List ℕ) (count i : ℕ) (rest : List ℕ) → i ≡ count → count < records_in s →
    record_at (first_reprojected s count ++ (reprojected (record_at s count) ++ rest)) i ≡ reprojected (record_at s i)
unfolding record_at
last s count i rest e h =
    rw (e, drop_at (first_reprojected s count) (reprojected (record_at s count) ++ rest) (size * count) (first_long s count (omega arith)))
    (take_at (reprojected (record_at s count)) rest size (reprojected_long (record_at s count) ∙ record_long s count h))

-- each record stands where it stood
record_done : (s : List ℕ) (count i : ℕ) (rest : List ℕ) → i < count → count ≤ records_in s →
    record_at (first_reprojected s count ++ rest) i ≡ reprojected (record_at s i)
unfolding first_reprojected
record_done s zero i rest h k = absurd (omega arith)
record_done s (suc count) i rest h k =
    ap (λ (l : List ℕ). record_at l i) (append_assoc (first_reprojected s count) (reprojected (record_at s count)) rest)
    ∙ grind (arith, record_done s count i (reprojected (record_at s count) ++ rest), last s count i rest)

-- ---- bytes that come behind others

first_same : (s s' : List ℕ) (count : ℕ) → ((i : ℕ) → i < count → record_at s i ≡ record_at s' i) →
    first_reprojected s count ≡ first_reprojected s' count
unfolding first_reprojected
first_same s s' zero same = refl
first_same s s' (suc count) same = rw (first_same s s' count (λ i h. same i (omega arith)), same count (omega arith))

module _ (s more : List ℕ) where
  first_more : (count : ℕ) → first_reprojected (s ++ more) (records_in s + count) ≡ whole_reprojected s ++ first_reprojected (tail_of s ++ more) count
  unfolding first_reprojected whole_reprojected
  first_more zero =
      rw (add-zero (records_in s), append-nil (first_reprojected s (records_in s)))
      (first_same (s ++ more) s (records_in s) (record_before s more))
  first_more (suc count) =
      rw (add-suc (records_in s) count, first_more count, record_after s more count)
      (append_assoc (whole_reprojected s) (first_reprojected (tail_of s ++ more) count) (reprojected (record_at (tail_of s ++ more) count)))

  pub whole_more : whole_reprojected (s ++ more) ≡ whole_reprojected s ++ whole_reprojected (tail_of s ++ more)
  unfolding whole_reprojected
  whole_more = rw (records_more s more) (first_more (records_in (tail_of s ++ more)))

-- ---- whole records alone

pub whole_long : (s : List ℕ) → length (whole_reprojected s) ≡ size * records_in s
unfolding whole_reprojected
whole_long s = first_long s (records_in s) (le_refl (records_in s))

-- they are all of the bytes that end where the tail begins
pub whole_alone : (s : List ℕ) → reprojected_all (take (size * records_in s) s) ≡ whole_reprojected s
unfolding reprojected_all whole_reprojected tail_of
whole_alone s =
    let w : List ℕ = take (size * records_in s) s in
    let l : length w ≡ size * records_in s = length-take-le (size * records_in s) s (omega arith) in
    let k : records_in w ≡ records_in s = omega arith in
    let e = take-append-drop (size * records_in s) s in
    let same : (i : ℕ) → i < records_in s → record_at w i ≡ record_at s i =
    λ i h. sym (record_before w (tail_of s) i (omega arith)) ∙ ap (λ (t : List ℕ). record_at t i) e in
    rw (k, drop_of_length-le w {i = size * records_in s} (omega arith), append-nil (first_reprojected w (records_in s)))
    (first_same w s (records_in s) same)

-- ---- all bytes

module _ (s : List ℕ) where
  pub all_long : length (reprojected_all s) ≡ length s
  unfolding reprojected_all whole_reprojected tail_of
  all_long = done_long s (records_in s) (le_refl (records_in s))

  pub all_record : (i : ℕ) → i < records_in s → record_at (reprojected_all s) i ≡ reprojected (record_at s i)
  unfolding reprojected_all whole_reprojected
  all_record i h = record_done s (records_in s) i (tail_of s) h (le_refl (records_in s))

  pub all_tail : drop (size * records_in s) (reprojected_all s) ≡ tail_of s
  unfolding reprojected_all
  all_tail = drop_at (whole_reprojected s) (tail_of s) (size * records_in s) (whole_long s)

  -- where the whole records are all, there is no tail
  pub whole_all : length (whole_reprojected s) ≡ length s → whole_reprojected s ≡ reprojected_all s
  unfolding reprojected_all tail_of
  whole_all e =
      let l = whole_long s in
      rw (drop_of_length-le s {i = size * records_in s} (omega arith)) (sym (append-nil (whole_reprojected s)))
