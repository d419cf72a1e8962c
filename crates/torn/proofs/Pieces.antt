-- The two pieces, part by part: records closed up at the front of the one, runs listed at the front of the other.
use mathlib.Core.List.{List, [], ◌∷◌, ◌++◌, append_assoc, append-nil}
use mathlib.Core.Path.{◌≡◌, refl, sym, ap, ◌∙◌}
use Prim.Native.Nat.{ℕ, ◌+◌, ◌-◌, ◌*◌, ◌≤◌, ◌<◌}
use native.Mathlib.Nat.{add_assoc, add-zero, zero-add}
use native.Mathlib.Omega.{arith}
use borrow.Author.Tests.{lt-ltb, le-ltb}
use lib.ListN.{length, take, drop, length-append}
use Rattle.digits.specs.Put.{Put}
use Rattle.digits.proofs.Puts.{put_nothing, put_twice, put_filled, put_long}
use Rattle.little_endian.specs.Whole.{least_bytes}
use Rattle.little_endian.proofs.Wholes.{least_length}
use Rattle.record.specs.Record.{size}
use Rattle.torn.specs.Parts.{Part, taken, skipped, taken_in, runs_from, closed_up, back_of}
use Rattle.torn.specs.Pieces.{list_of}
use Rattle.torn.specs.Inside.{run_between, Closes}
use Rattle.torn.proofs.Readings.{closed}

-- ---- parts one after the other

taken_append : (ps qs : List Part) → taken_in (ps ++ qs) ≡ taken_in ps ++ taken_in qs
unfolding taken_in
taken_append [] qs = refl
taken_append (taken r ∷ ps) qs = ap (λ (rs : List (List ℕ)). r ∷ rs) (taken_append ps qs)
taken_append (skipped run ∷ ps) qs = taken_append ps qs

runs_append : (at : ℕ) (ps qs : List Part) → runs_from at (ps ++ qs) ≡ runs_from at ps ++ runs_from (at + length (back_of ps)) qs
unfolding runs_from back_of
runs_append at [] qs = rw (add-zero at)
runs_append at (taken r ∷ ps) qs =
    rw (length-append r (back_of ps), ← add_assoc at (length r) (length (back_of ps))) (runs_append (at + length r) ps qs)
runs_append at (skipped run ∷ ps) qs =
    rw (length-append run (back_of ps), ← add_assoc at (length run) (length (back_of ps)), runs_append (at + length run) ps qs)

-- records and runs one after the other
pub closed_up_append : (rs qs : List (List ℕ)) → closed_up (rs ++ qs) ≡ closed_up rs ++ closed_up qs
unfolding closed_up
closed_up_append [] qs = refl
closed_up_append (r ∷ rs) qs = rw (closed_up_append rs qs) (sym (append_assoc r (closed_up rs) (closed_up qs)))

list_append : (xs ys : List (ℕ × ℕ)) → list_of (xs ++ ys) ≡ list_of xs ++ list_of ys
unfolding list_of
list_append [] ys = refl
list_append (x ∷ xs) ys = rw (list_append xs ys) (simp append_assoc)

-- a run that may be empty has no record, and is listed if it is not
closed_taken : (run : List ℕ) → taken_in (closed run) ≡ []
unfolding taken_in
closed_taken [] = refl
closed_taken (b ∷ bs) = refl

closed_runs : (run : List ℕ) (from to : ℕ) → from + length run ≡ to → runs_from from (closed run) ≡ run_between from to
unfolding runs_from
closed_runs [] from to e = rw (le-ltb from to (omega arith))
closed_runs (b ∷ bs) from to e =
    let k : to - from ≡ length (b ∷ bs) = omega arith in
    rw (lt-ltb from to (omega arith), k)

-- ---- a run is listed

-- a number's four bytes fill the part that is lent
put_number : (l part : List ℕ) (at n : ℕ) → at + 4 ≤ length l → part ≡ least_bytes (length (take (at + 4 - at) (drop at l))) n →
    Put l at (least_bytes 4 n) (at + 4) (take at l ++ (part ++ drop (at + 4 - at) (drop at l)))
put_number l part at n = put_filled (λ (k : ℕ). least_bytes k n) (λ k. least_length k n) l part at 4

-- the list with a part in the place of four bytes
abbrev with_part : List ℕ → ℕ → List ℕ → List ℕ
with_part l at part = take at l ++ (part ++ drop (at + 4 - at) (drop at l))

pub one_run : {list first second : List ℕ} {runs from to : ℕ} → from < to → 8 * runs + 8 ≤ length list →
    first ≡ least_bytes (length (take (8 * runs + 4 - 8 * runs) (drop (8 * runs) list))) from →
    second ≡ least_bytes (length (take (8 * runs + 4 + 4 - (8 * runs + 4)) (drop (8 * runs + 4) (with_part list (8 * runs) first)))) (to - from) →
    Closes list runs from to (runs + 1) (with_part (with_part list (8 * runs) first) (8 * runs + 4) second)
unfolding list_of
one_run {list} {first} {second} {runs} {from} {to} l h e f =
    let p = put_number list first (8 * runs) from (omega arith) e in
    let q = put_number (with_part list (8 * runs) first) second (8 * runs + 4) (to - from) (omega (arith, put_long p (omega arith))) f in
    let k = lt-ltb from to l in
    let n : 8 * (runs + 1) ≡ 8 * runs + 4 + 4 = omega arith in
    record { counted = rw k; listed = rw (k, n, append-nil (least_bytes 4 (to - from))) (put_twice (omega arith) p q) }

pub no_run : {list : List ℕ} {runs from to : ℕ} → to ≤ from → Closes list runs from to runs list
unfolding list_of
no_run {list} {runs} {from} {to} l =
    let k = le-ltb from to l in
    record { counted = rw k (sym (add-zero runs)); listed = rw k (put_nothing list (8 * runs)) }

-- ---- the record piece

pub record Stored (done : List Part) (piece₀ piece : List ℕ) (count : ℕ) : Type 0 where
  pub counted : count ≡ length (taken_in done)
  pub put : Put piece₀ 0 (closed_up (taken_in done)) (size * count) piece

pub store_none : (piece : List ℕ) → Stored [] piece piece 0
unfolding taken_in closed_up
store_none piece = record { counted = refl; put = put_nothing piece 0 }

module _ {done : List Part} {piece₀ piece : List ℕ} {count : ℕ} (h : Stored done piece₀ piece count) where
  -- a run changes nothing
  pub store_run : (run : List ℕ) → Stored (done ++ closed run) piece₀ piece count
  store_run run =
      let e : taken_in (done ++ closed run) ≡ taken_in done = taken_append done (closed run) ∙ rw (closed_taken run) (append-nil (taken_in done)) in
      record { counted = rw e h.counted; put = rw e h.put }

  -- a record stands behind the others
  pub store_record : (r : List ℕ) {piece' : List ℕ} → Put piece (size * count) r (size * count + size) piece' →
      Stored (done ++ taken r ∷ []) piece₀ piece' (count + 1)
  unfolding taken_in closed_up
  store_record r p =
      let rs : List (List ℕ) = taken_in done in
      let e : taken_in (done ++ taken r ∷ []) ≡ rs ++ r ∷ [] = taken_append done (taken r ∷ []) in
      let u : closed_up (rs ++ r ∷ []) ≡ closed_up rs ++ r =
      closed_up_append rs (r ∷ []) ∙ ap (λ (t : List ℕ). closed_up rs ++ t) (append-nil r) in
      let n : size * (count + 1) ≡ size * count + size = omega arith in
      record {
        counted = rw e (omega (arith, length-append rs (r ∷ []), h.counted));
        put = rw (e, u, n) (put_twice (omega arith) h.put p);
      }

-- ---- the list piece

pub record Listed (done : List Part) (piece₀ piece : List ℕ) (runs : ℕ) : Type 0 where
  pub counted : runs ≡ length (runs_from 0 done)
  pub put : Put piece₀ 0 (list_of (runs_from 0 done)) (8 * runs) piece

pub list_none : (piece : List ℕ) → Listed [] piece piece 0
unfolding runs_from list_of
list_none piece = record { counted = refl; put = put_nothing piece 0 }

module _ {done : List Part} {piece₀ piece : List ℕ} {runs : ℕ} (h : Listed done piece₀ piece runs) where
  -- a record changes nothing
  pub list_record : (r : List ℕ) → Listed (done ++ taken r ∷ []) piece₀ piece runs
  unfolding runs_from
  list_record r =
      let e : runs_from 0 (done ++ taken r ∷ []) ≡ runs_from 0 done = runs_append 0 done (taken r ∷ []) ∙ append-nil (runs_from 0 done) in
      record { counted = rw e h.counted; put = rw e h.put }

  -- a run is listed behind the others, if there is one
  pub list_run : (run : List ℕ) (from to runs' : ℕ) {piece' : List ℕ} → length (back_of done) ≡ from → from + length run ≡ to →
      Closes piece runs from to runs' piece' → Listed (done ++ closed run) piece₀ piece' runs'
  list_run run from to runs' e n c =
      let xs : List (ℕ × ℕ) = runs_from 0 done in
      let at : 0 + length (back_of done) ≡ from = zero-add (length (back_of done)) ∙ e in
      let k : runs_from 0 (done ++ closed run) ≡ xs ++ run_between from to =
      runs_append 0 done (closed run) ∙ rw at (ap (λ (t : List (ℕ × ℕ)). xs ++ t) (closed_runs run from to n)) in
      record {
        counted = rw k (omega (arith, length-append xs (run_between from to), h.counted, c.counted));
        put = rw (k, list_append xs (run_between from to)) (put_twice (omega arith) h.put c.listed);
      }
