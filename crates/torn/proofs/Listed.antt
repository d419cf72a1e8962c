-- The laws of the list: it fits its piece, its runs lie within the file, and its numbers are read back.
use mathlib.Core.List.{List, [], ◌∷◌, ◌++◌}
use mathlib.Core.Path.{◌≡◌, refl, ap, ◌∙◌}
use Prim.Native.Nat.{ℕ, zero, suc, ◌+◌, ◌*◌, ◌/◌, ◌%◌, ◌≤◌, ◌<◌}
use native.Mathlib.Omega.{arith}
use lib.ListN.{length, get_or, take, drop, length-append}
use lib.Seq.{drop-drop}
use Rattle.little_endian.specs.Whole.{whole_of, least_bytes}
use Rattle.little_endian.proofs.Wholes.{whole_least}
use Rattle.torn.specs.Parts.{Part, taken, skipped, parts_of, runs_from, runs_of, back_of}
use Rattle.torn.specs.Pieces.{list_room, list_of}
use Rattle.torn.proofs.Laws.{put_back, runs_few}

-- ---- lengths

pub list_long : (runs : List (ℕ × ℕ)) → length (list_of runs) ≡ 8 * length runs
unfolding list_of
list_long [] = refl
list_long (run ∷ runs) = omega (arith, list_long runs)

pub list_fits : (s : List ℕ) → length (list_of (runs_of s)) ≤ list_room (length s)
list_fits s = omega (arith, list_long (runs_of s), runs_few s)

-- ---- places

abbrev end : ℕ × ℕ → ℕ
end run = run.0 + run.1

ends_within : (at : ℕ) (ps : List Part) (i : ℕ) → i < length (runs_from at ps) → end (get_or (runs_from at ps) i (0, 0)) ≤ at + length (back_of ps)
unfolding runs_from back_of
ends_within at [] i h = absurd (omega arith)
ends_within at (taken r ∷ ps) i h = omega (arith, length-append r (back_of ps), ends_within (at + length r) ps i h)
ends_within at (skipped run ∷ ps) zero h = omega (arith, length-append run (back_of ps))
ends_within at (skipped run ∷ ps) (suc i) h =
    omega (arith, length-append run (back_of ps), ends_within (at + length run) ps i (omega arith))

-- a run ends in the file
pub run_within : (s : List ℕ) (i : ℕ) → i < length (runs_of s) → (get_or (runs_of s) i (0, 0)).0 + (get_or (runs_of s) i (0, 0)).1 ≤ length s
run_within s i h = omega (arith, ends_within 0 (parts_of s) i h, ap length (put_back s))

-- ---- numbers

-- the bytes of a run's first place, and behind them those of its length
numbers_at : (runs : List (ℕ × ℕ)) (i : ℕ) → i < length runs →
    (take 4 (drop (8 * i) (list_of runs)) ≡ least_bytes 4 (get_or runs i (0, 0)).0) ×
    (take 4 (drop (8 * i + 4) (list_of runs)) ≡ least_bytes 4 (get_or runs i (0, 0)).1)
unfolding list_of
numbers_at [] i h = absurd (omega arith)
numbers_at (run ∷ runs) zero h = (refl, refl)
numbers_at (run ∷ runs) (suc i) h =
    let e : 8 * suc i ≡ 8 + 8 * i = omega arith in
    let f : 8 + 8 * i + 4 ≡ 8 + (8 * i + 4) = omega arith in
    let l : List ℕ = list_of (run ∷ runs) in
    let n = numbers_at runs i (omega arith) in
    (rw (e, ← drop-drop (8 * i) 8 l) n.0, rw (e, f, ← drop-drop (8 * i + 4) 8 l) n.1)

pub read_back : (s : List ℕ) (i : ℕ) → length s < 4294967296 → i < length (runs_of s) →
    (whole_of (take 4 (drop (8 * i) (list_of (runs_of s)))) ≡ (get_or (runs_of s) i (0, 0)).0) ×
    (whole_of (take 4 (drop (8 * i + 4) (list_of (runs_of s)))) ≡ (get_or (runs_of s) i (0, 0)).1)
read_back s i l h =
    let n = numbers_at (runs_of s) i h in
    let w = run_within s i h in (
      ap whole_of n.0 ∙ whole_least 4 (get_or (runs_of s) i (0, 0)).0 (omega arith),
      ap whole_of n.1 ∙ whole_least 4 (get_or (runs_of s) i (0, 0)).1 (omega arith),
    )

-- ---- bytes

abbrev Bytes : List ℕ → Type 0
Bytes l = (i : ℕ) → get_or l i 0 < 256

bytes_cons : (b : ℕ) (l : List ℕ) → b < 256 → Bytes l → Bytes (b ∷ l)
bytes_cons b l h k zero = h
bytes_cons b l h k (suc i) = k i

bytes_number : (k n : ℕ) (l : List ℕ) → Bytes l → Bytes (least_bytes k n ++ l)
bytes_number zero n l h = h
bytes_number (suc k) n l h = bytes_cons (n % 256) (least_bytes k (n / 256) ++ l) (omega arith) (bytes_number k (n / 256) l h)

pub list_bytes : (runs : List (ℕ × ℕ)) (i : ℕ) → get_or (list_of runs) i 0 < 256
unfolding list_of
list_bytes [] i = omega arith
list_bytes (run ∷ runs) i =
    bytes_number 4 run.0 (least_bytes 4 run.1 ++ list_of runs) (bytes_number 4 run.1 (list_of runs) (list_bytes runs)) i
