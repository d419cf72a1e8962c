-- The laws of the reading: its parts put back, its runs apart, a stretch of records, and how many runs there are.
use mathlib.Core.Bool.{Bool, true, false, cond}
use mathlib.Core.List.{List, [], ◌∷◌, ◌++◌, append_assoc, map}
use mathlib.Core.Path.{◌≡◌, refl, sym, ◌∙◌}
use Prim.Native.Nat.{ℕ, zero, suc, ◌+◌, ◌*◌, ◌≤◌, ◌<◌}
use native.Mathlib.Nat.{le_refl}
use native.Mathlib.Omega.{arith}
use lib.ListN.{length, get_or, take, drop, length-take, length-drop, take-append-drop}
use lib.Seq.{take_at, drop_at, drop-drop}
use Rattle.record.specs.Record.{size}
use Rattle.record.specs.Answer.{convertible}
use Rattle.record.proofs.Orders.{convertible_length}
use Rattle.torn.specs.Parts.{Part, taken, skipped, skip, reading, parts_of, taken_in, runs_from, taken_of, runs_of, closed_up, back_of}
use Rattle.torn.proofs.Readings.{parts_taken, NoRun, closed, close, back_skip, back_append, back_closed, Read}

-- ---- a law of every file: it holds of no byte, and stays when a record is taken and when a byte is skipped

module _ (P : List ℕ → List Part → Type 0) (none : P [] [])
    (taking : (s : List ℕ) (ps : List Part) → convertible (take size s) ≡ true → P (drop size s) ps → P s (taken (take size s) ∷ ps))
    (skipping : (b : ℕ) (s : List ℕ) (ps : List Part) → convertible (take size (b ∷ s)) ≡ false → P s ps → P (b ∷ s) (skip b ps)) where
  in_turns : (n : ℕ) (s : List ℕ) → length s ≤ n → P s (reading n s)
  unfolding reading
  in_turns zero [] h = none
  in_turns zero (b ∷ s) h = absurd (omega arith)
  in_turns (suc n) [] h = none
  in_turns (suc n) (b ∷ s) h =
      let d = length-drop size (b ∷ s) in
      go (convertible (take size (b ∷ s))) refl (in_turns n (drop size (b ∷ s)) (omega arith)) (in_turns n s (omega arith))
    where
      go : (t : Bool) → convertible (take size (b ∷ s)) ≡ t → P (drop size (b ∷ s)) (reading n (drop size (b ∷ s))) → P s (reading n s) →
          P (b ∷ s) (cond t (taken (take size (b ∷ s)) ∷ reading n (drop size (b ∷ s))) (skip b (reading n s)))
      go true e p q = taking (b ∷ s) (reading n (drop size (b ∷ s))) e p
      go false e p q = skipping b s (reading n s) e q

  pub by_turns : (s : List ℕ) → P s (parts_of s)
  unfolding parts_of
  by_turns s = in_turns (length s) s (le_refl (length s))

-- ---- put back

pub put_back : (s : List ℕ) → back_of (parts_of s) ≡ s
unfolding back_of
put_back =
    by_turns (λ (s : List ℕ) (ps : List Part). back_of ps ≡ s) refl
    (λ s ps e p. rw p (take-append-drop size s))
    (λ b s ps e p. rw (back_skip b ps, p))

-- ---- no run is empty, and none stands right behind another

abbrev Apart : List Part → Type 0
Apart [] = Unit {0}
Apart (taken r ∷ ps) = Apart ps
Apart (skipped run ∷ ps) = (0 < length run) × NoRun ps × Apart ps

skip_apart : (b : ℕ) (ps : List Part) → Apart ps → Apart (skip b ps)
unfolding skip
skip_apart b [] h = (omega arith, tt, tt)
skip_apart b (taken r ∷ ps) h = (omega arith, tt, h)
skip_apart b (skipped run ∷ ps) h = (omega arith, h.1, h.2)

one_apart : (before later : List Part) (run : List ℕ) → Apart (before ++ skipped run ∷ later) → (0 < length run) × NoRun later
one_apart [] later run h = (h.0, h.1)
one_apart (taken r ∷ before) later run h = one_apart before later run h
one_apart (skipped r ∷ before) later run h = one_apart before later run h.2

pub runs_apart : (s : List ℕ) (before later : List Part) (run : List ℕ) → parts_of s ≡ before ++ skipped run ∷ later →
    (0 < length run) × NoRun later
runs_apart s before later run e =
    let a : Apart (parts_of s) = by_turns (λ (s : List ℕ) (ps : List Part). Apart ps) tt (λ s ps e p. p) (λ b s ps e p. skip_apart b ps p) s in
    one_apart before later run (rw e at a)

-- ---- records

-- a byte skipped changes no record
pub taken_skip : (b : ℕ) (ps : List Part) → taken_in (skip b ps) ≡ taken_in ps
unfolding skip taken_in
taken_skip b [] = refl
taken_skip b (taken r ∷ ps) = refl
taken_skip b (skipped run ∷ ps) = refl

-- each of some records is one that the rules convert
abbrev pub AllConvert : List (List ℕ) → Type 0
AllConvert rs = (i : ℕ) → i < length rs → convertible (get_or rs i []) ≡ true

all_cons : (r : List ℕ) (rs : List (List ℕ)) → convertible r ≡ true → AllConvert rs → AllConvert (r ∷ rs)
all_cons r rs e h zero l = e
all_cons r rs e h (suc i) l = h i (omega arith)

pub all_convert : (s : List ℕ) → AllConvert (taken_of s)
unfolding taken_in
all_convert =
    by_turns (λ (s : List ℕ) (ps : List Part). AllConvert (taken_in ps)) (λ i l. absurd (omega arith))
    (λ s ps e p. all_cons (take size s) (taken_in ps) e p)
    (λ b s ps e p. rw (taken_skip b ps) p)

-- closed up, record number i stands at place 16 i
pub record_at_lem : (rs : List (List ℕ)) (i : ℕ) → AllConvert rs → i < length rs → take size (drop (size * i) (closed_up rs)) ≡ get_or rs i []
unfolding closed_up
record_at_lem [] i h l = absurd (omega arith)
record_at_lem (r ∷ rs) zero h l = take_at r (closed_up rs) size (convertible_length r (h 0 l))
record_at_lem (r ∷ rs) (suc i) h l =
    let e : size * suc i ≡ size + size * i = omega arith in
    let d : drop size (r ++ closed_up rs) ≡ closed_up rs = drop_at r (closed_up rs) size (convertible_length r (h 0 (omega arith))) in
    rw (e, ← drop-drop (size * i) size (r ++ closed_up rs), d) (record_at_lem rs i (λ j k. h (suc j) (omega arith)) (omega arith))

-- a stretch of them is taken record by record
take_them : (rs : List (List ℕ)) (rest : List ℕ) → AllConvert rs → parts_of (closed_up rs ++ rest) ≡ map taken rs ++ parts_of rest
unfolding closed_up
take_them [] rest h = refl
take_them (r ∷ rs) rest h =
    let e : convertible r ≡ true = h 0 (omega arith) in
    let l = convertible_length r e in
    let more : List ℕ = closed_up rs ++ rest in
    let a : (r ++ closed_up rs) ++ rest ≡ r ++ more = append_assoc r (closed_up rs) rest in
    let t : take size (r ++ more) ≡ r = take_at r more size l in
    let d : drop size (r ++ more) ≡ more = drop_at r more size l in
    rw (a, parts_taken (r ++ more) (rw t e), t, d, take_them rs rest (λ i k. h (suc i) (omega arith)))

-- also where the reading comes to stand at it
pub stretch : {s : List ℕ} {at : ℕ} {done : List Part} {run : List ℕ} → Read s at done run →
    (r : List ℕ) (rs : List (List ℕ)) (rest : List ℕ) → AllConvert (r ∷ rs) → drop at s ≡ closed_up (r ∷ rs) ++ rest →
    (back_of (done ++ closed run) ≡ take at s) × (parts_of s ≡ (done ++ closed run) ++ (map taken (r ∷ rs) ++ parts_of rest))
stretch {done = done} {run} h r rs rest c e =
    let more : List Part = map taken rs ++ parts_of rest in (
      rw (back_append done (closed run), back_closed run) h.back,
      h.rest ∙ rw (e, take_them (r ∷ rs) rest c, close run (taken r ∷ more) tt) (sym (append_assoc done (closed run) (taken r ∷ more))),
    )

-- ---- how many runs there are

-- whether a run stands in front: its bytes and the record behind it are 17 at least
abbrev lead : List Part → ℕ
lead [] = 0
lead (taken r ∷ ps) = 0
lead (skipped run ∷ ps) = 1

lead_le : (ps : List Part) → lead ps ≤ 1
lead_le [] = omega arith
lead_le (taken r ∷ ps) = omega arith
lead_le (skipped run ∷ ps) = omega arith

abbrev Few : List ℕ → List Part → Type 0
Few s ps = (at : ℕ) → 17 * length (runs_from at ps) ≤ length s + 16 * lead ps

few_taken : (s : List ℕ) (ps : List Part) → convertible (take size s) ≡ true → Few (drop size s) ps → Few s (taken (take size s) ∷ ps)
unfolding runs_from
few_taken s ps e h at =
    let n = convertible_length (take size s) e in
    omega (arith, h (at + length (take size s)), lead_le ps, length-take size s, length-drop size s)

few_skipped : (b : ℕ) (s : List ℕ) (ps : List Part) → Few s ps → Few (b ∷ s) (skip b ps)
unfolding skip runs_from
few_skipped b s [] h at = omega arith
few_skipped b s (taken r ∷ ps) h at = omega (arith, h (at + 1))
few_skipped b s (skipped run ∷ ps) h at =
    let e : at + suc (length run) ≡ at + 1 + length run = omega arith in
    rw e (omega (arith, h (at + 1)))

pub runs_few : (s : List ℕ) → 17 * length (runs_of s) ≤ length s + 16
unfolding runs_from
runs_few s = omega (arith, by_turns Few (λ at. omega arith) few_taken (λ b s ps e h. few_skipped b s ps h) s 0, lead_le (parts_of s))
