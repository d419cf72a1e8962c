-- The reading, turn by turn.
use mathlib.Core.Bool.{true, false, cond}
use mathlib.Core.List.{List, [], ◌∷◌, ◌++◌, append_assoc, append-nil}
use mathlib.Core.Path.{◌≡◌, refl, sym, ap, ◌∙◌}
use Prim.Native.Nat.{ℕ, zero, suc, ◌+◌, ◌-◌, ◌≤◌, ◌<◌}
use native.Mathlib.Nat.{le_refl}
use native.Mathlib.Numerals.{add-one}
use native.Mathlib.Omega.{arith}
use lib.ListN.{length, get_or, take, drop, length-take, length-drop}
use lib.Seq.{drop-cons, drop-drop, take-add, take-suc, take_all, drop-length}
use Rattle.std.specs.Array.{IsFirstChunk}
use Rattle.record.specs.Record.{size}
use Rattle.record.specs.Answer.{convertible}
use Rattle.record.proofs.Orders.{convertible_length, not_a_record}
use Rattle.torn.specs.Parts.{Part, taken, skipped, skip, reading, parts_of, bytes_in, back_of}

-- ---- turns enough

enough : (n m : ℕ) (s : List ℕ) → length s ≤ n → length s ≤ m → reading n s ≡ reading m s
unfolding reading
enough zero zero s h k = refl
enough zero (suc m) [] h k = refl
enough zero (suc m) (b ∷ s) h k = absurd (omega arith)
enough (suc n) zero [] h k = refl
enough (suc n) zero (b ∷ s) h k = absurd (omega arith)
enough (suc n) (suc m) [] h k = refl
enough (suc n) (suc m) (b ∷ s) h k =
    let d = length-drop size (b ∷ s) in
    rw (enough n m (drop size (b ∷ s)) (omega arith) (omega arith), enough n m s (omega arith) (omega arith))

pub parts_none : parts_of [] ≡ []
unfolding parts_of reading
parts_none = refl

parts_cons : (b : ℕ) (s : List ℕ) →
    parts_of (b ∷ s) ≡ cond (convertible (take size (b ∷ s))) (taken (take size (b ∷ s)) ∷ parts_of (drop size (b ∷ s))) (skip b (parts_of s))
unfolding parts_of reading
parts_cons b s =
    let t : List ℕ = drop size (b ∷ s) in
    let d = length-drop size (b ∷ s) in
    rw (enough (length s) (length t) t (omega arith) (le_refl (length t)))

pub parts_taken : (s : List ℕ) → convertible (take size s) ≡ true → parts_of s ≡ taken (take size s) ∷ parts_of (drop size s)
parts_taken [] e = absurd (let n = convertible_length [] e in omega arith)
parts_taken (b ∷ s) e = rw (parts_cons b s, e)

pub parts_skipped : (s : List ℕ) (at : ℕ) → convertible (take size (drop at s)) ≡ false → at < length s →
    parts_of (drop at s) ≡ skip (get_or s at 0) (parts_of (drop (at + 1) s))
parts_skipped s at e h =
    let c : drop at s ≡ get_or s at 0 ∷ drop (suc at) s = drop-cons s at 0 h in
    rw (add-one at, c, parts_cons (get_or s at 0) (drop (suc at) s), rw c at e)

-- the first 16 bytes of those that are left at a place
pub found_is : (s : List ℕ) (at : ℕ) {found : List ℕ} → IsFirstChunk (take (length s - at) (drop at s)) found size → found ≡ take size (drop at s)
found_is s at f = f.same ∙ ap (take size) (take_all (length s - at) (drop at s) (omega (arith, length-drop at s)))

-- fewer bytes are no record
pub no_record : (s : List ℕ) (at : ℕ) → length (take (length s - at) (drop at s)) < size → convertible (take size (drop at s)) ≡ false
no_record s at h =
    sym (not_a_record (take size (drop at s)) (λ e. omega (arith, length-take size (drop at s), length-take (length s - at) (drop at s), length-drop at s)))

-- ---- bytes skipped one after the other

unfoldable pub skip_all : List ℕ → List Part → List Part
skip_all [] ps = ps
skip_all (b ∷ bs) ps = skip b (skip_all bs ps)

pub skip_more : (bs : List ℕ) (b : ℕ) (ps : List Part) → skip_all (bs ++ b ∷ []) ps ≡ skip_all bs (skip b ps)
unfolding skip_all
skip_more [] b ps = refl
skip_more (c ∷ bs) b ps = ap (skip c) (skip_more bs b ps)

-- no run stands in front
abbrev pub NoRun : List Part → Type 0
NoRun [] = Unit {0}
NoRun (taken r ∷ ps) = Unit {0}
NoRun (skipped run ∷ ps) = ⊥

-- a run, if there is one
abbrev pub closed : List ℕ → List Part
closed [] = []
closed (b ∷ bs) = skipped (b ∷ bs) ∷ []

pub close : (bs : List ℕ) (ps : List Part) → NoRun ps → skip_all bs ps ≡ closed bs ++ ps
unfolding skip skip_all
close [] ps h = refl
close (b ∷ []) [] h = refl
close (b ∷ []) (taken r ∷ ps) h = refl
close (b ∷ []) (skipped run ∷ ps) h = absurd h
close (b ∷ c ∷ bs) ps h = ap (skip b) (close (c ∷ bs) ps h)

-- ---- bytes put back

pub back_skip : (b : ℕ) (ps : List Part) → back_of (skip b ps) ≡ b ∷ back_of ps
unfolding skip back_of
back_skip b [] = refl
back_skip b (taken r ∷ ps) = refl
back_skip b (skipped run ∷ ps) = refl

pub back_append : (ps qs : List Part) → back_of (ps ++ qs) ≡ back_of ps ++ back_of qs
unfolding back_of
back_append [] qs = refl
back_append (p ∷ ps) qs = rw (back_append ps qs) (sym (append_assoc (bytes_in p) (back_of ps) (back_of qs)))

pub back_closed : (bs : List ℕ) → back_of (closed bs) ≡ bs
unfolding back_of
back_closed [] = refl
back_closed (b ∷ bs) = append-nil (b ∷ bs)

pub back_one : (p : Part) → back_of (p ∷ []) ≡ bytes_in p
unfolding back_of
back_one p = append-nil (bytes_in p)

-- ---- what is read when the reading stands at a place: whole parts, and a run that is not closed yet

pub record Read (s : List ℕ) (at : ℕ) (done : List Part) (run : List ℕ) : Type 0 where
  pub within : at ≤ length s
  pub back : back_of done ++ run ≡ take at s
  pub rest : parts_of s ≡ done ++ skip_all run (parts_of (drop at s))

pub read_none : (s : List ℕ) → Read s 0 [] []
unfolding back_of skip_all
read_none s = record { within = omega arith; back = refl; rest = refl }

module _ {s : List ℕ} {at : ℕ} {done : List Part} {run : List ℕ} (h : Read s at done run) where
  pub read_taken : convertible (take size (drop at s)) ≡ true →
      Read s (at + size) (done ++ closed run ++ taken (take size (drop at s)) ∷ []) []
  unfolding skip_all
  read_taken e =
      let r : List ℕ = take size (drop at s) in
      let ps : List Part = parts_of (drop (at + size) s) in
      let n = convertible_length r e in
      record {
        within = let w = h.within in omega (arith, length-take size (drop at s), length-drop at s);
        back = rw (append-nil (back_of (done ++ closed run ++ taken r ∷ [])), back_append (done ++ closed run) (taken r ∷ []), back_append done (closed run), back_closed run, back_one (taken r), h.back, take-add at size s);
        rest = h.rest ∙ rw (parts_taken (drop at s) e, drop-drop size at s, close run (taken r ∷ ps) tt) (simp append_assoc);
      }

  pub read_skipped : convertible (take size (drop at s)) ≡ false → at < length s → Read s (at + 1) done (run ++ get_or s at 0 ∷ [])
  read_skipped e l =
      record {
        within = omega arith;
        back = sym (append_assoc (back_of done) run (get_or s at 0 ∷ [])) ∙ rw (h.back, add-one at) (sym (take-suc s at 0 l));
        rest = h.rest ∙ rw (parts_skipped s at e l) (ap (λ (ps : List Part). done ++ ps) (sym (skip_more run (get_or s at 0) (parts_of (drop (at + 1) s)))));
      }

  pub read_all : at ≡ length s → parts_of s ≡ done ++ closed run
  read_all e =
      let d : drop at s ≡ [] = rw e (drop-length s) in
      h.rest ∙ rw (d, parts_none, close run [] tt) (ap (λ (ps : List Part). done ++ ps) (append-nil (closed run)))

-- k bytes that are left, fewer than a record has, are skipped one by one
read_left : {s : List ℕ} (at k : ℕ) {done : List Part} {run : List ℕ} → Read s at done run → at + k ≡ length s → k < size →
    Read s (length s) done (run ++ drop at s)
read_left {s} at zero {run = run} h e l =
    let n : at ≡ length s = omega arith in
    rw (← n, n, drop-length s, append-nil run) (rw n at h)
read_left {s} at (suc k) {run = run} h e l =
    let short : length (take (length s - at) (drop at s)) < size = omega (arith, length-take (length s - at) (drop at s), length-drop at s) in
    let one : at + 1 ≡ suc at = omega arith in
    let next = read_left (at + 1) k (read_skipped h (no_record s at short) (omega arith)) (omega arith) (omega arith) in
    rw (drop-cons s at 0 (omega arith), ← append_assoc run (get_or s at 0 ∷ []) (drop (suc at) s), ← one) next

pub read_rest : {s : List ℕ} {at : ℕ} {done : List Part} {run : List ℕ} → Read s at done run → length (take (length s - at) (drop at s)) < size →
    Read s (length s) done (run ++ drop at s)
read_rest {s} {at} h l =
    read_left at (length s - at) h (omega (arith, h.within)) (omega (arith, length-take (length s - at) (drop at s), length-drop at s))
