-- Text put into a buffer.
use mathlib.Core.Path.{◌≡◌, refl, sym, ap, ◌∙◌}
use mathlib.Core.Bool.{Bool, true, false}
use mathlib.Core.List.{List, [], ◌++◌, append_assoc}
use Prim.Native.Nat.{ℕ, ◌+◌, ◌-◌, ◌≤◌}
use native.Mathlib.Omega.{arith}
use borrow.Author.Tests.{le-leb}
use borrow.Rule.Slice.PartMut.{mid_len}
use lib.Dec.{leb}
use lib.IntN.{ℤ}
use lib.ListN.{length, take, drop, length-append, take-append-drop}
use lib.Seq.{drop-append-le, drop-drop}
use mir.Syntax.{w32}
use mir.Val.{SFits, to_z, of_z}
use mir.Facts.{to_z-of_z}
use Rattle.digits.specs.Put.{put_at, put_front, Put}
use Rattle.digits.proofs.Puts.{put_nothing, put_twice, front_put, put_front_lem}
use Rattle.std.specs.Prelude.{Option, Some, None}
use Rattle.lines.specs.Decimal.{number_text}
use Rattle.lines.specs.Buffer.{Placed}

-- one text behind another, the first of them at the front
pub put_behind : {l l' l'' text more : List ℕ} {next end : ℕ} → Put l 0 text next l' → Put l' next more end l'' →
    Put l 0 (text ++ more) end l''
put_behind {l} p q = let z : 0 ≤ length l = omega arith in put_twice z p q

-- a number as the code hands it on is the number
pub put_number : {l l' : List ℕ} {at next : ℕ} {z : ℤ} → SFits w32 z → Put l at (number_text (to_z w32 (of_z w32 z))) next l' →
    Put l at (number_text z) next l'
put_number fits p = rw (to_z-of_z fits) at p

-- text put at the front of a buffer that it fits, and a buffer that is too short
pub placed : {l l' text : List ℕ} {end : ℕ} {fits : Bool} → fits ≡ true → Put l 0 text end l' → Placed fits text l (Some end) l'
placed e p = let (n, h) = put_front_lem p in record { counted = rw (e, n); holds = rw e h }

-- no text at all
pub placed_none : {fits : Bool} {text : List ℕ} (l : List ℕ) → fits ≡ true → text ≡ [] → Placed fits text l (Some 0) l
placed_none l e n = placed e (rw n (put_nothing l 0))

-- bytes that are copied to the front of a buffer
pub copied : (l text part : List ℕ) → length text ≤ length l → part ≡ text →
    Placed (leb (length text) (length l)) text l (Some (length text)) (part ++ drop (length text) l)
unfolding put_front
copied l text part h e = rw (le-leb (length text) (length l) h, e) (record { counted = refl; holds = refl })

pub too_short : {l text : List ℕ} {fits : Bool} → fits ≡ false → Placed fits text l None l
too_short e = record { counted = rw e; holds = rw e }

-- a buffer has the room where an answer counts
pub was_placed : (fits : Bool) {text l l' : List ℕ} {answer : Option ℕ} {end : ℕ} → Placed fits text l answer l' → answer ≡ Some end → fits ≡ true
was_placed true p e = refl
was_placed false p e = cc

-- text that an answer counts is put at the front
pub was_put : (fits : Bool) {text l l' : List ℕ} {answer : Option ℕ} {end : ℕ} → Placed fits text l answer l' → answer ≡ Some end → Put l 0 text end l'
was_put true {text} {l} {end = end} p e = let n : end ≡ length text = cc in front_put l text n p.holds
was_put false p e = cc

-- it is of bytes of the buffer
pub put_le : {l l' text : List ℕ} {end : ℕ} → Put l 0 text end l' → end ≤ length l'
unfolding put_front
put_le p = let (n, h) = put_front_lem p in omega (arith, n, simp length-append at (ap length h))

pub counted_le : (fits : Bool) {text l l' : List ℕ} {answer : Option ℕ} {end : ℕ} → Placed fits text l answer l' → answer ≡ Some end → end ≤ length l'
counted_le fits p e = put_le (was_put fits p e)

-- ---- text at the front of a part of a buffer, from a place up to e

-- it is put at that place
pub put_in_part : (e : ℕ) {l part text : List ℕ} {at end : ℕ} →
    Put (take (e - at) (drop at l)) 0 text end part → length part ≡ length (take (e - at) (drop at l)) →
    Put l at text (at + end) (take at l ++ (part ++ drop (e - at) (drop at l)))
unfolding put_at put_front
put_in_part e {l} {part} {text} {at} p s =
    let c = put_front_lem p in
    let k : ℕ = e - at in
    let rest : List ℕ = drop at l in
    let n : ℕ = length text in
    let le : n ≤ length (take k rest) = omega (arith, c.0, s, put_le p) in
    let kept : drop n (take k rest) ++ drop k rest ≡ drop (at + n) l =
    sym (drop-append-le n (take k rest) (drop k rest) le) ∙ ap (drop n) (take-append-drop k rest) ∙ drop-drop n at l in
    record {
      behind = ap (λ (m : ℕ). at + m) c.0;
      holds = ap (λ (r : List ℕ). take at l ++ r)
          (ap (λ (r : List ℕ). r ++ drop k rest) c.1
          ∙ append_assoc text (drop n (take k rest)) (drop k rest)
          ∙ ap (λ (r : List ℕ). text ++ r) kept);
    }

pub put_part : (fits : Bool) (e : ℕ) {l part text : List ℕ} {at end : ℕ} {answer : Option ℕ} →
    Placed fits text (take (e - at) (drop at l)) answer part → answer ≡ Some end → length part ≡ length (take (e - at) (drop at l)) →
    Put l at text (at + end) (take at l ++ (part ++ drop (e - at) (drop at l)))
put_part fits e p a s = put_in_part e (was_put fits p a) s

-- it is no longer than the part
pub part_le : (fits : Bool) (at e : ℕ) (l : List ℕ) {part text : List ℕ} {answer : Option ℕ} {end : ℕ} → e ≤ length l →
    Placed fits text (take (e - at) (drop at l)) answer part → answer ≡ Some end → length part ≡ length (take (e - at) (drop at l)) →
    end ≤ e - at
part_le fits at e l h p a s = omega (arith, counted_le fits p a, s, mid_len at e l h)
