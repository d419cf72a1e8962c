-- Text put into a buffer: a byte, the digits of a number, one text behind another.
use mathlib.Core.Path.{◌≡◌, refl, sym, ap, ◌∙◌, subst}
use mathlib.Core.List.{List, [], ◌∷◌, ◌++◌, append-nil, append_assoc}
use Prim.Native.Nat.{ℕ, zero, suc, ◌+◌, ◌-◌, ◌≤◌, ◌<◌}
use native.Mathlib.Nat.{zero-add, add-zero}
use native.Mathlib.Numerals.{add-one}
use native.Mathlib.Omega.{arith}
use borrow.Rule.Slice.PartMut.{mid_len}
use lib.ListN.{length, take, drop, set, length-append, length-drop, drop_of_length-le, take-append-drop}
use lib.Seq.{take_at, length-take-le, drop-append-add, drop-drop, set_split}
use Rattle.digits.specs.Digits.{last_digits}
use Rattle.digits.specs.Put.{put_at, put_front, Put}
use Rattle.digits.proofs.Values.{last_length}

pub put_byte : (l : List ℕ) (at byte : ℕ) → at < length l → Put l at (byte ∷ []) (at + 1) (set l at byte)
unfolding put_at
put_byte l at byte h = record { behind = refl; holds = rw (add-one at) (set_split l at byte h) }

-- a part of a buffer, of the text's length, in whose place the text stands
pub put_exact : (l text : List ℕ) (at count : ℕ) → length text ≡ count →
    Put l at text (at + count) (take at l ++ (text ++ drop (at + count - at) (drop at l)))
unfolding put_at
put_exact l text at count e =
    let d : at + count - at ≡ length text = omega arith in
    record {
      behind = ap (λ (k : ℕ). at + k) (sym e);
      holds = rw (d, drop-drop (length text) at l);
    }

-- a part of a buffer that is filled, whatever its length
pub put_filled : (fill : ℕ → List ℕ) → ((k : ℕ) → length (fill k) ≡ k) → (l part : List ℕ) (at count : ℕ) → at + count ≤ length l →
    part ≡ fill (length (take (at + count - at) (drop at l))) →
    Put l at (fill count) (at + count) (take at l ++ (part ++ drop (at + count - at) (drop at l)))
put_filled fill long l part at count h p =
    let d : at + count - at ≡ count = omega arith in
    let t : part ≡ fill count = p ∙ rw (mid_len at (at + count) l h, d) in
    rw t (put_exact l (fill count) at count (long count))

-- with digits
pub put_digits : (l part : List ℕ) (at count n : ℕ) → at + count ≤ length l →
    part ≡ last_digits (length (take (at + count - at) (drop at l))) n →
    Put l at (last_digits count n) (at + count) (take at l ++ (part ++ drop (at + count - at) (drop at l)))
put_digits l part at count n = put_filled (λ (k : ℕ). last_digits k n) (λ k. last_length k n) l part at count

drop_past : (p q : List ℕ) (m n : ℕ) → length p ≡ m → drop (m + n) (p ++ q) ≡ drop n q
drop_past p q m n e = subst (λ (k : ℕ). drop (k + n) (p ++ q) ≡ drop n q) e (drop-append-add p q n)

-- nothing put
pub put_nothing : (l : List ℕ) (at : ℕ) → Put l at [] at l
unfolding put_at
put_nothing l at = record { behind = sym (add-zero at); holds = sym (rw (add-zero at) (take-append-drop at l)) }

-- one text behind the other
pub put_twice : {l l' l'' text more : List ℕ} {at next end : ℕ} → at ≤ length l → Put l at text next l' → Put l' next more end l'' →
    Put l at (text ++ more) end l''
unfolding put_at
put_twice {l} {l'} {l''} {text} {more} {at} {next} {end} h p q =
    let m : ℕ = at + length text in
    let pre : List ℕ = take at l ++ text in
    let len : length pre ≡ m = length-append (take at l) text ∙ ap (λ (k : ℕ). k + length text) (length-take-le at l h) in
    let e : l' ≡ pre ++ drop m l = p.holds ∙ sym (append_assoc (take at l) text (drop m l)) in
    let t : take next l' ≡ pre = rw (p.behind, e) (take_at pre (drop m l) m len) in
    let n : m + length more ≡ at + length (text ++ more) = omega (arith, length-append text more) in
    let d : drop (next + length more) l' ≡ drop (at + length (text ++ more)) l =
    rw (p.behind, e) (drop_past pre (drop m l) m (length more) len ∙ drop-drop (length more) m l ∙ ap (λ (k : ℕ). drop k l) n) in
    record {
      behind = omega arith;
      holds = q.holds ∙ rw (t, d) (simp append_assoc);
    }

-- a buffer keeps its length
pub put_long : {l l' text : List ℕ} {at next : ℕ} → Put l at text next l' → next ≤ length l → length l' ≡ length l
unfolding put_at
put_long {l} {l'} {text} {at} p h =
    let n : ℕ = at + length text in
    let b = p.behind in
    let a : length (take at l) ≡ at = length-take-le at l (omega arith) in
    rw (p.holds, length-append (take at l) (text ++ drop n l), length-append text (drop n l), a, length-drop n l) (omega arith)

-- text that reaches from the front to the end is all that the buffer holds
pub put_all : {l l' text : List ℕ} {next : ℕ} → Put l 0 text next l' → length l ≡ next → l' ≡ text
unfolding put_at
put_all {l} {l'} {text} p e =
    let h : length l ≤ 0 + length text = omega (arith, p.behind, e) in
    p.holds ∙ rw (drop_of_length-le l h) (append-nil text)

-- text that stands at the front is put at place 0
pub front_put : (l text : List ℕ) {l' : List ℕ} {end : ℕ} → end ≡ length text → l' ≡ put_front l text → Put l 0 text end l'
unfolding put_at put_front
front_put l text e h =
    let z : 0 + length text ≡ length text = zero-add (length text) in
    record { behind = e ∙ sym z; holds = h ∙ ap (λ (n : ℕ). text ++ drop n l) (sym z) }

pub put_front_lem : {l l' text : List ℕ} {end : ℕ} → Put l 0 text end l' → (end ≡ length text) × (l' ≡ put_front l text)
unfolding put_at put_front
put_front_lem {text = text} p = let z = zero-add (length text) in (p.behind ∙ z, p.holds ∙ rw z)

-- bytes that stand at the front already
pub front_same : (l : List ℕ) (n : ℕ) → l ≡ put_front l (take n l)
unfolding put_front
front_same l zero = refl
front_same [] (suc n) = refl
front_same (x ∷ l) (suc n) = ap (λ (r : List ℕ). x ∷ r) (front_same l n)
