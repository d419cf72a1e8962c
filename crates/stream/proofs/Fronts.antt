-- Bytes that come to the front of a buffer.
use Rattle.std.proofs.Common.{◌≡◌, ℕ, ◌+◌, ◌-◌, ◌≤◌, List, ◌++◌, length, take, drop, sym, ap, ◌∙◌, arith, length-drop, length-take-le, append_assoc, take-append-drop, take_all}
use Rattle.std.specs.List.{copy_within}
use Rattle.std.proofs.lemmas.List.{drop-append-le}
use lib.Seq.{take-length}
use Rattle.digits.specs.Put.{put_front}
use Rattle.digits.proofs.Puts.{front_same}

-- those from a place on
pub copied : (l : List ℕ) (from : ℕ) → from ≤ length l → copy_within l from (length l) 0 ≡ put_front l (drop from l)
unfolding put_front
copied l from h =
    let long : length (drop from l) ≡ 0 + (length l - from) = length-drop from l ∙ omega arith in
    rw (take_all (length l - from) (drop from l) (omega (arith, length-drop from l)), long)

pub unmoved : (l : List ℕ) (from : ℕ) → from ≤ 0 → l ≡ put_front l (drop from l)
unmoved l from h = let z : from ≡ 0 = omega arith in rw z (rw take-length at (front_same l (length l)))

-- text at the front of a part is at the front of the whole
pub front_of_part : (l text : List ℕ) (n : ℕ) → n ≤ length l → length text ≤ n → put_front (take n l) text ++ drop n l ≡ put_front l text
unfolding put_front
front_of_part l text n h k =
    append_assoc text (drop (length text) (take n l)) (drop n l)
    ∙ ap (λ r. text ++ r) (sym (drop-append-le (length text) (take n l) (drop n l) (omega (arith, length-take-le n l h))) ∙ ap (drop (length text)) (take-append-drop n l))
