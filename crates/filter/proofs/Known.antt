-- Known bytes that grow by one part after another.
use Rattle.std.proofs.Common.{◌≡◌, ℕ, ◌+◌, ◌-◌, ◌≤◌, List, ◌++◌, Option, length, take, drop, sym, ap, ◌∙◌, arith, length-drop}
use Rattle.std.proofs.lemmas.List.{take_rest, drop-drop}
use Rattle.std.proofs.Math.Seq.{take-add}
use Rattle.std.proofs.KnownBytes.{Appends-trans}
use Rattle.std.specs.Io.KnownBytes.{Appends}

-- the front of some bytes is written, and then some of the rest
pub front_grows : (a b c : Option (List ℕ)) (bytes rest : List ℕ) (n : ℕ) → n ≤ length rest → length rest ≤ length bytes →
    rest ≡ drop (length bytes - length rest) bytes → Appends a b (take (length bytes - length rest) bytes) → Appends b c (take n rest) →
    let rest' = take (length rest - n) (drop n rest) in
    (length rest' ≤ length bytes) × (rest' ≡ drop (length bytes - length rest') bytes) × Appends a c (take (length bytes - length rest') bytes)
front_grows a b c bytes rest n le within is p q =
    let k : ℕ = length bytes - length rest in
    let same : take (length rest - n) (drop n rest) ≡ drop n rest = take_rest rest n in
    let long : length (drop n rest) ≡ length rest - n = length-drop n rest in
    let next : length bytes - length (drop n rest) ≡ k + n = omega arith in
    let dropped : drop n rest ≡ drop (k + n) bytes = ap (drop n) is ∙ drop-drop n k bytes in
    let taken : take k bytes ++ take n rest ≡ take (k + n) bytes = ap (λ l. take k bytes ++ take n l) is ∙ sym (take-add k n bytes) in
    rw (same, next) (omega arith, dropped, rw taken at (Appends-trans a b c (take k bytes) (take n rest) p q))
