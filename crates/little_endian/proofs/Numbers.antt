-- The one law of numbers in bytes: what is written is read again.
use mathlib.Core.Bool.{true}
use mathlib.Core.List.{List, ◌++◌, append_assoc}
use mathlib.Core.Path.{◌≡◌, refl, sym, ap, ◌∙◌}
use Prim.Native.Nat.{ℕ, ◌+◌, ◌≤◌}
use native.Mathlib.Nat.{add-zero}
use native.Mathlib.Omega.{arith}
use borrow.Author.Tests.{le-leb}
use lib.IntN.{ℤ}
use lib.ListN.{length, get_or, drop, length-append}
use lib.Seq.{get_or-append-add, take_at, drop-append-add}
use mir.Syntax.{w32}
use mir.Val.{SFits, to_z, of_z}
use mir.Facts.{Fits-of_z, to_z-of_z}
use Rattle.little_endian.specs.Number.{bytes_of, has_four, number_at, with_number}
use Rattle.little_endian.proofs.Wholes.{whole_least}

pub put_get : (front rest : List ℕ) (z : ℤ) → SFits w32 z → number_at (front ++ (bytes_of z ++ rest)) (length front) ≡ z
unfolding number_at bytes_of
put_get front rest z f =
    let bytes : List ℕ = bytes_of z ++ rest in
    let k : ℕ = length front in
    let room : has_four (front ++ bytes) k ≡ true = le-leb (k + 4) (length (front ++ bytes)) (rw (length-append front bytes) (omega arith)) in
    let zeroth : get_or (front ++ bytes) k 0 ≡ get_or bytes 0 0 = ap (λ (i : ℕ). get_or (front ++ bytes) i 0) (sym (add-zero k)) ∙ get_or-append-add front bytes 0 0 in
    rw (room, zeroth, get_or-append-add front bytes 1 0, get_or-append-add front bytes 2 0, get_or-append-add front bytes 3 0)
    (ap (to_z w32) (whole_least 4 (of_z w32 z) (Fits-of_z f).fits) ∙ to_z-of_z f)

-- a number put behind what stands in front
pub put_behind : (front l : List ℕ) (z : ℤ) → 4 ≤ length l → with_number (front ++ l) (length front) z ≡ (front ++ bytes_of z) ++ drop 4 l
unfolding with_number
put_behind front l z h =
    let k : ℕ = length front in
    let room : has_four (front ++ l) k ≡ true = le-leb (k + 4) (length (front ++ l)) (rw (length-append front l) (omega arith)) in
    rw (room, take_at front l k refl, drop-append-add front l 4) (sym (append_assoc front (bytes_of z) (drop 4 l)))
