-- What a record with another place keeps, and that the place is read from it again.
use mathlib.Core.List.{List, [], ◌++◌, append_assoc}
use mathlib.Core.Path.{◌≡◌, refl, sym, subst, ◌∙◌}
use Prim.Native.Nat.{ℕ, ◌<◌}
use native.Mathlib.Omega.{arith}
use lib.IntN.{ℤ}
use lib.ListN.{length, get_or, take, length-append}
use lib.Seq.{length-take-le, take_at}
use mir.Syntax.{w32}
use mir.Val.{SFits}
use Rattle.refusal.specs.Outcome.{Outcome, refused, given}
use Rattle.little_endian.specs.Number.{bytes_of, number_at}
use Rattle.little_endian.proofs.Numbers.{put_get}
use Rattle.record.specs.Record.{size, central_in, first_in, second_in}
use Rattle.record.proofs.Stored.{byte_same}
use Rattle.reprojection.specs.Reprojected.{place_in, with_place, reprojected}
use Rattle.reprojection.proofs.Places.{taken_size}

pub central_same : (s r : List ℕ) → length r ≡ length s → take 8 r ≡ take 8 s → central_in r ≡ central_in s
unfolding number_at
central_same s r l e =
    let same : (i : ℕ) → i < 8 → get_or r i 0 ≡ get_or s i 0 = byte_same 8 s r e in
    rw (l, same 4 (omega arith), same 5 (omega arith), same 6 (omega arith), same 7 (omega arith))

module _ (s : List ℕ) (x y : ℤ) (h : length s ≡ size) where
  abbrev front : List ℕ
  front = take 8 s

  front_long : length front ≡ 8
  front_long = length-take-le 8 s (omega arith)

  front_same : take 8 (with_place s (given (x, y))) ≡ take 8 s
  front_same = take_at front (bytes_of x ++ bytes_of y) 8 front_long

  pub x_read : SFits w32 x → first_in (with_place s (given (x, y))) ≡ x
  x_read f = subst (λ (n : ℕ). number_at (front ++ (bytes_of x ++ bytes_of y)) n ≡ x) front_long (put_get front (bytes_of y) x f)

  pub y_read : SFits w32 y → second_in (with_place s (given (x, y))) ≡ y
  unfolding bytes_of
  y_read f =
      let l : length (front ++ bytes_of x) ≡ 12 = length-append front (bytes_of x) ∙ omega (arith, front_long) in
      let e : (front ++ bytes_of x) ++ (bytes_of y ++ []) ≡ front ++ (bytes_of x ++ bytes_of y) = append_assoc front (bytes_of x) (bytes_of y) in
      subst (λ (n : ℕ). number_at (front ++ (bytes_of x ++ bytes_of y)) n ≡ y) l
      (rw (sym e) (put_get (front ++ bytes_of x) [] y f))

-- whatever becomes of a record, its first 8 bytes stay
with_front : (s : List ℕ) (o : Outcome (ℤ × ℤ)) → length s ≡ size → take 8 (with_place s o) ≡ take 8 s
with_front s (given p) h = front_same s p.0 p.1 h
with_front s (refused n) h = refl

pub front_kept : (s : List ℕ) → take 8 (reprojected s) ≡ take 8 s
unfolding reprojected
front_kept s = grind (arith, with_front s (place_in s), taken_size s)
