-- What becomes of a record: when it is left alone, what is put into it, and that it keeps its length.
use mathlib.Core.Bool.{true, false, ◌&&◌, and-eq-true_iff}
use mathlib.Core.List.{List, ◌++◌, append-nil, append_assoc}
use mathlib.Core.Path.{◌≡◌, refl, sym, ap, ◌∙◌}
use Prim.Native.Nat.{ℕ, ◌+◌}
use native.Mathlib.Omega.{arith}
use borrow.Author.Tests.{eqb-true}
use lib.Dec.{eqb}
use lib.IntN.{ℤ}
use lib.ListN.{length, take, drop, take-append-drop, length-append, length-drop, drop_of_length-le}
use lib.Seq.{length-take-le}
use Rattle.parallel.specs.Table.{rows, row_of}
use Rattle.refusal.specs.Outcome.{Outcome, refused, given, unless}
use Rattle.parallel.specs.Refusal.{is_kind}
use Rattle.projection.specs.Answer.{forward_of, inverse_of}
use Rattle.little_endian.specs.Number.{bytes_of, with_number}
use Rattle.little_endian.proofs.Numbers.{put_behind}
use Rattle.record.specs.Record.{size, place, has_mark, holds_place, kind_in, form_in, central_in}
use Rattle.reprojection.specs.Retired.{retired, is_retired, retired_row, back_under}
use Rattle.reprojection.specs.Inside.{Formerly}
use Rattle.reprojection.specs.Reprojected.{is_taken, position_in, place_in, with_place, reprojected}

-- ---- left alone, or not

pub stays : (s : List ℕ) → is_taken s ≡ false → s ≡ reprojected s
unfolding reprojected
stays s e = rw e

pub taken : (s : List ℕ) → is_taken s ≡ true → with_place s (place_in s) ≡ reprojected s
unfolding reprojected
taken s e = rw e

-- what holds a place is of a record's length
pub place_size : (s : List ℕ) → holds_place s ≡ true → length s ≡ size
place_size s e =
    let m = ((and-eq-true_iff (eqb (length s) size && has_mark s) (eqb (form_in s) place)).0 e).0 in
    eqb-true (length s) size ((and-eq-true_iff (eqb (length s) size) (has_mark s)).0 m).0

pub taken_size : (s : List ℕ) → is_taken s ≡ true → length s ≡ size
taken_size s e = place_size s ((and-eq-true_iff (holds_place s) (is_retired (kind_in s))).0 e).0

-- ---- the new place

-- each of the two kinds has the row that the other had
pub formerly_3 : Formerly 3 4
unfolding row_of rows retired_row retired is_kind
formerly_3 = record { row_is = refl; is_kind_lem = refl }

pub formerly_4 : Formerly 4 3
unfolding row_of rows retired_row retired is_kind
formerly_4 = record { row_is = refl; is_kind_lem = refl }

-- and sends back as that
pub back_is : {kind other : ℕ} → Formerly kind other → (c x y : ℤ) → inverse_of other c x y ≡ back_under (retired_row kind) c x y
unfolding inverse_of back_under unless
back_is h c x y = rw (h.is_kind_lem, h.row_is)

module _ (s : List ℕ) where
  pub sent_on : (l f : ℤ) → given (l, f) ≡ position_in s → forward_of (kind_in s) (central_in s) l f ≡ place_in s
  unfolding place_in
  sent_on l f e = rw (sym e)

  pub not_sent : (n : ℕ) → refused n ≡ position_in s → refused n ≡ place_in s
  unfolding place_in
  not_sent n e = rw (sym e)

-- two numbers put behind the first 8 bytes
pub two_put : (l l₁ l₂ : List ℕ) (x y : ℤ) → length l ≡ size → l₁ ≡ with_number l 8 x → l₂ ≡ with_number l₁ 12 y →
    l₂ ≡ with_place l (given (x, y))
unfolding bytes_of
two_put l l₁ l₂ x y h e₁ e₂ =
    let front₁ : List ℕ = take 8 l in
    let front₂ : List ℕ = front₁ ++ bytes_of x in
    let a : List ℕ = drop 8 l in
    let b : List ℕ = drop 4 a in
    let n₁ : length front₁ ≡ 8 = length-take-le 8 l (omega arith) in
    let n₂ : length front₂ ≡ 12 = length-append front₁ (bytes_of x) ∙ omega arith in
    let la : length a ≡ 8 = length-drop 8 l ∙ omega arith in
    let lb : length b ≡ 4 = length-drop 4 a ∙ omega arith in
    let s₁ : l₁ ≡ front₂ ++ b =
    e₁
    ∙ ap (λ (m : List ℕ). with_number m 8 x) (sym (take-append-drop 8 l))
    ∙ ap (λ (n : ℕ). with_number (front₁ ++ a) n x) (sym n₁)
    ∙ put_behind front₁ a x (omega arith) in
    e₂
    ∙ ap (λ (m : List ℕ). with_number m 12 y) s₁
    ∙ ap (λ (n : ℕ). with_number (front₂ ++ b) n y) (sym n₂)
    ∙ put_behind front₂ b y (omega arith)
    ∙ ap (λ (m : List ℕ). (front₂ ++ bytes_of y) ++ m) (drop_of_length-le b {i = 4} (omega arith))
    ∙ append-nil (front₂ ++ bytes_of y)
    ∙ append_assoc front₁ (bytes_of x) (bytes_of y)

-- ---- a record keeps its length

with_place_long : (s : List ℕ) (o : Outcome (ℤ × ℤ)) → length s ≡ size → length (with_place s o) ≡ length s
unfolding bytes_of
with_place_long s (given p) h =
    length-append (take 8 s) (bytes_of p.0 ++ bytes_of p.1)
    ∙ ap (λ (n : ℕ). n + 8) (length-take-le 8 s (omega arith))
    ∙ sym h
with_place_long s (refused n) h = refl

pub reprojected_long : (s : List ℕ) → length (reprojected s) ≡ length s
unfolding reprojected
reprojected_long s = grind (arith, with_place_long s (place_in s), taken_size s)
