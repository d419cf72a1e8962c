-- A record's bytes: how they are written, and that what is written is read again.
use mathlib.Core.List.{List, [], ◌∷◌, ◌++◌}
use mathlib.Core.Path.{◌≡◌, refl, sym, ap, ◌∙◌}
use Prim.Native.Nat.{ℕ, ◌<◌}
use native.Mathlib.Omega.{arith}
use lib.IntN.{ℤ}
use lib.ListN.{length, get_or, set, take, drop, length-drop, drop_of_length-le}
use lib.Seq.{get_or-take, sets-eq}
use mir.Syntax.{w32}
use mir.Val.{SFits}
use Rattle.projection.specs.Answer.{forward_of, inverse_of}
use Rattle.little_endian.specs.Number.{bytes_of, with_number}
use Rattle.little_endian.proofs.Numbers.{put_get, put_behind}
use Rattle.record.specs.Record.{size, mark, position, place, record_of, central_in, first_in, second_in}
use Rattle.record.specs.Answer.{judged_of}
use Rattle.record.proofs.Orders.{judged_position, judged_place}

-- bytes that begin alike
pub byte_same : (n : ℕ) (s r : List ℕ) → take n r ≡ take n s → (i : ℕ) → i < n → get_or r i 0 ≡ get_or s i 0
byte_same n s r e i h = sym (get_or-take n r i 0 h) ∙ ap (λ (l : List ℕ). get_or l i 0) e ∙ get_or-take n s i 0 h

-- four bytes and three numbers stored into 16 bytes, one after the other
pub stored : (l l₁ l₂ l₃ : List ℕ) (kind form : ℕ) (central first second : ℤ) → length l ≡ size →
    l₁ ≡ with_number (set (set (set (set l 0 0x4D) 1 0xD2) 2 kind) 3 form) 4 central → l₂ ≡ with_number l₁ 8 first →
    l₃ ≡ with_number l₂ 12 second → l₃ ≡ record_of kind form central first second
unfolding record_of bytes_of
stored l l₁ l₂ l₃ kind form central first second h e₁ e₂ e₃ =
    let front₀ = mark ++ (kind ∷ form ∷ []) in
    let front₁ = front₀ ++ bytes_of central in
    let front₂ = front₁ ++ bytes_of first in
    let a = drop 4 l in
    let b = drop 4 a in
    let c = drop 4 b in
    let la : length a ≡ 12 = length-drop 4 l ∙ omega arith in
    let lb : length b ≡ 8 = length-drop 4 a ∙ omega arith in
    let lc : length c ≡ 4 = length-drop 4 b ∙ omega arith in
    let s₁ : l₁ ≡ front₁ ++ b = e₁ ∙ ap (λ (x : List ℕ). with_number x 4 central) (sets-eq front₀ l 0 (omega arith)) ∙ put_behind front₀ a central (omega arith) in
    let s₂ : l₂ ≡ front₂ ++ c = e₂ ∙ ap (λ (x : List ℕ). with_number x 8 first) s₁ ∙ put_behind front₁ b first (omega arith) in
    e₃
    ∙ ap (λ (x : List ℕ). with_number x 12 second) s₂
    ∙ put_behind front₂ c second (omega arith)
    ∙ ap (λ (x : List ℕ). (front₂ ++ bytes_of second) ++ x) (drop_of_length-le c {i = 4} (omega arith))

-- the numbers of a record are read again, and so is what the record is answered
module _ (kind form : ℕ) (central first second : ℤ) where
  pub central_in_lem : SFits w32 central → central_in (record_of kind form central first second) ≡ central
  unfolding record_of
  central_in_lem f = put_get (mark ++ (kind ∷ form ∷ [])) (bytes_of first ++ bytes_of second) central f

  pub first_in_lem : SFits w32 first → first_in (record_of kind form central first second) ≡ first
  unfolding record_of bytes_of
  first_in_lem f = put_get (mark ++ (kind ∷ form ∷ bytes_of central)) (bytes_of second) first f

  pub second_in_lem : SFits w32 second → second_in (record_of kind form central first second) ≡ second
  unfolding record_of bytes_of
  second_in_lem f = put_get (mark ++ (kind ∷ form ∷ (bytes_of central ++ bytes_of first))) [] second f

module _ (kind : ℕ) {central first second : ℤ} (fc : SFits w32 central) (ff : SFits w32 first) (fs : SFits w32 second) where
  pub position_read : judged_of (record_of kind position central first second) ≡ forward_of kind central first second
  unfolding record_of
  position_read =
      sym (judged_position (record_of kind position central first second) refl refl)
      ∙ rw (central_in_lem kind position central first second fc, first_in_lem kind position central first second ff, second_in_lem kind position central first second fs)

  pub place_read : judged_of (record_of kind place central first second) ≡ inverse_of kind central first second
  unfolding record_of
  place_read =
      sym (judged_place (record_of kind place central first second) refl refl)
      ∙ rw (central_in_lem kind place central first second fc, first_in_lem kind place central first second ff, second_in_lem kind place central first second fs)
