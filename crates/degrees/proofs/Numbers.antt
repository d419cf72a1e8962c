-- Past the judgement of the floats, a call answers what the call on whole numbers answers at the numbers read.
use mathlib.Core.Bool.{Bool, true, false, not, cond, ◌&&◌}
use mathlib.Core.List.{List, []}
use mathlib.Core.Path.{◌≡◌, refl, sym, ap, ◌∙◌}
use Prim.Native.Nat.{ℕ, suc, ◌*◌, ◌≤◌, ◌<◌, min}
use native.Mathlib.Omega.{arith}
use borrow.Author.Tests.{le-ltb, lt-ltb, ltb-true, ltb-false}
use lib.Dec.{ltb, lit≤}
use lib.IntN.{ℤ, pos, negsuc, nat_abs}
use lib.Ieee.{Float}
use lib.Ieee.Scale.{finite}
use mir.Syntax.{w32}
use mir.Val.{to_z, of_z}
use mir.Facts.{to_z-of_z}
use Rattle.whole.specs.Signed.{plus, minus}
use Rattle.whole.proofs.Signs.{plus_neg, minus_neg}
use Rattle.angle.specs.Angle.{per_degree, N, H, outside, above, below}
use borrow.Author.Tests.{not-false}
use Rattle.parallel.specs.declared.table.Row.{Row}
use Rattle.parallel.specs.Table.{row_of}
use Rattle.parallel.specs.Parallel.{height}
use Rattle.parallel.specs.Latitude.{width_at}
use Rattle.refusal.specs.Outcome.{Rule, Outcome, refused, on_given, unless}
use Rattle.parallel.specs.Refusal.{is_kind, bad_kind}
use Rattle.parallel.specs.Columns.{Columns}
use Rattle.parallel.proofs.Orders.{Passes, on_unless, sides, refused_sides}
use Rattle.parallel.proofs.Rows.{columns}
use Rattle.parallel.proofs.Heights.{pole_small, found_small}
use Rattle.projection.specs.Inverse.{position_of}
use Rattle.projection.specs.Answer.{row_order, on_row, forward_of as forward_numbers, inverse_of as inverse_numbers}
use Rattle.projection.proofs.Orders.{inverse_row as numbers-row}
use Rattle.reading.specs.Reading.{centiseconds, units, outside as farther}
use Rattle.reading.specs.Held.{most, held}
use Rattle.reading.proofs.Floats.{read_within}
use Rattle.reading.proofs.Held.{held_back, held_same}
use Rattle.degrees.specs.Refusal.{bad_central, bad_longitude, bad_latitude}
use Rattle.degrees.specs.Answer.{written_place, written_position, forward_of, inverse_of}
use Rattle.degrees.proofs.Judged.{outside_180, outside_90, Finite, all_finite}

-- what passes a limit of the floats passes that of the numbers
within : (n : ℕ) (x : Float) → farther n x ≡ false → outside (n * per_degree) (centiseconds x) ≡ false
within n x h = le-ltb (n * per_degree) (nat_abs (centiseconds x)) (read_within n per_degree x h)

central_passes : (c : Float) → Passes (bad_central c) → outside N (centiseconds c) ≡ false
central_passes c h = search (h, within 180 c)

longitude_passes : (l : Float) → Passes (bad_longitude l) → outside N (centiseconds l) ≡ false
longitude_passes l h = search (h, within 180 l)

latitude_passes : (f : Float) → Passes (bad_latitude f) → outside H (centiseconds f) ≡ false
latitude_passes f h = search (h, within 90 f)

pub forward_numbers_lem : (kind : ℕ) (c l f : Float) → Passes (bad_kind kind) → Finite c l f → Passes (bad_central c) →
    Passes (bad_longitude l) → Passes (bad_latitude f) →
    on_given written_place (forward_numbers kind (centiseconds c) (centiseconds l) (centiseconds f)) ≡ forward_of kind c l f
unfolding forward_numbers forward_of unless
forward_numbers_lem kind c l f k h i j m =
    simp (k, h.first, h.second, h.third, i, j, m, central_passes c i, longitude_passes l j, latitude_passes f m)

pub inverse_numbers_lem : (kind : ℕ) (c x y : Float) → Passes (bad_kind kind) → Finite c x y → Passes (bad_central c) →
    on_given written_position (inverse_numbers kind (centiseconds c) (units x) (units y)) ≡ inverse_of kind c x y
unfolding inverse_numbers inverse_of unless
inverse_numbers_lem kind c x y k h i =
    let r = row_of kind in
    simp (k, h.first, h.second, h.third, i, central_passes c i)
    (on_unless written_position (row_order r (units x) (units y)) (position_of r (centiseconds c) (units x) (units y)))

-- and is handed on as it is read
handed_on : (n : ℕ) (x : Float) → n ≤ N → outside n (centiseconds x) ≡ false → to_z w32 (of_z w32 (held (centiseconds x))) ≡ centiseconds x
handed_on n x l h = held_back (centiseconds x) refl ∙ held_same (centiseconds x) (omega (arith, ltb-false n (nat_abs (centiseconds x)) h))

-- the same by the code's tests, and by the numbers that it hands on
pub forward_answered : (kind : ℕ) (c l f : Float) → is_kind kind ≡ true → (finite c && finite l && finite f) ≡ true →
    Passes (bad_central c) → Passes (bad_longitude l) → Passes (bad_latitude f) →
    forward_of kind c l f
    ≡ on_given written_place
    (forward_numbers kind (to_z w32 (of_z w32 (held (centiseconds c)))) (to_z w32 (of_z w32 (held (centiseconds l))))
    (to_z w32 (of_z w32 (held (centiseconds f)))))
forward_answered kind c l f k h i j m =
    rw (
      handed_on N c (lit≤ tt) (central_passes c i),
      handed_on N l (lit≤ tt) (longitude_passes l j),
      handed_on H f (lit≤ tt) (latitude_passes f m),
    )
    (sym (forward_numbers_lem kind c l f (ap not k) (all_finite c l f h) i j m))

-- what is held of a place: no row's answer shows it
held_inside : (n : ℕ) (z : ℤ) → n < 5 * N → outside n z ≡ false → held z ≡ z
held_inside n z h e = held_same z (omega (arith, ltb-false n (nat_abs z) e))

-- the parts of what is held, and so the side of a limit that it is past
held_plus : (z : ℤ) → plus (held z) ≡ min most (plus z)
held_plus (pos n) = refl
held_plus (negsuc n) = plus_neg (pos (min most (suc n)))

held_minus : (z : ℤ) → minus (held z) ≡ min most (minus z)
held_minus (pos n) = refl
held_minus (negsuc n) = minus_neg (pos (min most (suc n)))

held_past : (n m : ℕ) → n < 5 * N → ltb n (min most m) ≡ ltb n m
held_past n m h = go (ltb n m) refl
  where
    go : (b : Bool) → ltb n m ≡ b → ltb n (min most m) ≡ b
    go true e = lt-ltb n (min most m) (omega (arith, ltb-true n m e))
    go false e = le-ltb n (min most m) (omega (arith, ltb-false n m e))

held_sides : {A : Type 0} (p m n : ℕ) (z : ℤ) (rest rest' : List Rule) (a a' : A) → n < 5 * N → outside n z ≡ true →
    unless (sides p m n (held z) rest) a ≡ unless (sides p m n z rest') a'
held_sides p m n z rest rest' a a' h e =
    rw (held_plus z, held_minus z, held_past n (plus z) h, held_past n (minus z) h)
    (refused_sides p m n z rest a e ∙ sym (refused_sides p m n z rest' a' e))

row_held : (r : Row) → Columns r → (c x y : ℤ) → on_row r c (held x) (held y) ≡ on_row r c x y
unfolding on_row unless
row_held r cols c x y = at_y_lem (outside (height r H) y) refl
  where
    top : height r H < 5 * N
    top = pole_small r cols

    width : outside (height r H) y ≡ false → width_at r y < 5 * N
    width e = found_small r cols y (ltb-false (height r H) (nat_abs y) e)

    at_x : (b : Bool) → outside (height r H) y ≡ false → outside (width_at r y) x ≡ b → on_row r c (held x) y ≡ on_row r c x y
    at_x true e d =
        ap (λ (o : Outcome (ℤ × ℤ)). cond (above (height r H) y) (refused 6) (cond (below (height r H) y) (refused 18) o))
        (held_sides 7 17 (width_at r y) x [] [] (position_of r c (held x) y) (position_of r c x y) (width e) d)
    at_x false e d = ap (λ (z : ℤ). on_row r c z y) (held_inside (width_at r y) x (width e) d)

    at_y_lem : (b : Bool) → outside (height r H) y ≡ b → on_row r c (held x) (held y) ≡ on_row r c x y
    at_y_lem true e =
        held_sides 6 18 (height r H) y (sides 7 17 (width_at r (held y)) (held x) []) (sides 7 17 (width_at r y) x [])
        (position_of r c (held x) (held y)) (position_of r c x y) top e
    at_y_lem false e = rw (held_inside (height r H) y top e) (at_x (outside (width_at r y) x) e refl)

pub inverse_held : (kind : ℕ) (c x y : ℤ) → Passes (bad_kind kind) → nat_abs c ≤ N →
    inverse_numbers kind c (held x) (held y) ≡ inverse_numbers kind c x y
inverse_held kind c x y k h =
    let i = le-ltb N (nat_abs c) h in
    sym (numbers-row kind c (held x) (held y) k i)
    ∙ row_held (row_of kind) (columns kind (rw (not-false (is_kind kind) k) tt)) c x y
    ∙ numbers-row kind c x y k i

pub inverse_answered : (kind : ℕ) (c x y : Float) → is_kind kind ≡ true → (finite c && finite x && finite y) ≡ true →
    Passes (bad_central c) →
    inverse_of kind c x y
    ≡ on_given written_position
    (inverse_numbers kind (to_z w32 (of_z w32 (held (centiseconds c)))) (to_z w32 (of_z w32 (held (units x))))
    (to_z w32 (of_z w32 (held (units y)))))
inverse_answered kind c x y k h i =
    rw (handed_on N c (lit≤ tt) (central_passes c i), held_back (units x) refl, held_back (units y) refl)
    (sym
    (ap (on_given written_position)
    (inverse_held kind (centiseconds c) (units x) (units y) (ap not k) (read_within 180 per_degree c i))
    ∙ inverse_numbers_lem kind c x y (ap not k) (all_finite c x y h) i))

-- what finds the answers of both calls
pub ruleset answers = (outside_180, outside_90, forward_answered, inverse_answered, to_z-of_z)
