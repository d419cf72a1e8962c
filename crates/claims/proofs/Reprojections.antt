-- What becomes of a record when it is reprojected, from demand 3's laws of the row that it had and of the one that it has.
use mathlib.Core.Bool.{Bool, true, false, not, cond, ◌&&◌, ◌||◌, and-eq-true_iff}
use mathlib.Core.List.{List, [], ◌∷◌}
use mathlib.Core.Logic.{◌⊎◌, inl, inr}
use mathlib.Core.Path.{◌≡◌, refl, sym, ap, ◌∙◌}
use Prim.Native.Nat.{ℕ, ◌<◌}
use native.Mathlib.Omega.{arith}
use borrow.Author.Tests.{eq-eqb, eqb-true, lt-ltb, le-ltb}
use lib.Dec.{T, eqb}
use lib.IntN.{ℤ, nat_abs}
use lib.ListN.{length, take}
use lib.Seq.{take-take}
use Rattle.whole.specs.Nearest.{nearest, carry}
use Rattle.whole.specs.Signed.{split_of}
use Rattle.angle.specs.Angle.{N, H}
use Rattle.parallel.specs.Table.{rows, row_of}
use Rattle.parallel.specs.Parallel.{height}
use Rattle.parallel.specs.Latitude.{width_at}
use Rattle.refusal.specs.Outcome.{Rule, Outcome, refused, given, unless}
use Rattle.parallel.specs.Refusal.{is_kind, past_north, past_south}
use Rattle.parallel.proofs.Orders.{sides, refused_sides}
use Rattle.projection.specs.Forward.{place_of}
use Rattle.projection.specs.Inverse.{position_of}
use Rattle.projection.specs.Refusal.{bad_central}
use Rattle.projection.specs.Answer.{row_order, forward_of, inverse_of}
use Rattle.record.specs.Record.{size, place, has_mark, holds_place, kind_in, form_in, central_in, first_in, second_in}
use Rattle.record.specs.Answer.{convert_of}
use Rattle.record.proofs.Orders.{at_numbers, judged_place, converted, mark_bytes}
use Rattle.record.proofs.Stored.{byte_same}
use Rattle.reprojection.specs.Retired.{retired, is_retired, retired_row, back_order, back_under}
use Rattle.reprojection.specs.Inside.{Formerly}
use Rattle.reprojection.specs.Reprojected.{is_taken, position_in, place_in, with_place, reprojected}
use Rattle.reprojection.proofs.Places.{stays, taken, taken_size, formerly_3, formerly_4, back_is, sent_on, reprojected_long}
use Rattle.reprojection.proofs.Kept.{central_same, front_kept, x_read, y_read}
use Rattle.claims.specs.Demand3.{numbers, Returns}
use Rattle.claims.specs.Reprojection.{StoredPlace, old_row, Accepted, position, OtherPlace, Moved}
use Rattle.claims.proofs.Refusals.{unless_none}
use Rattle.claims.proofs.Accepted as accepted
use Rattle.claims.proofs.Returning.{forward_back}
use Rattle.claims.proofs.Resending.{back_forward}
use Rattle.claims.proofs.Small.{place_small}
use Rattle.claims.proofs.Records.{in_32}

-- ---- which records are taken

either : (kind : ℕ) → is_retired kind ≡ true → (kind ≡ 3) ⊎ (kind ≡ 4)
either kind e = go (eqb kind 3) refl e
  where
    go : (b : Bool) → eqb kind 3 ≡ b → (b || eqb kind 4) ≡ true → (kind ≡ 3) ⊎ (kind ≡ 4)
    go true h k = inl (eqb-true kind 3 h)
    go false h k = inr (eqb-true kind 4 k)

retired_kind : (kind : ℕ) → (kind ≡ 3) ⊎ (kind ≡ 4) → is_retired kind ≡ true
retired_kind kind (inl e) = rw (eq-eqb kind 3 e)
retired_kind kind (inr e) = rw e

taken_is : (s : List ℕ) → is_taken s ≡ true → StoredPlace s
taken_is s e =
    let t = (and-eq-true_iff (holds_place s) (is_retired (kind_in s))).0 e in
    let p = (and-eq-true_iff (eqb (length s) size && has_mark s) (eqb (form_in s) place)).0 t.0 in
    let m = mark_bytes s ((and-eq-true_iff (eqb (length s) size) (has_mark s)).0 p.0).1 in
    record {
      length_is = taken_size s e;
      mark_0 = m.0;
      mark_1 = m.1;
      kind_is = either (kind_in s) t.1;
      form_is = eqb-true (form_in s) place p.1;
    }

marked : (s : List ℕ) → StoredPlace s → has_mark s ≡ true
marked s p = rw (p.mark_0, p.mark_1)

is_taken_lem : (s : List ℕ) → StoredPlace s → is_taken s ≡ true
is_taken_lem s p =
    rw (p.length_is, marked s p, p.form_is, retired_kind (kind_in s) p.kind_is)

-- ---- what every record keeps

pub kept : (s : List ℕ) → OtherPlace s (reprojected s)
kept s =
    let r : List ℕ = reprojected s in
    let e = front_kept s in
    record {
      length_same = reprojected_long s;
      first_8_same = e;
      mark_same = sym (take-take 2 8 r (omega arith)) ∙ ap (take 2) e ∙ take-take 2 8 s (omega arith);
      kind_same = byte_same 8 s r e 2 (omega arith);
      form_same = byte_same 8 s r e 3 (omega arith);
      central_same = central_same s r (reprojected_long s) e;
    }

-- ---- those that stay

pub others : (s : List ℕ) → (StoredPlace s → ⊥) → reprojected s ≡ s
others s h = go (is_taken s) refl
  where
    go : (b : Bool) → is_taken s ≡ b → reprojected s ≡ s
    go true e = absurd (h (taken_is s e))
    go false e = sym (stays s e)

-- a place that the old row refuses
abbrev Refuses : {A : Type 0} → Outcome A → Type 0
Refuses o = (n : ℕ) × (o ≡ refused n)

refused_stays : (s : List ℕ) → (StoredPlace s → Refuses (position_in s)) → reprojected s ≡ s
unfolding place_in
refused_stays s h = go (is_taken s) refl
  where
    go : (b : Bool) → is_taken s ≡ b → reprojected s ≡ s
    go true e = sym (taken s e) ∙ rw (h (taken_is s e)).1
    go false e = sym (stays s e)

pole_y : (kind : ℕ) → (kind ≡ 3) ⊎ (kind ≡ 4) → height (retired_row kind) H ≡ 148825098
unfolding retired_row retired height nearest carry
pole_y kind (inl e) = rw e
pole_y kind (inr e) = rw e

-- an order refuses where a later part of it does, and where it begins with the sides of a limit that is passed
later : {A : Type 0} (r : Rule) (rs : List Rule) (a : A) → Refuses (unless rs a) → Refuses (unless (r ∷ rs) a)
unfolding unless
later r rs a h = go r.applies
  where
    go : (b : Bool) → Refuses (cond b (refused r.number) (unless rs a))
    go true = (r.number, refl)
    go false = h

past : {A : Type 0} (plus minus n : ℕ) (z : ℤ) (rest : List Rule) (a : A) → n < nat_abs z → Refuses (unless (sides plus minus n z rest) a)
past plus minus n z rest a h =
    (cond (split_of z).negative minus plus, refused_sides plus minus n z rest a (lt-ltb n (nat_abs z) h))

module _ (s : List ℕ) where
  abbrev on_sides : List Rule
  on_sides = sides 7 17 (width_at (old_row s) (second_in s)) (first_in s) []

  pub by_3 : 64800000 < nat_abs (central_in s) → reprojected s ≡ s
  unfolding position_in back_under unless
  by_3 h = refused_stays s (λ p. (3, rw (lt-ltb N (nat_abs (central_in s)) h)))

  pub by_6 : 148825098 < nat_abs (second_in s) → reprojected s ≡ s
  unfolding position_in back_under
  by_6 h =
      refused_stays s (λ p.
      later (bad_central (central_in s)) (row_order (old_row s) (first_in s) (second_in s)) (position s)
      (past 6 18 (height (old_row s) H) (second_in s) on_sides (position s) (rw (pole_y (kind_in s) p.kind_is) h)))

  pub by_7 : width_at (old_row s) (second_in s) < nat_abs (first_in s) → reprojected s ≡ s
  unfolding position_in back_under
  by_7 h =
      let r = old_row s in
      let y = second_in s in
      refused_stays s (λ p.
      later (bad_central (central_in s)) (past_north r y ∷ past_south r y ∷ on_sides) (position s)
      (later (past_north r y) (past_south r y ∷ on_sides) (position s)
      (later (past_south r y) on_sides (position s) (past 7 17 (width_at r y) (first_in s) [] (position s) h))))

-- ---- those that move

-- the kind that has the old row
pub formerly : (kind : ℕ) → (kind ≡ 3) ⊎ (kind ≡ 4) → (other : ℕ) × Formerly kind other
formerly kind (inl e) = (4, rw e formerly_3)
formerly kind (inr e) = (3, rw e formerly_4)

pub kind_good : (kind : ℕ) → (kind ≡ 3) ⊎ (kind ≡ 4) → T (is_kind kind)
unfolding is_kind rows
kind_good kind (inl e) = rw e tt
kind_good kind (inr e) = rw e tt

module _ (s : List ℕ) (p : StoredPlace s) (l f : ℤ) (back : position_in s ≡ given (l, f)) where
  abbrev c : ℤ
  c = central_in s

  abbrev r : List ℕ
  r = reprojected s

  -- the position is accepted under the old row, and so under the new one
  there : accepted.Position (kind_in s) c l f
  unfolding position_in
  there =
      let o = formerly (kind_in s) p.kind_is in
      let b = back_forward o.0 c (first_in s) (second_in s) l f (back_is o.1 c (first_in s) (second_in s) ∙ back) in
      let a = (accepted.position o.0 c l f (b.x', b.y') b.accepted).0 in
      record { kind_good = kind_good (kind_in s) p.kind_is; c_le = a.c_le; l_le = a.l_le; f_le = a.f_le }

  abbrev x : ℤ
  x = (place_of (row_of (kind_in s)) c l f).0

  abbrev y : ℤ
  y = (place_of (row_of (kind_in s)) c l f).1

  forward_is : forward_of (kind_in s) c l f ≡ given (x, y)
  unfolding place_of
  forward_is = accepted.accepts (kind_in s) c l f there

  record_is : r ≡ with_place s (given (x, y))
  record_is =
      sym (taken s (is_taken_lem s p)) ∙ ap (with_place s) (sym (sent_on s l f (sym back)) ∙ forward_is)

  first_is : first_in r ≡ x
  first_is = let m = place_small (kind_in s) c l f x y forward_is in
      ap first_in record_is ∙ x_read s x y p.length_is (in_32 x (omega (arith, m.0)))

  second_is : second_in r ≡ y
  second_is = let m = place_small (kind_in s) c l f x y forward_is in
      ap second_in record_is ∙ y_read s x y p.length_is (in_32 y (omega (arith, m.1)))

  forward_place : forward_of (kind_in s) c l f ≡ given (first_in r, second_in r)
  forward_place = forward_is ∙ rw (first_is, second_is)

  returns : Returns numbers (kind_in s) c l f (first_in r) (second_in r)
  returns = forward_back (kind_in s) c l f (first_in r) (second_in r) forward_place

  -- the record is judged as a place, by the numbers that it holds
  mark_same : has_mark r ≡ true
  mark_same = rw (byte_same 8 s r (front_kept s) 0 (omega arith), byte_same 8 s r (front_kept s) 1 (omega arith)) (marked s p)

  r_long : length r ≡ 16
  r_long = reprojected_long s ∙ p.length_is

  accepted_is : convert_of r 16 ≡ given (returns.longitude, returns.latitude)
  accepted_is =
      sym (converted r 16 (rw r_long))
      ∙ sym (judged_place r (ap not mark_same) ((kept s).form_same ∙ p.form_is))
      ∙ at_numbers inverse_of (kept s).kind_same (kept s).central_same refl refl
      ∙ returns.accepted

  pub moved : Moved s r l f
  moved = record { forward = forward_place; returns = returns; accepted = accepted_is }

pub moves : (s : List ℕ) → StoredPlace s → Accepted s → Moved s (reprojected s) (position s).0 (position s).1
unfolding position_in back_under position_of
moves s p a =
    moved s p (position s).0 (position s).1
    (unless_none (back_order (old_row s) (central_in s) (first_in s) (second_in s)) (position s) (
      le-ltb N (nat_abs (central_in s)) a.central_le,
      accepted.row_none (old_row s) (first_in s) (second_in s) (rw (pole_y (kind_in s) p.kind_is) a.y_le) a.x_le,
    ))
