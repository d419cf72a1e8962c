-- Floats answer as the numbers read from them do, and what they answer reads back as itself.
use mathlib.Core.Bool.{true, false}
use mathlib.Core.Logic.{inl, inr, ◌↔◌}
use mathlib.Core.Path.{◌≡◌, sym, ap, subst, ◌∙◌}
use Prim.Native.Nat.{ℕ, ◌*◌, ◌≤◌}
use native.Mathlib.Omega.{arith}
use borrow.Author.Tests.{not-false}
use lib.IntN.{ℤ, neg_ℤ, nat_abs}
use lib.Ieee.{Float}
use lib.Ieee.Scale.{finite}
use Rattle.angle.specs.Angle.{per_degree}
use Rattle.parallel.specs.Table.{row_of}
use Rattle.refusal.specs.Outcome.{refused, given, on_given}
use Rattle.parallel.specs.Refusal.{is_kind}
use Rattle.projection.specs.Forward.{place_of}
use Rattle.projection.specs.Inverse.{position_of}
use Rattle.projection.specs.Answer.{forward_of, inverse_of}
use Rattle.reading.specs.Reading.{read_of, centiseconds, units, outside}
use Rattle.reading.proofs.Turned.{finite_neg, outside_neg, read_neg, read_zero}
use Rattle.reading.proofs.Rounded.{Stands}
use Rattle.reading.proofs.Floats.{read_within}
use Rattle.degrees.specs.Writing.{degrees_of, units_of}
use Rattle.degrees.specs.Answer.{written_place, written_position, forward_order, inverse_order, forward_of as forward_degrees, inverse_of as inverse_degrees}
use Rattle.degrees.proofs.Written.{degrees_stand, units_stand}
use Rattle.degrees.proofs.Numbers.{forward_numbers_lem, inverse_numbers_lem}
use Rattle.claims.specs.Demand3.{TurnedFloat, floats}
use Rattle.claims.proofs.Refusals.{unless_given, same_refusals}
use Rattle.claims.proofs.Accepted.{kind_false, Position, position, accepts, row_sizes, Place, place, admits}
use Rattle.claims.proofs.Small.{place_small, position_small}
use Rattle.claims.proofs.Calls.{Given, Accepts, Sent, SentBack, ByNumbers}

-- a float turned
pub turned_read : (k : ℕ) (x t : Float) → TurnedFloat x t → read_of k t ≡ neg_ℤ (read_of k x)
turned_read k x t (inl e) = ap (read_of k) e ∙ read_neg k x
turned_read k x t (inr e) = let z = read_zero k x e.1 in rw (e.0, z)

pub turned_finite : (x t : Float) → TurnedFloat x t → finite t ≡ finite x
turned_finite x t (inl e) = ap finite e ∙ finite_neg x
turned_finite x t (inr e) = ap finite e.0

pub turned_outside : (n : ℕ) (x t : Float) → TurnedFloat x t → outside n t ≡ outside n x
turned_outside n x t (inl e) = ap (outside n) e ∙ outside_neg n x
turned_outside n x t (inr e) = ap (outside n) e.0

refused_x : (kind : ℕ) (c c' l l' f : Float) → TurnedFloat c c' → TurnedFloat l l' → (n : ℕ) →
    (forward_degrees kind c l f ≡ refused n) ↔ (forward_degrees kind c' l' f ≡ refused n)
unfolding forward_degrees
refused_x kind c c' l l' f h k n =
    rw (turned_finite c c' h, turned_finite l l' k, turned_outside 180 c c' h, turned_outside 180 l l' k)
    (same_refusals (forward_order kind c l f) (written_place (place_of (row_of kind) (centiseconds c) (centiseconds l) (centiseconds f)))
    (written_place (place_of (row_of kind) (centiseconds c') (centiseconds l') (centiseconds f))) n)

refused_y : (kind : ℕ) (c l f f' : Float) → TurnedFloat f f' → (n : ℕ) →
    (forward_degrees kind c l f ≡ refused n) ↔ (forward_degrees kind c l f' ≡ refused n)
unfolding forward_degrees
refused_y kind c l f f' h n =
    rw (turned_finite f f' h, turned_outside 90 f f' h)
    (same_refusals (forward_order kind c l f) (written_place (place_of (row_of kind) (centiseconds c) (centiseconds l) (centiseconds f)))
    (written_place (place_of (row_of kind) (centiseconds c) (centiseconds l) (centiseconds f'))) n)

-- what floats themselves accept: a number within a limit, or any number
abbrev Within : ℕ → Float → Type 0
Within n x = (finite x ≡ true) × (outside n x ≡ false)

abbrev accepted : Accepts floats
accepted = record { Meridian = Within 180; Latitude = Within 90; Place = λ (x : Float). finite x ≡ true }

-- the numbers of a place or a position, written
written_place_lem : (kind : ℕ) (c l f x y : ℤ) → forward_of kind c l f ≡ given (x, y) → Stands 1 x (units_of x) × Stands 1 y (units_of y)
written_place_lem kind c l f x y e =
    let s = place_small kind c l f x y e in (units_stand x (omega (arith, s.0)), units_stand y (omega (arith, s.1)))

written_angle : (n : ℕ) (z : ℤ) → nat_abs z ≤ n * per_degree → n ≤ 180 → Within n (degrees_of z) × (centiseconds (degrees_of z) ≡ z)
written_angle n z h l = let s = degrees_stand z (omega arith) in ((s.is_finite, s.stays n h), s.reads)

sent : (kind : ℕ) (c l f x y : Float) → forward_degrees kind c l f ≡ given (x, y) → Sent floats accepted kind c l f x y
unfolding forward_degrees
sent kind c l f x y e =
    let p = place_of (row_of kind) (centiseconds c) (centiseconds l) (centiseconds f) in
    let g = unless_given (forward_order kind c l f) (written_place p) (x, y) e in
    let n = g.0.1 in
    let t = n.1.1.1 in
    let q : Position kind (centiseconds c) (centiseconds l) (centiseconds f) =
    record {
      kind_good = rw (not-false (is_kind kind) g.0.0) tt;
      c_le = read_within 180 per_degree c t.0;
      l_le = read_within 180 per_degree l t.1.0;
      f_le = read_within 90 per_degree f t.1.1.0;
    } in
    let a = accepts kind (centiseconds c) (centiseconds l) (centiseconds f) q in
    let w = written_place_lem kind (centiseconds c) (centiseconds l) (centiseconds f) p.0 p.1 a in
    subst (λ (v : Float × Float). Sent floats accepted kind c l f v.0 v.1) (sym g.1)
    (record {
      central = (not-false (finite c) n.0, t.0);
      longitude = (not-false (finite l) n.1.0, t.1.0);
      latitude = (not-false (finite f) n.1.1.0, t.1.1.0);
      x_in = w.0.is_finite;
      y_in = w.1.is_finite;
      on_numbers = rw (w.0.reads, w.1.reads) a;
    })

sent_back : (kind : ℕ) (c x y l f : Float) → inverse_degrees kind c x y ≡ given (l, f) → SentBack floats accepted kind c x y l f
unfolding inverse_degrees
sent_back kind c x y l f e =
    let r = row_of kind in
    let p = position_of r (centiseconds c) (units x) (units y) in
    let g = unless_given (inverse_order kind c x y) (written_position p) (l, f) e in
    let n = g.0.1 in
    let t = n.1.1.1 in
    let z = row_sizes r (units x) (units y) t.1 in
    let q : Place kind (centiseconds c) (units x) (units y) =
    record {
      kind_good = rw (not-false (is_kind kind) g.0.0) tt;
      c_le = read_within 180 per_degree c t.0;
      y_le = z.0;
      x_le = z.1;
    } in
    let a = admits kind (centiseconds c) (units x) (units y) q in
    let s = position_small kind (centiseconds c) (units x) (units y) p.0 p.1 a in
    let wl = written_angle 180 p.0 s.0 (omega arith) in
    let wf = written_angle 90 p.1 s.1 (omega arith) in
    subst (λ (v : Float × Float). SentBack floats accepted kind c x y v.0 v.1) (sym g.1)
    (record {
      central = (not-false (finite c) n.0, t.0);
      longitude = wl.0;
      latitude = wf.0;
      on_numbers = rw (wl.1, wf.1) a;
    })

takes : (kind : ℕ) (c l f : Float) (p : ℤ × ℤ) → accepted.Meridian c → accepted.Meridian l → accepted.Latitude f →
    forward_of kind (centiseconds c) (centiseconds l) (centiseconds f) ≡ given p → Given units (forward_degrees kind c l f) p
takes kind c l f p hc hl hf e =
    let k = (position kind (centiseconds c) (centiseconds l) (centiseconds f) p e).0.kind_good in
    let w = written_place_lem kind (centiseconds c) (centiseconds l) (centiseconds f) p.0 p.1 e in
    record {
      first = units_of p.0;
      second = units_of p.1;
      answer =
          sym
          (forward_numbers_lem kind c l f (kind_false (is_kind kind) k) (record { first = hc.0; second = hl.0; third = hf.0 }) hc.1
          hl.1 hf.1)
          ∙ ap (on_given written_place) e;
      first_is = w.0.reads;
      second_is = w.1.reads;
    }

takes_back : (kind : ℕ) (c x y : Float) (p : ℤ × ℤ) → accepted.Meridian c → accepted.Place x → accepted.Place y →
    inverse_of kind (centiseconds c) (units x) (units y) ≡ given p → Given centiseconds (inverse_degrees kind c x y) p
takes_back kind c x y p hc hx hy e =
    let k = (place kind (centiseconds c) (units x) (units y) p e).0.kind_good in
    let s = position_small kind (centiseconds c) (units x) (units y) p.0 p.1 e in
    record {
      first = degrees_of p.0;
      second = degrees_of p.1;
      answer =
          sym (inverse_numbers_lem kind c x y (kind_false (is_kind kind) k) (record { first = hc.0; second = hx; third = hy }) hc.1)
          ∙ ap (on_given written_position) e;
      first_is = (written_angle 180 p.0 s.0 (omega arith)).1;
      second_is = (written_angle 90 p.1 s.1 (omega arith)).1;
    }

pub floats_by_numbers : ByNumbers floats
floats_by_numbers =
    record {
      accepts = accepted;
      turned = turned_read per_degree;
      refused_x = refused_x;
      refused_y = refused_y;
      sent = sent;
      sent_back = sent_back;
      takes = takes;
      takes_back = takes_back;
      meridian = λ z h. let w = written_angle 180 z h (omega arith) in (degrees_of z, w.0, w.1);
    }
