-- What forward and inverse accept, by the ranges of document 01.
use mathlib.Core.Bool.{Bool, true, false, not}
use mathlib.Core.Path.{◌≡◌, refl}
use Prim.Native.Nat.{ℕ, ◌≤◌}
use borrow.Author.Tests.{ltb-false, le-ltb}
use lib.Dec.{T}
use lib.IntN.{ℤ, nat_abs}
use Rattle.angle.specs.Angle.{N, H}
use borrow.Author.Tests.{not-false}
use Rattle.angle.proofs.Sides.{not_above, not_below, between}
use Rattle.parallel.specs.declared.table.Row.{Row}
use Rattle.parallel.specs.Table.{row_of}
use Rattle.parallel.specs.Parallel.{height}
use Rattle.parallel.specs.Latitude.{width_at}
use Rattle.refusal.specs.Outcome.{given}
use Rattle.parallel.specs.Refusal.{is_kind}
use Rattle.projection.specs.Forward.{place_of}
use Rattle.projection.specs.Inverse.{position_of}
use Rattle.projection.specs.Answer.{forward_order, row_order, inverse_order, forward_of, inverse_of}
use Rattle.claims.specs.Demand1.{None}
use Rattle.claims.proofs.Refusals.{unless_none, unless_given}

pub kind_false : (b : Bool) → T b → not b ≡ false
kind_false true t = refl
kind_false false t = absurd t

-- a position that forward accepts
pub record Position (kind : ℕ) (c l f : ℤ) : Type 0 where
  pub kind_good : T (is_kind kind)
  pub c_le : nat_abs c ≤ N
  pub l_le : nat_abs l ≤ N
  pub f_le : nat_abs f ≤ H

pub position : (kind : ℕ) (c l f : ℤ) (p : ℤ × ℤ) → forward_of kind c l f ≡ given p →
    Position kind c l f × (p ≡ place_of (row_of kind) c l f)
unfolding forward_of
position kind c l f p e =
    let g = unless_given (forward_order kind c l f) (place_of (row_of kind) c l f) p e in
    let n = g.0 in (
      record {
        kind_good = rw (not-false (is_kind kind) n.0) tt;
        c_le = ltb-false N (nat_abs c) n.1.0;
        l_le = ltb-false N (nat_abs l) n.1.1.0;
        f_le = ltb-false H (nat_abs f) n.1.1.1.0;
      },
      g.1,
    )

pub accepts : (kind : ℕ) (c l f : ℤ) → Position kind c l f → forward_of kind c l f ≡ given (place_of (row_of kind) c l f)
unfolding forward_of
accepts kind c l f p =
    unless_none (forward_order kind c l f) (place_of (row_of kind) c l f) (
      kind_false (is_kind kind) p.kind_good,
      (le-ltb N (nat_abs c) p.c_le, (le-ltb N (nat_abs l) p.l_le, (le-ltb H (nat_abs f) p.f_le, tt))),
    )

-- a place is past no edge of its row exactly when its sizes are within them
pub row_sizes : (r : Row) (x y : ℤ) → None (row_order r x y) → (nat_abs y ≤ height r H) × (nat_abs x ≤ width_at r y)
row_sizes r x y n = (between (height r H) y n.0 n.1.0, between (width_at r y) x n.1.1.0 n.1.1.1.0)

pub row_none : (r : Row) (x y : ℤ) → nat_abs y ≤ height r H → nat_abs x ≤ width_at r y → None (row_order r x y)
row_none r x y h k =
    let n = height r H in
    let w = width_at r y in
    (not_above n y h, (not_below n y h, (not_above w x k, (not_below w x k, tt))))

-- a place that inverse accepts
pub record Place (kind : ℕ) (c x y : ℤ) : Type 0 where
  pub kind_good : T (is_kind kind)
  pub c_le : nat_abs c ≤ N
  pub y_le : nat_abs y ≤ height (row_of kind) H
  pub x_le : nat_abs x ≤ width_at (row_of kind) y

pub place : (kind : ℕ) (c x y : ℤ) (p : ℤ × ℤ) → inverse_of kind c x y ≡ given p →
    Place kind c x y × (p ≡ position_of (row_of kind) c x y)
unfolding inverse_of
place kind c x y p e =
    let r = row_of kind in
    let g = unless_given (inverse_order kind c x y) (position_of r c x y) p e in
    let n = g.0 in
    let s = row_sizes r x y n.1.1 in (
      record { kind_good = rw (not-false (is_kind kind) n.0) tt; c_le = ltb-false N (nat_abs c) n.1.0; y_le = s.0; x_le = s.1 },
      g.1,
    )

pub admits : (kind : ℕ) (c x y : ℤ) → Place kind c x y → inverse_of kind c x y ≡ given (position_of (row_of kind) c x y)
unfolding inverse_of
admits kind c x y p =
    let r = row_of kind in
    unless_none (inverse_order kind c x y) (position_of r c x y) (
      kind_false (is_kind kind) p.kind_good,
      (le-ltb N (nat_abs c) p.c_le, row_none r x y p.y_le p.x_le),
    )
