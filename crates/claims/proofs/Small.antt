-- Numbers that are answered are small.
use Prim.Native.Nat.{ℕ, ◌*◌, ◌≤◌, ◌<◌}
use mathlib.Core.Path.{◌≡◌}
use native.Mathlib.Omega.{arith}
use lib.IntN.{ℤ, nat_abs}
use Rattle.angle.specs.Angle.{N, H}
use Rattle.parallel.specs.Table.{row_of}
use Rattle.refusal.specs.Outcome.{given}
use Rattle.parallel.proofs.Rows.{columns}
use Rattle.parallel.proofs.Heights.{pole_small, found_small}
use Rattle.projection.specs.Answer.{forward_of, inverse_of}
use Rattle.claims.proofs.Accepted.{position, place}
use Rattle.claims.proofs.Returning.{forward_back}
use Rattle.claims.proofs.Resending.{back_forward}

pub place_small : (kind : ℕ) (c l f x y : ℤ) → forward_of kind c l f ≡ given (x, y) → (nat_abs x < 5 * N) × (nat_abs y < 5 * N)
place_small kind c l f x y e =
    let r = forward_back kind c l f x y e in
    let p = (place kind c x y (r.longitude, r.latitude) r.accepted).0 in
    let r = row_of kind in
    let k = columns kind p.kind_good in
    (omega (arith, found_small r k y p.y_le), omega (arith, pole_small r k))

pub position_small : (kind : ℕ) (c x y l f : ℤ) → inverse_of kind c x y ≡ given (l, f) → (nat_abs l ≤ N) × (nat_abs f ≤ H)
position_small kind c x y l f e =
    let r = back_forward kind c x y l f e in
    let p = (position kind c l f (r.x', r.y') r.accepted).0 in
    (p.l_le, p.f_le)
