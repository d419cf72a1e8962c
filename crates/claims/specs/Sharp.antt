-- Either side of the lines that demand 3 draws; and its exceptions, as worked cases.
use Rattle.std.specs.Prelude.{◌≢◌, ◌≡◌, ℕ, ℤ, pos, nat_abs, ◌+ℤ◌}
use Rattle.parallel.specs.Table.{neg}
use Rattle.refusal.specs.Outcome.{given}
use Rattle.parallel.specs.Answer.{width_of}
use Rattle.projection.specs.Answer.{forward_of, inverse_of}
use Rattle.claims.specs.Demand3.{numbers, OneMeridian, SameAt, Close, SamePosition, ClosePlace}

-- a position, the place that forward answers, and the position that inverse answers to that
pub record ForwardBack (kind : ℕ) (central : ℤ) (position place again : ℤ × ℤ) : Type 0 where
  pub forward : forward_of kind central position.0 position.1 ≡ given place
  pub back : inverse_of kind central place.0 place.1 ≡ given again

-- a place, the position that inverse answers, and the place that forward answers to that
pub record BackForward (kind : ℕ) (central : ℤ) (place position again : ℤ × ℤ) : Type 0 where
  pub back : inverse_of kind central place.0 place.1 ≡ given position
  pub forward : forward_of kind central position.0 position.1 ≡ given again

pub record Sharp : Type 0 where
  -- numbers 2 apart are close, and those 3 apart are not
  pub close : (z : ℤ) → Close (z +ℤ pos 2) z × Close z (z +ℤ pos 2)
  pub not_close : (z : ℤ) → (Close (z +ℤ pos 3) z → ⊥) × (Close z (z +ℤ pos 3) → ⊥)
  -- a longitude is one meridian with itself, 180 west and 180 east are one, and no other two are
  pub one_self : (l : ℤ) → OneMeridian l l
  pub one : OneMeridian (neg 64800000) (pos 64800000) × OneMeridian (pos 64800000) (neg 64800000)
  pub one_only : (l m : ℤ) → nat_abs l ≢ 64800000 → OneMeridian l m → l ≡ m
  pub not_one : (OneMeridian (pos 64800000) (pos 0) → ⊥) × (OneMeridian (pos 0) (pos 64800000) → ⊥)
  -- the same longitude are those two alone, and not with a central meridian of 0
  pub same : SameAt (pos 3600000) (neg 64800000) (pos 64800000)
  pub same_only : (c m l : ℤ) → nat_abs m ≢ 64800000 → SameAt c m l → m ≡ l
  pub same_at_0 : (m l : ℤ) → SameAt (pos 0) m l → m ≡ l
  pub not_same : (SameAt (pos 3600000) (pos 64800000) (pos 0) → ⊥) × (SameAt (pos 3600000) (pos 0) (pos 64800000) → ⊥)
  -- on a parallel of half-width 64800001 another longitude is another position, and even at the pole another latitude is
  pub wide : width_of 7 (pos 27899493) ≡ given 64800001
  pub longitude_held : SamePosition numbers 7 (pos 0) (pos 1) (pos 27899493) (pos 2) (pos 27899493) → ⊥
  pub latitude_held : SamePosition numbers 7 (pos 0) (pos 1) (pos 32400000) (pos 1) (pos 32399999) → ⊥
  -- one step farther north, on a parallel narrower than 64800000, a longitude comes back as the next one
  pub narrow : width_of 7 (pos 27899494) ≡ given 64799988
  pub narrow_moves : ForwardBack 7 (pos 0) (pos 2700000, pos 27899494) (pos 2700000, pos 107922315) (pos 2700001, pos 27899494)
  -- at a pole that is a point, 180 east comes back as the central meridian
  pub pole_moves : ForwardBack 7 (pos 0) (pos 64800000, pos 32400000) (pos 0, pos 125331414) (pos 0, pos 32400000)
  -- with a central meridian that is not 0, 180 west may come back as 180 east, and 180 east as 180 west
  pub west_as_east : ForwardBack 1 (pos 3600000) (neg 64800000, pos 0) (pos 296705972, pos 0) (pos 64800000, pos 0)
  pub east_as_west : ForwardBack 1 (neg 3600000) (pos 64800000, pos 0) (neg 296705972, pos 0) (neg 64800000, pos 0)
  -- a place may move by all of 2 units, on both axes
  pub moves_2 : BackForward 1 (pos 0) (pos 2, pos 2) (pos 0, pos 0) (pos 0, pos 0)
  pub moves_2_below : BackForward 1 (pos 0) (neg 2, neg 2) (pos 0, pos 0) (pos 0, pos 0)
  -- 180 degrees east of a central meridian that is not 0, a place comes back on the map's other edge
  pub other_edge : BackForward 1 (pos 3600000) (pos 314159265, pos 0) (neg 61200000, pos 0) (neg 314159265, pos 0)
  -- no other x may move by more than 2, neither with a difference of 64799999 nor with a central meridian of 0; and no y may
  pub x_held : ClosePlace numbers 1 (pos 3600000) (pos 314159262) (pos 0) (pos 314159265) (pos 0) → ⊥
  pub x_held_at_0 : ClosePlace numbers 1 (pos 0) (pos 314159265) (pos 0) (neg 314159265) (pos 0) → ⊥
  pub y_held : ClosePlace numbers 1 (pos 3600000) (pos 314159265) (pos 3) (pos 314159265) (pos 0) → ⊥
