-- Calls whose answers are those of numbers at the numbers read, and whose answers read back as themselves, have demand 3.
use mathlib.Core.Logic.{◌↔◌}
use mathlib.Core.Path.{◌≡◌, sym, subst, ◌∙◌}
use Prim.Native.Nat.{ℕ, ◌≤◌}
use lib.IntN.{ℤ, neg_ℤ, nat_abs}
use Rattle.angle.specs.Angle.{N}
use Rattle.refusal.specs.Outcome.{Outcome, refused, given}
use Rattle.projection.specs.Answer.{forward_of, inverse_of}
use Rattle.claims.specs.Demand3.{Calls, numbers, SameAt, Alike, TurnedX, TurnedY, Returns, Shares, Resends, Demand3}
use Rattle.claims.proofs.Accepted.{position}

-- an outcome gives two things that stand for two numbers
pub record Given {A : Type 0} (read : A → ℤ) (o : Outcome (A × A)) (p : ℤ × ℤ) : Type 0 where
  pub first : A
  pub second : A
  pub answer : o ≡ given (first, second)
  pub first_is : read first ≡ p.0
  pub second_is : read second ≡ p.1

module _ (w : Calls) where
  -- what the calls themselves accept: as a meridian, as a latitude, as a coordinate
  pub record Accepts : Type 1 where
    pub Meridian : w.Angle → Type 0
    pub Latitude : w.Angle → Type 0
    pub Place : w.Coordinate → Type 0

  -- a call that is answered takes what the calls accept, gives what they accept, and is answered on numbers too
  pub record Sent (a : Accepts) (kind : ℕ) (c l f : w.Angle) (x y : w.Coordinate) : Type 0 where
    pub central : a.Meridian c
    pub longitude : a.Meridian l
    pub latitude : a.Latitude f
    pub x_in : a.Place x
    pub y_in : a.Place y
    pub on_numbers : forward_of kind (w.centiseconds c) (w.centiseconds l) (w.centiseconds f) ≡ given (w.units x, w.units y)

  pub record SentBack (a : Accepts) (kind : ℕ) (c : w.Angle) (x y : w.Coordinate) (l f : w.Angle) : Type 0 where
    pub central : a.Meridian c
    pub longitude : a.Meridian l
    pub latitude : a.Latitude f
    pub on_numbers : inverse_of kind (w.centiseconds c) (w.units x) (w.units y) ≡ given (w.centiseconds l, w.centiseconds f)

  pub record ByNumbers : Type 1 where
    pub accepts : Accepts
    pub turned : (z t : w.Angle) → w.Turned z t → w.centiseconds t ≡ neg_ℤ (w.centiseconds z)
    -- a turned position is refused as it was
    pub refused_x : (kind : ℕ) (c c' l l' f : w.Angle) → w.Turned c c' → w.Turned l l' → (n : ℕ) →
        (w.forward kind c l f ≡ refused n) ↔ (w.forward kind c' l' f ≡ refused n)
    pub refused_y : (kind : ℕ) (c l f f' : w.Angle) → w.Turned f f' → (n : ℕ) →
        (w.forward kind c l f ≡ refused n) ↔ (w.forward kind c l f' ≡ refused n)
    -- what is answered, and what is taken
    pub sent : (kind : ℕ) (c l f : w.Angle) (x y : w.Coordinate) → w.forward kind c l f ≡ given (x, y) → Sent accepts kind c l f x y
    pub sent_back : (kind : ℕ) (c : w.Angle) (x y : w.Coordinate) (l f : w.Angle) → w.inverse kind c x y ≡ given (l, f) →
        SentBack accepts kind c x y l f
    pub takes : (kind : ℕ) (c l f : w.Angle) (p : ℤ × ℤ) → accepts.Meridian c → accepts.Meridian l → accepts.Latitude f →
        forward_of kind (w.centiseconds c) (w.centiseconds l) (w.centiseconds f) ≡ given p → Given w.units (w.forward kind c l f) p
    pub takes_back : (kind : ℕ) (c : w.Angle) (x y : w.Coordinate) (p : ℤ × ℤ) → accepts.Meridian c → accepts.Place x →
        accepts.Place y → inverse_of kind (w.centiseconds c) (w.units x) (w.units y) ≡ given p →
        Given w.centiseconds (w.inverse kind c x y) p
    -- every meridian can be handed in
    pub meridian : (z : ℤ) → nat_abs z ≤ N → (a : w.Angle) × accepts.Meridian a × (w.centiseconds a ≡ z)

module _ (d : Demand3 numbers) (w : Calls) (b : ByNumbers w) where
  turning_x : (kind : ℕ) (c c' l l' f : w.Angle) → w.Turned c c' → w.Turned l l' →
      Alike (TurnedX w) (w.forward kind c l f) (w.forward kind c' l' f)
  turning_x kind c c' l l' f h k =
      record {
        refusals = b.refused_x kind c c' l l' f h k;
        answers = λ p q e g.
            (d.turning_x kind (w.centiseconds c) (w.centiseconds c') (w.centiseconds l) (w.centiseconds l') (w.centiseconds f)
            (b.turned c c' h) (b.turned l l' k)
            ).answers (w.units p.0, w.units p.1) (w.units q.0, w.units q.1)
            (b.sent kind c l f p.0 p.1 e).on_numbers (b.sent kind c' l' f q.0 q.1 g).on_numbers;
      }

  turning_y : (kind : ℕ) (c l f f' : w.Angle) → w.Turned f f' → Alike (TurnedY w) (w.forward kind c l f) (w.forward kind c l f')
  turning_y kind c l f f' h =
      record {
        refusals = b.refused_y kind c l f f' h;
        answers = λ p q e g.
            (d.turning_y kind (w.centiseconds c) (w.centiseconds l) (w.centiseconds f) (w.centiseconds f') (b.turned f f' h)
            ).answers (w.units p.0, w.units p.1) (w.units q.0, w.units q.1)
            (b.sent kind c l f p.0 p.1 e).on_numbers (b.sent kind c l f' q.0 q.1 g).on_numbers;
      }

  forward_back : (kind : ℕ) (c l f : w.Angle) (x y : w.Coordinate) → w.forward kind c l f ≡ given (x, y) →
      Returns w kind c l f x y
  forward_back kind c l f x y e =
      let s = b.sent kind c l f x y e in
      let r = d.forward_back kind (w.centiseconds c) (w.centiseconds l) (w.centiseconds f) (w.units x) (w.units y) s.on_numbers in
      let g = b.takes_back kind c x y (r.longitude, r.latitude) s.central s.x_in s.y_in r.accepted in
      record {
        longitude = g.first;
        latitude = g.second;
        accepted = g.answer;
        same =
            record {
              latitude_same = g.second_is ∙ r.same.latitude_same;
              longitude_same = λ h.
                  subst (λ (m : ℤ). SameAt (w.centiseconds c) m (w.centiseconds l)) (sym g.first_is) (r.same.longitude_same h);
            };
      }

  back_forward : (kind : ℕ) (c : w.Angle) (x y : w.Coordinate) (l f : w.Angle) → w.inverse kind c x y ≡ given (l, f) →
      Resends w kind c x y l f
  back_forward kind c x y l f e =
      let s = b.sent_back kind c x y l f e in
      let r = d.back_forward kind (w.centiseconds c) (w.units x) (w.units y) (w.centiseconds l) (w.centiseconds f) s.on_numbers in
      let g = b.takes kind c l f (r.x', r.y') s.central s.longitude s.latitude r.accepted in
      record {
        x' = g.first;
        y' = g.second;
        accepted = g.answer;
        close = record { y_close = rw g.second_is r.close.y_close; x_close = rw g.first_is r.close.x_close };
      }

  -- one of two meridians that share a place, handed in like this
  shared : (kind : ℕ) (c f : w.Angle) (z : ℤ) (p : ℤ × ℤ) → b.accepts.Meridian c → b.accepts.Latitude f →
      forward_of kind (w.centiseconds c) z (w.centiseconds f) ≡ given p →
      (a : w.Angle) × (w.centiseconds a ≡ z) × Given w.units (w.forward kind c a f) p
  shared kind c f z p h k e =
      let m = b.meridian z (position kind (w.centiseconds c) z (w.centiseconds f) p e).0.l_le in
      (m.0, m.2, b.takes kind c m.0 f p h m.1 k (rw m.2 e))

  shares : (kind : ℕ) (c f : w.Angle) → b.accepts.Meridian c → b.accepts.Latitude f →
      Shares numbers kind (w.centiseconds c) (w.centiseconds f) → Shares w kind c f
  shares kind c f h k r =
      let i = shared kind c f r.first r.place₁ h k r.accepted₁ in
      let j = shared kind c f r.second r.place₂ h k r.accepted₂ in
      record {
        first = i.0;
        second = j.0;
        different = λ m. r.different (rw (i.1, j.1) at m);
        place₁ = (i.2.first, i.2.second);
        place₂ = (j.2.first, j.2.second);
        accepted₁ = i.2.answer;
        accepted₂ = j.2.answer;
        same_x = i.2.first_is ∙ r.same_x ∙ sym j.2.first_is;
        same_y = i.2.second_is ∙ r.same_y ∙ sym j.2.second_is;
      }

  pub by_numbers : Demand3 w
  by_numbers =
      record {
        turning_x = turning_x;
        turning_y = turning_y;
        forward_back = forward_back;
        sharing = λ kind c l f p e h.
            let s = b.sent kind c l f p.0 p.1 e in
            shares kind c f s.central s.latitude
            (d.sharing kind (w.centiseconds c) (w.centiseconds l) (w.centiseconds f) (w.units p.0, w.units p.1)
            s.on_numbers h);
        back_forward = back_forward;
      }
