-- Demand 3 for records, said once for both calls that take one: convert_record, and feed with a session.
use Rattle.std.specs.Prelude.{Bool, true, false, List, ◌⊎◌, ◌≢◌, ◌↔◌, ◌≡◌, ℕ, ◌<◌, ℤ, neg_ℤ, nat_abs, length, take}
use Rattle.angle.specs.Angle.{N}
use Rattle.parallel.specs.Table.{row_of}
use Rattle.parallel.specs.Parallel.{half_width}
use Rattle.refusal.specs.Outcome.{Outcome, refused, given}
use Rattle.record.specs.Record.{size, position, place, record_of, kind_in, form_in, central_in, first_in, second_in, moved_of}
use Rattle.record.specs.Answer.{convert_of, output_after}
use Rattle.session.specs.declared.Session.{Session}
use Rattle.session.specs.Session.{is_full, feed_of}
use Rattle.claims.specs.Demand3.{numbers, OneMeridian, Alike, TurnedX, TurnedY, SamePosition, ClosePlace}

-- a call: what it takes beside its two pieces, when that is full, and the answer by the input and the output's length
pub record RecordCall : Type 1 where
  pub State : Type 0
  pub is_full : State → Bool
  pub answer : State → List ℕ → ℕ → Outcome (ℤ × ℤ)

-- convert_record takes nothing else
abbrev pub converting : RecordCall
converting = record { State = Unit {0}; is_full = λ _. false; answer = λ _ input output. convert_of input output }

-- feed takes a session
abbrev pub feeding : RecordCall
feeding = record { State = Session; is_full = is_full; answer = feed_of }

-- two pieces alike in length, mark, kind and form
pub record SameHead (s t : List ℕ) : Type 0 where
  pub length_same : length t ≡ length s
  pub head_same : take 4 t ≡ take 4 s

-- t is s with the signs of longitude and central meridian turned
pub record TurnedEast (s t : List ℕ) : Type 0 where
  pub head : SameHead s t
  pub central : central_in t ≡ neg_ℤ (central_in s)
  pub longitude : first_in t ≡ neg_ℤ (first_in s)
  pub latitude : second_in t ≡ second_in s

-- t is s with latitude's sign turned
pub record TurnedNorth (s t : List ℕ) : Type 0 where
  pub head : SameHead s t
  pub central : central_in t ≡ central_in s
  pub longitude : first_in t ≡ first_in s
  pub latitude : second_in t ≡ neg_ℤ (second_in s)

-- a position's record, written with another longitude
abbrev pub with_longitude : List ℕ → ℤ → List ℕ
with_longitude s l = record_of (kind_in s) position (central_in s) l (second_in s)

-- t is s but for the longitude, which is l
pub record OtherLongitude (s t : List ℕ) (l : ℤ) : Type 0 where
  pub head : SameHead s t
  pub central : central_in t ≡ central_in s
  pub longitude : first_in t ≡ l
  pub latitude : second_in t ≡ second_in s

module _ (h : RecordCall) where
  -- a moved record fed again, with any session and any output piece: refused by 8 exactly when the piece is not of 16 bytes, by
  -- 11 exactly when it is and the session is full, by nothing else; else it is accepted, and the answer stands in P
  pub record FedAgain (bytes : List ℕ) (P : ℤ × ℤ → Type 0) (t : h.State) (output : ℕ) : Type 0 where
    pub by_8 : (h.answer t bytes output ≡ refused 8) ↔ (output ≢ size)
    pub by_11 : (h.answer t bytes output ≡ refused 11) ↔ ((output ≡ size) × (h.is_full t ≡ true))
    pub nothing_else : (n : ℕ) → h.answer t bytes output ≡ refused n → (n ≡ 8) ⊎ (n ≡ 11)
    pub accepted : output ≡ size → h.is_full t ≡ false → (q : ℤ × ℤ) × (h.answer t bytes output ≡ given q) × P q

  -- two different meridians, by which alone the records differ from s, are moved to one and the same record
  pub record SharedRecord (t : h.State) (s : List ℕ) (output : ℕ) : Type 0 where
    pub first : ℤ
    pub second : ℤ
    pub different : OneMeridian first second → ⊥
    pub first_like : OtherLongitude s (with_longitude s first) first
    pub second_like : OtherLongitude s (with_longitude s second) second
    pub place : ℤ × ℤ
    pub accepted₁ : h.answer t (with_longitude s first) output ≡ given place
    pub accepted₂ : h.answer t (with_longitude s second) output ≡ given place
    pub same_record : moved_of (with_longitude s first) place ≡ moved_of (with_longitude s second) place

  -- a record whose form is not 1 is a position, or refused by 10 or earlier
  pub record RecordLaws : Type 0 where
    pub turning_x : (t : h.State) (s s' : List ℕ) (output : ℕ) → form_in s ≢ place → TurnedEast s s' →
        Alike (TurnedX numbers) (h.answer t s output) (h.answer t s' output)
    pub turning_y : (t : h.State) (s s' : List ℕ) (output : ℕ) → form_in s ≢ place → TurnedNorth s s' →
        Alike (TurnedY numbers) (h.answer t s output) (h.answer t s' output)
    -- what the first call wrote is fed to the second as it stands
    pub forward_back : (t t' : h.State) (s out : List ℕ) (output' : ℕ) (p : ℤ × ℤ) → form_in s ≡ position →
        h.answer t s (length out) ≡ given p →
        FedAgain (output_after s out (h.answer t s (length out)))
        (λ (q : ℤ × ℤ). SamePosition numbers (kind_in s) (central_in s) (first_in s) (second_in s) q.0 q.1) t' output'
    pub sharing : (t : h.State) (s : List ℕ) (output : ℕ) (p : ℤ × ℤ) → form_in s ≡ position → h.answer t s output ≡ given p →
        half_width (row_of (kind_in s)) (nat_abs (second_in s)) < N → SharedRecord t s output
    pub back_forward : (t t' : h.State) (s out : List ℕ) (output' : ℕ) (p : ℤ × ℤ) → form_in s ≡ place →
        h.answer t s (length out) ≡ given p →
        FedAgain (output_after s out (h.answer t s (length out)))
        (λ (q : ℤ × ℤ). ClosePlace numbers (kind_in s) (central_in s) (first_in s) (second_in s) q.0 q.1) t' output'
