-- Demand 1: a refusal is the numbered one in document 01, given exactly when its condition holds and none earlier in the
-- order there does. Else the answer is the one that document 01's rules give.
use Rattle.std.specs.Prelude.{true, false, cond, List, [], ◌∷◌, ◌++◌, map, ◌↔◌, ◌≡◌, ℕ, ◌≤◌, T, eqb, Float, ℤ, nat_abs, length}
use Rattle.parallel.specs.Table.{row_of}
use Rattle.parallel.specs.Parallel.{half_width}
use Rattle.refusal.specs.Outcome.{Rule, Outcome, refused, given}
use Rattle.parallel.specs.Refusal.{is_kind}
use Rattle.parallel.specs.Answer.{width_order, width_of}
use Rattle.projection.specs.Forward.{place_of}
use Rattle.projection.specs.Inverse.{position_of}
use Rattle.projection.specs.Answer.{forward_order, inverse_order, forward_of, inverse_of}
use Rattle.angle.specs.Sexagesimal.{signed_of}
use Rattle.reading.specs.Reading.{centiseconds, units}
use Rattle.degrees.specs.Answer.{written_place, written_position, forward_order as forward_degrees_order, inverse_order as inverse_degrees_order, forward_of as forward_degrees, inverse_of as inverse_degrees}
use Rattle.iso6709.specs.Answer.{latitude_in, longitude_in, position_in, read_order, read_of, text_of, write_order, write_of}
use Rattle.note.specs.Note.{narrow, note_of, counts_in}
use Rattle.note.specs.Answer.{write_order as save_order, read_order as restore_order}
use Rattle.record.specs.Record.{form_in}
use Rattle.record.specs.Answer.{pair_of, convert_order, convert_of, output_after}
use Rattle.torn.specs.Parts.{taken_of, runs_of}
use Rattle.torn.specs.Answer.{salvage_order, salvage_of}
use Rattle.session.specs.declared.Session.{Session}
use Rattle.session.specs.Session.{feed_order, feed_of}
use Rattle.session.specs.Handover.{with_counts, save_of, restore_of}

-- no condition of an order holds
abbrev pub None : List Rule → Type 0
None [] = Unit {0}
None (r ∷ rs) = (r.applies ≡ false) × None rs

-- a refusal numbered n stands in the order, its condition holds, and none earlier does
pub record First (order : List Rule) (n : ℕ) : Type 0 where
  pub earlier : List Rule
  pub refusal : Rule
  pub later : List Rule
  pub stands : order ≡ earlier ++ (refusal ∷ later)
  pub number : refusal.number ≡ n
  pub holds : refusal.applies ≡ true
  pub none_earlier : None earlier

-- the numbers of an order
abbrev pub numbers_of : List Rule → List ℕ
numbers_of order = map (λ (r : Rule). r.number) order

-- an outcome is refused by the first refusal of the order, whose numbers are these, and gives a where there is none
pub record Ordered {A : Type 0} (outcome : Outcome A) (order : List Rule) (numbers : List ℕ) (a : A) : Type 0 where
  pub numbers_are : numbers_of order ≡ numbers
  pub refusal : (n : ℕ) → (outcome ≡ refused n) ↔ First order n
  pub answer : (b : A) → (outcome ≡ given b) ↔ (None order × (b ≡ a))

-- the last numbers of a record's order: a position's, or a place's. A record of neither form is refused before them
abbrev pub by_form : ℕ → List ℕ
by_form form = cond (eqb form 0) (4 ∷ 5 ∷ []) (6 ∷ 18 ∷ 7 ∷ 17 ∷ [])

pub record Demand1 : Type 0 where
  -- a kind is one of 1..12
  pub kinds : (kind : ℕ) → T (is_kind kind) ↔ ((1 ≤ kind) × (kind ≤ 12))
  pub half_width_lem : (kind : ℕ) (latitude : ℤ) →
      Ordered (width_of kind latitude) (width_order kind latitude)
      (1 ∷ 5 ∷ []) (half_width (row_of kind) (nat_abs latitude))
  pub forward : (kind : ℕ) (central longitude latitude : ℤ) →
      Ordered (forward_of kind central longitude latitude) (forward_order kind central longitude latitude)
      (1 ∷ 3 ∷ 4 ∷ 5 ∷ []) (place_of (row_of kind) central longitude latitude)
  pub inverse : (kind : ℕ) (central x y : ℤ) →
      Ordered (inverse_of kind central x y) (inverse_order kind central x y)
      (1 ∷ 3 ∷ 6 ∷ 18 ∷ 7 ∷ 17 ∷ []) (position_of (row_of kind) central x y)
  -- on floats, at the numbers read from them; 2 stands there for each of the three floats
  pub forward_degrees_lem : (kind : ℕ) (central longitude latitude : Float) →
      Ordered (forward_degrees kind central longitude latitude) (forward_degrees_order kind central longitude latitude)
      (1 ∷ 2 ∷ 2 ∷ 2 ∷ 3 ∷ 4 ∷ 5 ∷ [])
      (written_place (place_of (row_of kind) (centiseconds central) (centiseconds longitude) (centiseconds latitude)))
  pub inverse_degrees_lem : (kind : ℕ) (central x y : Float) →
      Ordered (inverse_degrees kind central x y) (inverse_degrees_order kind central x y)
      (1 ∷ 2 ∷ 2 ∷ 2 ∷ 3 ∷ 6 ∷ 18 ∷ 7 ∷ 17 ∷ [])
      (written_position (position_of (row_of kind) (centiseconds central) (units x) (units y)))
  -- on records: an input piece, the length of the output piece, and for feed the session
  pub convert_record : (input : List ℕ) (output : ℕ) →
      Ordered (convert_of input output) (convert_order input output)
      (8 ∷ 9 ∷ 10 ∷ 1 ∷ 3 ∷ by_form (form_in input)) (pair_of input)
  pub feed : (session : Session) (input : List ℕ) (output : ℕ) →
      Ordered (feed_of session input output) (feed_order session input output)
      (8 ∷ 11 ∷ 9 ∷ 10 ∷ 1 ∷ 3 ∷ by_form (form_in input)) (pair_of input)
  -- on texts: the bytes of one, or a position and the length of the lent text; the latitude before the longitude
  pub read_text_lem : (text : List ℕ) →
      Ordered (read_of text) (read_order text)
      (12 ∷ 13 ∷ 14 ∷ 15 ∷ 5 ∷ 4 ∷ []) (position_in (signed_of (longitude_in text)) (signed_of (latitude_in text)))
  pub write_text_lem : (longitude latitude : ℤ) (room : ℕ) →
      Ordered (write_of longitude latitude room) (write_order longitude latitude room)
      (12 ∷ 5 ∷ 4 ∷ []) (text_of longitude latitude)
  -- on a session and the length of the piece that is lent for its note, or on the bytes of a note
  pub save : (session : Session) (room : ℕ) →
      Ordered (save_of session room) (save_order narrow (session.moved, session.refused) room)
      (8 ∷ 16 ∷ []) (note_of narrow (session.moved, session.refused))
  pub restore : (note : List ℕ) →
      Ordered (restore_of note) (restore_order narrow note) (8 ∷ 9 ∷ 16 ∷ []) (with_counts (counts_in narrow note))
  -- on a file and the lengths of the two pieces that are lent
  pub salvage : (input : List ℕ) (records list : ℕ) →
      Ordered (salvage_of input records list) (salvage_order input records list)
      (23 ∷ 24 ∷ []) (length (taken_of input), length (runs_of input))
  -- a refusal leaves the output piece as it was lent, whatever its length
  pub output_kept : (input output : List ℕ) (n : ℕ) → output_after input output (refused n) ≡ output
