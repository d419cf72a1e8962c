-- `claims::hold` meets its contract: each claim, by its law.
use mathlib.Core.Bool.{Bool, true, false, cond}
use mathlib.Core.List.{List, [], ◌∷◌}
use mathlib.Core.Path.{◌≡◌, refl, ap, ◌∙◌}
use Prim.Native.Nat.{ℕ, suc, ◌+◌, ◌*◌, ◌^◌, ◌≤◌, ◌<◌}
use native.Mathlib.Omega.{arith}
use borrow.Author.Tests.{le-leb}
use lib.Dec.{T, eqb, le→leb}
use lib.Ieee.{binary64, div, of_int, round}
use lib.Ieee.Back.{round_whole}
use lib.Ieee.Exact.{HasValue}
use lib.IntN.{ℤ, pos, negsuc, neg_ℤ, nat_abs}
use Rattle.whole.specs.Nearest.{nearest, carry}
use Rattle.whole.specs.Signed.{split_of, nearest_signed}
use Rattle.whole.specs.Root.{root, root_in}
use Rattle.whole.proofs.Rounding.{near, nearest_zero, half}
use Rattle.whole.proofs.Squares.{root_is}
use Rattle.whole.proofs.Signs.{nat_abs_on, on_neg}
use Rattle.angle.specs.Angle.{N, H}
use Rattle.angle.specs.Sexagesimal.{signed_of}
use Rattle.parallel.specs.declared.table.Row.{Row}
use Rattle.parallel.specs.Table.{rows, row_of}
use Rattle.parallel.specs.Parallel.{radicand, q_by, q_at, one_by, one_of, numerator, half_width, height}
use Rattle.parallel.specs.Columns.{combined, Usable}
use Rattle.parallel.specs.Latitude.{y_of}
use Rattle.refusal.specs.Outcome.{unless}
use Rattle.parallel.specs.Refusal.{is_kind}
use Rattle.parallel.specs.Answer.{width_order, width_of}
use Rattle.parallel.proofs.Rows.{kind_range, columns}
use Rattle.parallel.proofs.Widths.{combined_whole, radicand_whole, numerator_whole, width_small}
use Rattle.projection.specs.Longitude.{wrap}
use Rattle.projection.specs.Forward.{x_of, place_of}
use Rattle.projection.specs.Inverse.{position_of}
use Rattle.projection.specs.Answer.{forward_order, inverse_order, forward_of, inverse_of}
use Rattle.reading.specs.Reading.{read_of, centiseconds, units}
use Rattle.degrees.specs.Writing.{degrees_of, units_of}
use Rattle.degrees.specs.Answer.{written_place, written_position, forward_order as forward_degrees_order, inverse_order as inverse_degrees_order, forward_of as forward_degrees, inverse_of as inverse_degrees}
use Rattle.degrees.proofs.Written.{degrees_stand, units_stand}
use Rattle.iso6709.specs.Answer.{latitude_in, longitude_in, position_in, read_order, read_of as read_text, text_of, write_order, write_of as write_text}
use Rattle.record.specs.Record.{kind_in, form_in, central_in, first_in, second_in}
use Rattle.record.specs.Answer.{pair_order, pair_of, convert_order, convert_of, output_after}
use Rattle.note.specs.Note.{narrow, note_of, counts_in}
use Rattle.note.specs.Answer.{write_order as save_order, read_order as restore_order, written_as}
use Rattle.torn.specs.Answer.{salvage_order, counts_of, salvage_of}
use Rattle.session.specs.Session.{feed_order, feed_of}
use Rattle.session.specs.Handover.{with_counts}
use Rattle.session.proofs.Handovers.{restored_order}
use Rattle.claims.specs.Arithmetic.{Arithmetic}
use Rattle.claims.specs.Demand1.{numbers_of, by_form, Demand1}
use Rattle.claims.specs.Demand2.{Demand2, Parallel}
use Rattle.claims.specs.Demand3.{Demand3, numbers, floats}
use Rattle.claims.specs.Demands.{Demands}
use Rattle.claims.specs.RecordLaws.{converting, feeding}
use Rattle.claims.specs.Examples.{Examples, examples}
use Rattle.std.specs.Fmt.{digits}
use Rattle.claims.specs.Names.{Names}
use Rattle.claims.specs.RecordExample.{input}
use Rattle.claims.specs.Written.{Written, DegreesBack}
use Rattle.claims.proofs.Bound.{within_one, one_is_m}
use Rattle.claims.proofs.Roots.{exact}
use Rattle.claims.proofs.Halves.{halves}
use Rattle.claims.proofs.Sines.{house_sine}
use Rattle.claims.proofs.Cosines.{cosine_kinds}
use Rattle.claims.proofs.Refusals.{ordered}
use Rattle.claims.proofs.Turning.{forward_x, forward_y}
use Rattle.claims.proofs.Returning.{forward_back}
use Rattle.claims.proofs.Sharing.{sharing}
use Rattle.claims.proofs.Resending.{back_forward}
use Rattle.claims.proofs.Sharpness.{sharp}
use Rattle.claims.proofs.Calls.{by_numbers}
use Rattle.claims.proofs.Floats.{floats_by_numbers}
use Rattle.claims.proofs.Pieces.{converting_answers, feeding_answers}
use Rattle.claims.proofs.Records.{records_by_numbers}
use Rattle.claims.proofs.Edges.{edges}
use Rattle.claims.proofs.TurnedPlaces.{turned_places}
use Rattle.claims.proofs.Printed.{record_example, printing}
use Rattle.claims.proofs.Events.{histories}
use Rattle.claims.proofs.Notes.{notes}
use Rattle.claims.proofs.Statuses.{interface}
use Rattle.claims.proofs.Texts.{texts, text_examples}
use Rattle.claims.proofs.Salvages.{salvages, salvage_examples}
use Rattle.claims.proofs.Exchanges.{exchange, reprojection_examples}
use Rattle.claims.proofs.Following.{reprojection}
use Rattle.claims.proofs.ReprojectedRuns.{reprojected_runs}
use Rattle.claims.proofs.SalvagedRuns.{salvaged_runs}
use Rattle.claims.proofs.hold.Goals as goal

parallel : (r : Row) (p : ℕ) → Usable r p → Parallel r p
unfolding radicand numerator combined
parallel r p u =
    record {
      s_whole = combined_whole (pos 1) (N * N) r.e (p * p) (radicand_whole r p u);
      sum_whole = combined_whole r.a (one_of r) r.b (q_at r p) (numerator_whole r p u);
      width_small = width_small r p u;
      ky_low = u.columns.ky_low;
      ky_high = u.columns.ky_high;
    }

kind_in_range : (kind : ℕ) → (1 ≤ kind) × (kind ≤ 12) → T (is_kind kind)
unfolding is_kind rows
kind_in_range kind h = rw (le-leb 1 kind h.0) (le→leb kind 12 h.1)

-- the numbers of a position's or a place's order, as a record's form says
pair_numbers : (bytes : List ℕ) → numbers_of (pair_order bytes) ≡ 1 ∷ 3 ∷ by_form (form_in bytes)
unfolding pair_order
pair_numbers bytes = go (eqb (form_in bytes) 0) (kind_in bytes) (central_in bytes) (first_in bytes) (second_in bytes)
  where
    go : (b : Bool) (kind : ℕ) (c u v : ℤ) →
        numbers_of (cond b (forward_order kind c u v) (inverse_order kind c u v)) ≡ 1 ∷ 3 ∷ cond b (4 ∷ 5 ∷ []) (6 ∷ 18 ∷ 7 ∷ 17 ∷ [])
    go true kind c u v = refl
    go false kind c u v = refl

refusals : Demand1
unfolding width_of forward_of inverse_of forward_degrees inverse_degrees convert_of feed_of output_after read_text write_text written_as salvage_of rows
refusals =
    record {
      kinds = λ kind. (kind_range kind, kind_in_range kind);
      half_width_lem = λ kind f. ordered (width_order kind f) (half_width (row_of kind) (nat_abs f)) refl;
      forward = λ kind c l f. ordered (forward_order kind c l f) (place_of (row_of kind) c l f) refl;
      inverse = λ kind c x y. ordered (inverse_order kind c x y) (position_of (row_of kind) c x y) refl;
      forward_degrees_lem = λ kind c l f.
          ordered (forward_degrees_order kind c l f)
          (written_place (place_of (row_of kind) (centiseconds c) (centiseconds l) (centiseconds f))) refl;
      inverse_degrees_lem = λ kind c x y.
          ordered (inverse_degrees_order kind c x y)
          (written_position (position_of (row_of kind) (centiseconds c) (units x) (units y))) refl;
      convert_record = λ input output. ordered (convert_order input output) (pair_of input) (rw (pair_numbers input) refl);
      feed = λ session input output. ordered (feed_order session input output) (pair_of input) (rw (pair_numbers input) refl);
      read_text_lem = λ text. ordered (read_order text) (position_in (signed_of (longitude_in text)) (signed_of (latitude_in text))) refl;
      write_text_lem = λ l f room. ordered (write_order l f room) (text_of l f) refl;
      save = λ session room.
          let counts : ℕ × ℕ = (session.moved, session.refused) in ordered (save_order narrow counts room) (note_of narrow counts) refl;
      restore = λ note. rw (restored_order note) (ordered (restore_order narrow note) (with_counts (counts_in narrow note)) refl);
      salvage = λ input records list. ordered (salvage_order input records list) (counts_of input) refl;
      output_kept = λ input output n. refl;
    }

usable : (kind p : ℕ) → T (is_kind kind) → p ≤ H → Usable (row_of kind) p
usable kind p t h = record { columns = columns kind t; latitude = h }

half_widths : Demand2
half_widths =
    record {
      bound = λ kind p g h l. within_one (row_of kind) p (usable kind p (kind_in_range kind (g, omega arith)) l) (one_is_m kind g h);
      parallels = λ kind p t h. parallel (row_of kind) p (usable kind p t h);
    }

laws_of_numbers : Demand3 numbers
laws_of_numbers =
    record {
      turning_x = λ kind c c' l l' f h k. rw (h, k) (forward_x kind c l f);
      turning_y = λ kind c l f f' h. rw h (forward_y kind c l f);
      forward_back = forward_back;
      sharing = sharing;
      back_forward = back_forward;
    }

demands : Demands
demands =
    record {
      refusals = refusals;
      half_widths = half_widths;
      laws_of_numbers = laws_of_numbers;
      laws_of_floats = by_numbers laws_of_numbers floats floats_by_numbers;
      laws_of_convert_record = records_by_numbers converting converting_answers laws_of_numbers;
      laws_of_feed = records_by_numbers feeding feeding_answers laws_of_numbers;
      histories = histories;
    }

degrees_written : (z : ℤ) → nat_abs z ≤ N → DegreesBack z
degrees_written z h =
    let s = degrees_stand z (omega arith) in
    record { is_finite = s.is_finite; within_180 = s.stays 180 h; within_90 = s.stays 90; same = s.reads }

units_exact : (z : ℤ) → nat_abs z ≤ 2 ^ 31 → HasValue (units_of z) (split_of z).negative (nat_abs z) 1
unfolding units_of of_int
units_exact (pos n) h = round_whole binary64 false n (omega arith)
units_exact (negsuc n) h = round_whole binary64 true (suc n) (omega arith)

written : Written
unfolding degrees_of units_of of_int div round
written =
    record {
      degrees = degrees_written;
      places = λ z h. record { exact = units_exact z h; same = (units_stand z (omega arith)).reads };
      zero_degrees = refl;
      zero_units = refl;
    }

worked : Examples
unfolding examples forward_of unless is_kind place_of x_of y_of height wrap row_of rows half_width numerator one_of one_by q_at radicand q_by nearest carry root root_in read_of
worked = record { numbers = refl; values = refl }

mirrored : (z : ℤ) (d : ℕ) → nearest_signed (neg_ℤ z) d ≡ neg_ℤ (nearest_signed z d)
mirrored z d = on_neg (λ (n : ℕ). nearest n d) (nearest_zero d) z

half_even : (k h : ℕ) → 0 < h → nearest_signed (pos (2 * h * (2 * k) + h)) (2 * h) ≡ pos (2 * k)
half_even k h l = ap pos (half (2 * k) h l ∙ omega arith)

half_odd : (k h : ℕ) → 0 < h → nearest_signed (pos (2 * h * (2 * k + 1) + h)) (2 * h) ≡ pos (2 * k + 2)
half_odd k h l = ap pos (half (2 * k + 1) h l ∙ omega arith)

arithmetic : Arithmetic
unfolding nearest carry
arithmetic =
    record {
      near = near;
      mirrored = mirrored;
      sized = λ z d. nat_abs_on (λ (n : ℕ). nearest n d) z;
      half_above_even = half_even;
      half_above_odd = half_odd;
      half_below_even = λ k h l. mirrored (pos (2 * h * (2 * k) + h)) (2 * h) ∙ ap neg_ℤ (half_even k h l);
      half_below_odd = λ k h l. mirrored (pos (2 * h * (2 * k + 1) + h)) (2 * h) ∙ ap neg_ℤ (half_odd k h l);
      halves = refl;
      floor = root_is;
      exact = exact;
      half_turn = refl;
      right_angle = refl;
    }

names : Names
unfolding digits
names =
    record {
      kinds = refl;
      calls = refl;
      edges = refl;
      records = refl;
      texts = refl;
      torn_files = refl;
      printed_7 = refl;
      printed_24 = refl;
    }

pub returns : goal.returns
returns c =
    (demands, edges, turned_places, sharp, worked, record_example, arithmetic, halves, house_sine, cosine_kinds, written, printing, interface, texts, text_examples, notes, salvages, salvage_examples, exchange, reprojection, reprojection_examples, reprojected_runs, salvaged_runs, names)
