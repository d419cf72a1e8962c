-- The claims of a salvage, each by its law, and the worked files.
use mathlib.Core.Bool.{true, false≢true, and-false}
use mathlib.Core.List.{List, [], ◌∷◌, ◌++◌}
use mathlib.Core.Logic.{◌≢◌}
use mathlib.Core.Path.{◌≡◌, refl, sym, ◌∙◌}
use Prim.Native.Nat.{ℕ, ◌+◌, ◌*◌, ◌≤◌, ◌<◌}
use native.Mathlib.Omega.{arith}
use borrow.Author.Tests.{ne_eqb}
use lib.Dec.{eqb}
use lib.IntN.{ℤ}
use lib.ListN.{length, get_or, drop}
use Rattle.whole.specs.Nearest.{nearest, carry}
use Rattle.parallel.specs.Table.{rows, row_of}
use Rattle.parallel.specs.Parallel.{radicand, q_by, q_at, one_by, one_of, numerator, half_width, height}
use Rattle.parallel.specs.Latitude.{latitude_size, width_at}
use Rattle.refusal.specs.Outcome.{Outcome, refused, given, is_given, unless}
use Rattle.parallel.specs.Refusal.{is_kind}
use Rattle.little_endian.specs.Number.{number_at}
use Rattle.digits.specs.Put.{put_front}
use Rattle.record.specs.Answer.{pair_order, judged_of, convertible, convert_of}
use Rattle.record.proofs.Orders.{converted, sizes, by_judgement, convertible_length}
use Rattle.torn.specs.Parts.{Part, taken, skipped, skip, reading, parts_of, taken_in, runs_from, taken_of, runs_of, closed_up, back_of}
use Rattle.torn.specs.Pieces.{list_of}
use Rattle.torn.specs.Answer.{salvage_of, records_after, list_after}
use Rattle.torn.proofs.Readings.{parts_none, parts_taken, parts_skipped, closed, Read, read_none, read_taken, read_skipped}
use Rattle.torn.proofs.Answers.{answer_23, answer_24, accepts}
use Rattle.torn.proofs.Sizes.{taken_long, taken_fits}
use Rattle.torn.proofs.Laws.{put_back, runs_apart, all_convert, record_at_lem, stretch}
use Rattle.torn.proofs.Listed.{list_long, list_fits, read_back, list_bytes}
use Rattle.claims.specs.Notes.{four}
use Rattle.claims.specs.RecordLaws.{converting}
use Rattle.claims.specs.Salvages.{room, Judged, Stands, front, behind, past, AllConvert, TakenAt, InOrder, nothing, next_record, next_run, Salvages}
use Rattle.claims.specs.SalvageExamples.{files, SalvageExamples}
use Rattle.claims.proofs.Pieces.{converting_answers, converted_as}
use Rattle.claims.proofs.Notes.{four_is}

-- ---- a record is what `convert_record` converts

is_given_lem : (bytes : List ℕ) → convertible bytes ≡ true → is_given (judged_of bytes) ≡ true
is_given_lem bytes e = by_judgement bytes (judged_of bytes) (convertible_length bytes e) refl ∙ e

judged_so : (bytes : List ℕ) → convertible bytes ≡ true → Judged bytes
judged_so bytes e = go (judged_of bytes) (converted bytes 16 (rw (convertible_length bytes e))) (is_given_lem bytes e)
  where
    go : (o : Outcome (ℤ × ℤ)) → o ≡ convert_of bytes 16 → is_given o ≡ true → Judged bytes
    go (given pair) c t = record { pair = pair; answer = sym c }
    go (refused n) c t = absurd (false≢true t)

so_judged : (bytes : List ℕ) → Judged bytes → convertible bytes ≡ true
so_judged bytes j =
    let c = converted_as converting converting_answers tt bytes 16 j.pair j.answer in
    sym (by_judgement bytes (given j.pair) (sizes (length bytes) 16 (rw c.pieces)).0 (sym c.record_is))

-- ---- the stretch, where the reading comes to stand

record Standing (s : List ℕ) (at : ℕ) : Type 0 where
  done : List Part
  run : List ℕ
  read : Read s at done run

standing : {s : List ℕ} {at : ℕ} → Stands s at → Standing s at
standing {s} front = record { done = []; run = []; read = read_none s }
standing (behind h e) = let t = standing h in record { done = _; run = _; read = read_taken t.read e }
standing (past h e l) = let t = standing h in record { done = _; run = _; read = read_skipped t.read e l }

taken_at : (s : List ℕ) (at : ℕ) (r : List ℕ) (rs : List (List ℕ)) (rest : List ℕ) → Stands s at → AllConvert (r ∷ rs) →
    drop at s ≡ closed_up (r ∷ rs) ++ rest → TakenAt s at (r ∷ rs) rest
taken_at s at r rs rest h c e =
    let t = standing h in
    let k = stretch t.read r rs rest c e in
    record { before = t.done ++ closed t.run; up_to = k.0; parts = k.1 }

-- ---- records and runs in order

parts_in_order : (at : ℕ) (ps : List Part) → InOrder at (back_of ps) ps (taken_in ps) (runs_from at ps)
unfolding back_of taken_in runs_from
parts_in_order at [] = nothing
parts_in_order at (taken r ∷ ps) = next_record r (parts_in_order (at + length r) ps)
parts_in_order at (skipped run ∷ ps) = next_run run (parts_in_order (at + length run) ps)

-- ---- refusals

module _ (input : List ℕ) (records list : ℕ) (h : length input ≤ 65536) where
  other_records : records ≢ length input → salvage_of input records list ≡ refused 24
  other_records k = sym (answer_24 input records list h (rw (ne_eqb records (length input) k)))

  other_list : list ≢ room (length input) → salvage_of input records list ≡ refused 24
  other_list k = sym (answer_24 input records list h (rw (ne_eqb list (room (length input)) k) (and-false (eqb records (length input)))))

counted : (input : List ℕ) → length input ≤ 65536 →
    salvage_of input (length input) (room (length input)) ≡ given (length (taken_of input), length (runs_of input))
counted input h = accepts input (length input) (room (length input)) h refl refl

-- ---- the list

listed : (s : List ℕ) (i : ℕ) → length s ≤ 65536 → i < length (runs_of s) →
    (four (list_of (runs_of s)) (8 * i) ≡ (get_or (runs_of s) i (0, 0)).0) × (four (list_of (runs_of s)) (8 * i + 4) ≡ (get_or (runs_of s) i (0, 0)).1)
listed s i h k =
    let l : List ℕ = list_of (runs_of s) in
    let n = list_long (runs_of s) in
    let b = read_back s i (omega arith) k in
    (four_is l (8 * i) (omega arith) ∙ b.0, four_is l (8 * i + 4) (omega arith) ∙ b.1)

pub salvages : Salvages
unfolding skip back_of records_after list_after put_front
salvages =
    record {
      ends = parts_none;
      takes = parts_taken;
      skips = λ b s e. parts_skipped (b ∷ s) 0 e (omega arith);
      skip_alone = λ b. refl;
      skip_before = λ b r ps. refl;
      skip_joins = λ b run ps. refl;
      judged = λ bytes. (judged_so bytes, so_judged bytes);
      all_convert = all_convert;
      put_back = put_back;
      back_none = refl;
      back_taken = λ r ps. refl;
      back_skipped = λ run ps. refl;
      in_order = λ s. rw (put_back s) at (parts_in_order 0 (parts_of s));
      not_empty = λ s before later run e. (runs_apart s before later run e).0;
      apart = λ s before later run next e. (runs_apart s before (skipped next ∷ later) run e).1;
      stretch = taken_at;
      too_long_lem = λ input records list h. sym (answer_23 input records list h);
      other_records = other_records;
      other_list = other_list;
      counted = counted;
      records_fit = taken_fits;
      records_long = taken_long;
      list_fits = list_fits;
      list_long = λ s. list_long (runs_of s);
      records_written = λ input piece counts. refl;
      list_written = λ input piece counts. refl;
      records_kept = λ input piece n. refl;
      list_kept = λ input piece n. refl;
      record_at_lem = λ s i h. record_at_lem (taken_of s) i (all_convert s) h;
      list_bytes = λ s. list_bytes (runs_of s);
      listed = listed;
    }

pub salvage_examples : SalvageExamples
unfolding files parts_of reading skip taken_in runs_from list_of convertible judged_of unless pair_order number_at is_kind height width_at latitude_size row_of rows half_width numerator one_of one_by q_at radicand q_by nearest carry
salvage_examples = record { records = refl; runs = refl; listed = refl; wide = refl }
