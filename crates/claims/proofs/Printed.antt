-- What `convert` prints: the laws of its lines, and the lines of a few inputs.
use mathlib.Core.Path.{◌≡◌, refl, sym, ap, ◌∙◌}
use mathlib.Core.Bool.{false}
use Prim.Native.Nat.{ℕ}
use mathlib.Core.Logic.{◌≢◌}
use lib.IntN.{ℤ, pos, negsuc}
use borrow.Author.Tests.{ne_eqb}
use lib.ListN.{take}
use Rattle.parallel.specs.Table.{rows, row_of}
use Rattle.parallel.specs.Parallel.{radicand, q_by, q_at, one_by, one_of, numerator, half_width, height}
use Rattle.parallel.specs.Latitude.{y_of, latitude_size, width_at}
use Rattle.refusal.specs.Outcome.{refused, given, unless}
use Rattle.parallel.specs.Refusal.{is_kind}
use Rattle.whole.specs.Nearest.{nearest, carry}
use Rattle.projection.specs.Longitude.{wrap}
use Rattle.projection.specs.Forward.{x_of, place_of}
use Rattle.little_endian.specs.Number.{bytes_of, number_at}
use Rattle.record.specs.Record.{record_of, moved_of}
use Rattle.record.specs.Records.{record_at, tail_of}
use Rattle.record.specs.Answer.{pair_order, pair_of, convert_of, output_after}
use Rattle.session.specs.declared.Session.{Session}
use Rattle.session.specs.Session.{is_full, feed_of, session_after}
use Rattle.session.proofs.Orders.{fed}
use Rattle.lines.specs.Decimal.{digits_in, decimal_of, number_text}
use Rattle.lines.specs.Line.{line_of, closing_of}
use Rattle.lines.proofs.Decimals.{is_decimal}
use Rattle.report.specs.Block.{answer_at, session_at, lines_of, block_session, block_lines}
use Rattle.report.specs.Program.{end_of, printed_from, printed_of}
use Rattle.report.proofs.Blocks.{sessions_compose, lines_compose}
use Rattle.report.proofs.Streams.{numbered, reads_do_not_matter, tail_refused, tail_numbered, session_of_history}
use Rattle.stream.specs.declared.state.Got.TheVariants.{Interrupted, Failed}
use Rattle.stream.specs.Step.{got_of}
use Rattle.stream.proofs.Runs.{runs_write, runs_end}
use Rattle.claims.specs.RecordExample.{RecordExample, input}
use Rattle.claims.specs.Printing.{west, Printing}

-- ---- the worked record, and a place one unit west of its row

record_answer : convert_of input 16 ≡ given (pos 157079632, pos 78539816)
unfolding convert_of unless pair_order pair_of number_at is_kind place_of x_of y_of height wrap row_of rows half_width numerator one_of one_by q_at radicand q_by nearest carry
record_answer = refl

pub record_example : RecordExample
unfolding output_after moved_of record_of bytes_of number_at
record_example = record { answer = record_answer; written = λ output h. rw (h, record_answer) }

west_answer : convert_of west 16 ≡ refused 17
unfolding convert_of unless pair_order number_at is_kind height width_at latitude_size row_of rows half_width numerator one_of one_by q_at radicand q_by nearest carry
west_answer = refl

-- ---- what is printed of them

abbrev after : ℕ → Session
after moved = record { moved = moved; refused = 0 }

moved_in_lem : (n : ℕ) → is_full (after n) ≡ false → feed_of (after n) input 16 ≡ given (pos 157079632, pos 78539816)
moved_in_lem n e = sym (fed (after n) input 16 e) ∙ record_answer

refused_in_lem : (n : ℕ) → is_full (after n) ≡ false → feed_of (after n) west 16 ≡ refused 17
refused_in_lem n e = sym (fed (after n) west 16 e) ∙ west_answer

torn_in : (n : ℕ) → feed_of (after n) (take 5 input) 16 ≡ refused 8
unfolding feed_of unless
torn_in n = refl

-- a read that failed, by an error that is not 4
failed_read : (n : ℕ) (error : ℤ) → error ≢ pos 4 → got_of (negsuc n) error ≡ Failed
failed_read n (pos k) h = rw (ne_eqb k 4 (λ e. h (ap pos e)))
failed_read n (negsuc k) h = refl

pub printing : Printing
unfolding printed_of printed_from block_lines block_session tail_of lines_of session_at answer_at record_at end_of line_of closing_of session_after
    number_text decimal_of digits_in
printing =
    record {
      decimal = is_decimal;
      pair_line = λ number x y. refl;
      refusal_line = λ number n. refl;
      sessions = sessions_compose;
      lines = lines_compose;
      numbers = numbered;
      reads = reads_do_not_matter;
      runs = runs_write;
      runs_end = runs_end;
      all_taken = λ n. (refl, refl);
      interrupted = λ n. refl;
      no_other = failed_read;
      tail = tail_refused;
      tail_number = tail_numbered;
      counts = session_of_history;
      document = rw (moved_in_lem 0 refl);
      empty = refl;
      fourth = simp (moved_in_lem 0 refl, moved_in_lem 1 refl, moved_in_lem 2 refl, refused_in_lem 3 refl);
      torn = simp (moved_in_lem 0 refl, torn_in 1);
    }
