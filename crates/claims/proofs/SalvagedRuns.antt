-- What the program `salvage` writes and says, from what a run writes by its phase.
use mathlib.Core.List.{List, []}
use mathlib.Core.Logic.{◌≢◌}
use mathlib.Core.Path.{◌≡◌, refl, subst, ◌∙◌}
use Prim.Native.Nat.{ℕ, ◌≤◌}
use borrow.Author.Tests.{le-leb, lt-leb, leb-true, leb-false}
use lib.ListN.{length}
use Rattle.parallel.specs.Table.{rows}
use Rattle.refusal.specs.Outcome.{unless}
use Rattle.parallel.specs.Refusal.{is_kind}
use Rattle.little_endian.specs.Number.{number_at}
use Rattle.record.specs.Answer.{pair_order, judged_of, convertible}
use Rattle.torn.specs.Parts.{skip, reading, parts_of, taken_in, runs_from, taken_of, closed_up}
use Rattle.torn.specs.Pieces.{most}
use Rattle.lines.specs.Decimal.{digits_in, decimal_of}
use Rattle.listing.specs.Listing.{run_lines, listing_of}
use Rattle.jobs.specs.declared.Job.TheVariants.{Salvage}
use Rattle.jobs.specs.Job.{block_of, waiting_of, salvaged_of, result_of}
use Rattle.stream.specs.declared.state.Phase.{Phase}
use Rattle.stream.specs.declared.state.Phase.TheVariants.{Reading, Ended, NotStarted, NotRead, NotWritten, TooLong}
use Rattle.stream.specs.Run.{Turn, Wrote}
use Rattle.stream.proofs.Runs.{runs_write, runs_end}
use Rattle.messages.specs.Message.{name_of, ended_of, message_of}
use Rattle.claims.specs.SalvagedRuns.{standing, read, written, too_many_bytes, inside, inside_said, AtEnd, SalvagedRuns}

-- what a run has written by a phase
by_phase : (arguments : ℕ) (turns : List Turn) {phase : Phase} → (standing arguments turns).phase ≡ phase →
    Wrote Salvage phase (read arguments turns) (written arguments turns)
by_phase arguments turns e =
    subst (λ (phase : Phase). Wrote Salvage phase (read arguments turns) (written arguments turns)) e (runs_write Salvage arguments turns)

-- the result of a file that is not too long
result_is : (s : List ℕ) → length s ≤ most → result_of Salvage s ≡ closed_up (taken_of s)
unfolding result_of salvaged_of
result_is s h = rw (le-leb (length s) most h)

-- what is said at the end, with all that was read
said_is : (s rest : List ℕ) → rest ≡ waiting_of Salvage s → message_of Salvage Ended rest ≡ listing_of s
unfolding message_of ended_of waiting_of
said_is s rest e = rw e

ends : (arguments : ℕ) (turns : List Turn) → (standing arguments turns).phase ≡ Ended →
    AtEnd (read arguments turns) (written arguments turns) (message_of Salvage Ended (standing arguments turns).rest)
ends arguments turns e =
    let w = by_phase arguments turns e in
    let s = read arguments turns in
    let h : length s ≤ most = leb-true (length s) most w.0 in
    record {
      short = h;
      taken = w.1 ∙ result_is s h;
      lists = said_is s (standing arguments turns).rest ((runs_end Salvage).rests arguments turns e);
    }

nothing_by : (phase : Phase) (s w : List ℕ) → Wrote Salvage phase s w → phase ≢ Ended → w ≡ []
unfolding block_of
nothing_by Reading s w h n = h
nothing_by Ended s w h n = absurd (n refl)
nothing_by NotStarted s w h n = h.1
nothing_by NotRead s w h n = h
nothing_by NotWritten s w h n = h.written_is
nothing_by TooLong s w h n = h.1

said_too_long : (rest : List ℕ) → message_of Salvage TooLong rest ≡ too_many_bytes
unfolding message_of name_of
said_too_long rest = refl

worked : listing_of inside ≡ inside_said
unfolding listing_of run_lines decimal_of digits_in parts_of reading skip taken_in runs_from convertible judged_of unless pair_order number_at is_kind rows
worked = refl

pub salvaged_runs : SalvagedRuns
unfolding listing_of run_lines
salvaged_runs =
    record {
      ends = ends;
      nothing_else = λ arguments turns n.
          nothing_by (standing arguments turns).phase (read arguments turns) (written arguments turns) (runs_write Salvage arguments turns) n;
      too_long_lem = λ arguments turns e. leb-false (length (read arguments turns)) most (by_phase arguments turns e).0;
      said_too_long = said_too_long;
      comes_to_end = λ arguments turns h g k. (runs_end Salvage).ends arguments turns h g (le-leb (length (read arguments turns)) most k);
      comes_to_a_stop = λ arguments turn turns h g k l.
          (runs_end Salvage).stops arguments turn turns h g (le-leb (length (read arguments turns)) most k) (lt-leb _ most l);
      listing = λ s. refl;
      no_lines = refl;
      more_lines = λ run runs. refl;
      run_line_lem = λ first long. refl;
      counts_line_lem = λ taken skipped. refl;
      worked = worked;
    }
