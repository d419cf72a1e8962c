-- The loop over the runs of a list: what stands at its head, and how a turn goes.
use mathlib.Core.List.{List, [], ◌∷◌, ◌++◌, append_assoc, append-nil}
use mathlib.Core.Path.{◌≡◌, refl, sym, ◌∙◌}
use Prim.Native.Nat.{ℕ, suc, ◌+◌, ◌-◌, ◌*◌, ◌/◌, ◌^◌, ◌≤◌, ◌<◌}
use native.Mathlib.Nat.{le_refl}
use native.Mathlib.Omega.{arith}
use borrow.Rule.Slice.PartMut.{mid_len}
use lib.ListN.{length, take, drop, length-append}
use lib.Seq.{take_at, drop_at}
use Rattle.std.specs.List.{All}
use Rattle.std.proofs.lemmas.List.Elements.{All-head, All-tail}
use Rattle.digits.specs.Put.{Put}
use Rattle.digits.proofs.Puts.{put_nothing, put_long}
use Rattle.lines.specs.Decimal.{decimal_of}
use Rattle.lines.specs.Line.{line_feed, at_word, named, named_room}
use Rattle.lines.proofs.Buffers.{put_behind}
use Rattle.lines.proofs.Decimals.{decimal_le}
use Rattle.listing.specs.Listing.{skipped_word, run_line, run_lines, run_room, most_runs}
use Rattle.listing.specs.Inside.{run_in, first_runs, runs_in, Short, Lent}

-- the line of a run has 23 bytes at most
pub line_le : (run : ℕ × ℕ) → Short run → length (run_line run) ≤ run_room
line_le run h =
    let place : run.0 < 10 ^ 5 = omega (arith, h) in
    let long : run.1 < 10 ^ 5 = omega (arith, h) in
    omega (
      arith,
      length-append (named skipped_word run.1) (named at_word run.0 ++ line_feed),
      length-append (named at_word run.0) line_feed,
      length-append skipped_word (decimal_of run.1),
      length-append at_word (decimal_of run.0),
      decimal_le 5 run.0 (omega arith) place,
      decimal_le 5 run.1 (omega arith) long,
    )

-- some runs have their lines, and those of the rest are to follow
pub record State (list text₀ text rest : List ℕ) (end : ℕ) : Type 0 where
  pub lent : Lent list text₀
  pub bound : end + run_room * (length rest / 8) ≤ run_room * most_runs
  pub kept : length text ≡ length text₀
  pub done : List ℕ
  pub put : Put text₀ 0 done end text
  pub rest_lines : run_lines (runs_in list) ≡ done ++ run_lines (runs_in rest)
  pub short : All Short (runs_in rest)

pub begin : (list text rest : List ℕ) → Lent list text → rest ≡ list → State list text text rest 0
begin list text rest h e =
    rw e (record {
      lent = h;
      bound = omega (arith, h.few);
      kept = refl;
      done = [];
      put = put_nothing text 0;
      rest_lines = refl;
      short = h.short;
    })

-- a run, and the rest behind it
runs_more : (run rest : List ℕ) → length run ≡ 8 → runs_in (run ++ rest) ≡ run_in run ∷ runs_in rest
unfolding first_runs
runs_more run rest e =
    let n : length (run ++ rest) / 8 ≡ suc (length rest / 8) = omega (arith, length-append run rest) in
    rw (n, take_at run rest 8 e, drop_at run rest 8 e)

module _ {list text₀ text rest : List ℕ} {end : ℕ} (h : State list text₀ text rest end) where
  -- the next run is short, and has its room
  pub ready : (run more : List ℕ) → rest ≡ run ++ more → length run ≡ 8 →
      (length run ≡ 8) × Short (run_in run) × (named_room 8 4 ≤ length (take (length text - end) (drop end text)))
  ready run more e l =
      let s : All Short (run_in run ∷ runs_in more) = rw (e, runs_more run more l) at h.short in
      let n : length rest ≡ length run + length more = rw e (length-append run more) in
      (l, All-head Short _ _ s, omega (arith, n, h.bound, h.kept, h.lent.room, mid_len end (length text) text (le_refl (length text))))

  pub turn : (run more : List ℕ) {text' : List ℕ} {end' : ℕ} → rest ≡ run ++ more → length run ≡ 8 → end' ≤ end + run_room →
      Put text end (run_line (run_in run)) end' text' → State list text₀ text' more end'
  unfolding run_lines
  turn run more e l b p =
      let r = runs_more run more l in
      let s : All Short (run_in run ∷ runs_in more) = rw (e, r) at h.short in
      let n : length rest ≡ length run + length more = rw e (length-append run more) in
      record {
        lent = h.lent;
        bound = omega (arith, n, h.bound);
        kept = put_long p (omega (arith, n, h.bound, h.kept, h.lent.room)) ∙ h.kept;
        done = h.done ++ run_line (run_in run);
        put = put_behind h.put p;
        rest_lines = h.rest_lines ∙ rw (e, r) (sym (append_assoc h.done (run_line (run_in run)) (run_lines (runs_in more))));
        short = All-tail Short _ _ s;
      }

  -- all lines stand
  pub finish : length rest < 8 → Put text₀ 0 (run_lines (runs_in list)) end text × (end ≤ run_room * most_runs)
  unfolding run_lines first_runs
  finish l =
      let z : length rest / 8 ≡ 0 = omega arith in
      let e : run_lines (runs_in list) ≡ h.done = h.rest_lines ∙ rw z (append-nil h.done) in
      (rw e h.put, omega (arith, h.bound))
