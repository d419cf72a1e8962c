-- What the program prints: how reads add up, and what `last_lines` answers.
use Rattle.std.specs.Bool.{◌==◌}
use mathlib.Core.Bool.{true, false}
use mathlib.Core.Path.{◌≡◌, refl, sym, ap, ◌∙◌}
use mathlib.Core.List.{List, [], ◌∷◌, ◌++◌, append_assoc, append-nil}
use Prim.Native.Nat.{ℕ, zero, suc, ◌+◌, ◌-◌, ◌<◌}
use native.Mathlib.Nat.{add-zero, add_assoc, zero-add}
use native.Mathlib.Omega.{arith}
use borrow.Author.Tests.{ne_eqb, eqb-true}
use lib.IntN.{ℤ}
use lib.ListN.{length}
use Rattle.refusal.specs.Outcome.{Outcome, unless}
use Rattle.record.specs.Record.{size}
use Rattle.record.specs.Records.{record_at, records_in, tail_of}
use Rattle.record.proofs.Records.{tail_length, records_more, record_before, record_after, tail_more}
use Rattle.session.specs.declared.Session.{Session}
use Rattle.session.specs.Session.{opened, feed_of, session_after}
use Rattle.session.specs.History.{session_of}
use Rattle.lines.specs.Line.{line_of, closing_of}
use Rattle.report.specs.Block.{answer_at, session_at, lines_of, block_session, block_lines}
use Rattle.report.specs.Program.{end_of, printed_from, first_number, printed_of, Numbered, TailNumbered, printed_by, joined, ReadsDoNotMatter, TailRefused, calls_of, SessionOfHistory}
use Rattle.report.proofs.Blocks.{sessions_compose, lines_compose, same_session, same_lines}

-- ---- bytes that come behind others

module _ (t : Session) (s more : List ℕ) where
  abbrev k : ℕ
  k = records_in s

  abbrev n : ℕ
  n = records_in (tail_of s ++ more)

  first_same : (i : ℕ) → i < k → record_at (s ++ more) (0 + i) ≡ record_at s (0 + i)
  first_same i h = rw (zero-add i) (record_before s more i h)

  last_same : (i : ℕ) → i < n → record_at (s ++ more) (0 + k + i) ≡ record_at (tail_of s ++ more) (0 + i)
  last_same i h = rw (zero-add k, zero-add i) (record_after s more i)

  session_first : session_at t (s ++ more) 0 k ≡ block_session t s
  unfolding block_session
  session_first = same_session t (s ++ more) s 0 0 k first_same

  pub block_session_lem : block_session t (s ++ more) ≡ block_session (block_session t s) (tail_of s ++ more)
  unfolding block_session
  block_session_lem =
      rw (records_more s more, sessions_compose t (s ++ more) 0 k n, session_first)
      (same_session (block_session t s) (s ++ more) (tail_of s ++ more) (0 + k) 0 n last_same)

  pub block_lines_lem : (next : ℕ) →
      block_lines t next (s ++ more) ≡ block_lines t next s ++ block_lines (block_session t s) (next + k) (tail_of s ++ more)
  unfolding block_lines
  block_lines_lem next =
      rw (
        records_more s more,
        lines_compose t next (s ++ more) 0 k n,
        session_first,
        same_lines t (s ++ more) s 0 0 next next refl k first_same,
      )
      (ap (λ (l : List ℕ). lines_of t next s 0 k ++ l)
      (same_lines (block_session t s) (s ++ more) (tail_of s ++ more) (0 + k) 0 next (next + k) (omega arith) n last_same))

  -- the lines of the first whole records, and then what is printed of the rest
  printed_split : (next : ℕ) →
      printed_from t next (s ++ more) ≡ block_lines t next s ++ printed_from (block_session t s) (next + k) (tail_of s ++ more)
  unfolding printed_from
  printed_split next =
      rw (block_lines_lem next, block_session_lem, tail_more s more, records_more s more, ← add_assoc next k n)
      (append_assoc (block_lines t next s) (block_lines (block_session t s) (next + k) (tail_of s ++ more)) _)

-- fewer bytes than a record are a tail
printed_tail : (t : Session) (next : ℕ) (s : List ℕ) → length s < size → printed_from t next s ≡ end_of t next s
unfolding printed_from block_lines block_session tail_of lines_of session_at
printed_tail t next s h = let e : records_in s ≡ 0 = omega arith in rw (e, add-zero next)

reads_from : (pieces : List (List ℕ)) (t : Session) (next : ℕ) (rest : List ℕ) → length rest < size →
    printed_by t next rest pieces ≡ printed_from t next (rest ++ joined pieces)
unfolding printed_by joined
reads_from [] t next rest h = rw (append-nil rest) (sym (printed_tail t next rest h))
reads_from (piece ∷ pieces) t next rest h =
    let s : List ℕ = rest ++ piece in
    let l = tail_length s in
    rw (sym (append_assoc rest piece (joined pieces)), printed_split t s (joined pieces) next)
    (ap (λ (x : List ℕ). block_lines t next s ++ x) (reads_from pieces (block_session t s) (next + records_in s) (tail_of s) (omega arith)))

pub reads_do_not_matter : ReadsDoNotMatter
unfolding printed_of
reads_do_not_matter pieces = reads_from pieces opened first_number [] (omega arith)

-- ---- the line of a record

-- the first of some records
first_line : (t : Session) (next : ℕ) (s : List ℕ) (i : ℕ) → lines_of t next s (0 + i) 1 ≡ line_of (next + i) (answer_at t s i)
unfolding lines_of session_at
first_line t next s i = rw (add-zero (0 + i), zero-add i)

pub numbered : Numbered
unfolding printed_of printed_from block_lines
numbered s i h =
    let u : Session = session_at opened s 0 i in
    let later : ℕ = records_in s - (i + 1) in
    let n : records_in s ≡ i + (1 + later) = omega arith in
    let end : List ℕ = end_of (block_session opened s) (first_number + records_in s) (tail_of s) in
    let line : List ℕ = line_of (first_number + i) (answer_at u s i) in
    let lines : List ℕ = lines_of (session_at u s (0 + i) 1) first_number s (0 + i + 1) later in
    let cut : lines_of opened first_number s 0 (records_in s) ≡ lines_of opened first_number s 0 i ++ (line ++ lines) =
    ap (lines_of opened first_number s 0) n
    ∙ lines_compose opened first_number s 0 i (1 + later)
    ∙ ap (λ (l : List ℕ). lines_of opened first_number s 0 i ++ l)
    (lines_compose u first_number s (0 + i) 1 later ∙ ap (λ (l : List ℕ). l ++ lines) (first_line u first_number s i)) in
    record {
      behind = lines ++ end;
      stands = ap (λ (l : List ℕ). l ++ end) cut
          ∙ append_assoc (lines_of opened first_number s 0 i) (line ++ lines) end
          ∙ ap (λ (l : List ℕ). lines_of opened first_number s 0 i ++ l) (append_assoc line lines end);
    }

-- ---- the tail, and the history

pub tail_refused : TailRefused
unfolding end_of feed_of unless session_after
tail_refused t next [] h k = absurd (omega arith)
tail_refused t next (b ∷ bs) h k =
    let e : length (b ∷ bs) ≡ size → ⊥ = λ e. omega arith in
    simp (ne_eqb _ _ e)

pub tail_numbered : TailNumbered
unfolding printed_of printed_from
tail_numbered s h =
    let l = tail_length s in
    ap (λ (l : List ℕ). block_lines opened first_number s ++ l)
    (tail_refused (block_session opened s) (first_number + records_in s) (tail_of s) h (omega arith))

history_from : (s : List ℕ) (count : ℕ) → session_at opened s 0 count ≡ session_of (calls_of s count)
unfolding session_at answer_at session_of calls_of
history_from s zero = refl
history_from s (suc count) = rw (history_from s count, zero-add count)

pub session_of_history : SessionOfHistory
unfolding block_session
session_of_history s = history_from s (records_in s)

-- ---- `last_lines`

pub end_none : (t : Session) (next : ℕ) (tail : List ℕ) → (length tail == 0) ≡ true → end_of t next tail ≡ closing_of t
unfolding end_of
end_none t next [] h = refl
end_none t next (b ∷ tail) h = let e : length (b ∷ tail) ≡ 0 = eqb-true _ _ h in absurd (omega arith)

pub end_some : (t : Session) (next : ℕ) (tail : List ℕ) {answer : Outcome (ℤ × ℤ)} {after : Session} → (length tail == 0) ≡ false →
    answer ≡ feed_of t tail size → after ≡ session_after t (feed_of t tail size) → end_of t next tail ≡ line_of next answer ++ closing_of after
unfolding end_of
end_some t next [] h a s = cc
end_some t next (b ∷ tail) h a s = rw (a, s)
