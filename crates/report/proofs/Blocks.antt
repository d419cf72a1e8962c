-- The records of a run of bytes: one record more, and blocks one after the other.
use mathlib.Core.Path.{◌≡◌, refl, sym, ap, ◌∙◌}
use mathlib.Core.Bool.{true, and-eq-true_iff}
use mathlib.Core.List.{List, ◌++◌, append_assoc, append-nil}
use Prim.Native.Nat.{ℕ, zero, suc, ◌+◌, ◌-◌, ◌*◌, ◌≤◌, ◌<◌}
use native.Mathlib.Nat.{add-zero, add-suc, add_assoc, zero-add}
use native.Mathlib.Numerals.{add-one}
use native.Mathlib.Omega.{arith}
use borrow.Author.Tests.{leb-true, le-leb}
use lib.Dec.{leb}
use lib.IntN.{ℤ}
use lib.ListN.{length, take, drop, length-append, length-drop}
use lib.Seq.{take_at, drop_at, drop-drop}
use Rattle.refusal.specs.Outcome.{Outcome}
use Rattle.record.specs.Record.{size}
use Rattle.record.specs.Records.{record_at, records_in}
use Rattle.session.specs.declared.Session.{Session}
use Rattle.session.specs.Session.{feed_of, session_after}
use Rattle.digits.specs.Put.{Put}
use Rattle.lines.specs.Line.{line_of, line_room}
use Rattle.digits.proofs.Puts.{put_nothing}
use Rattle.lines.proofs.Buffers.{put_behind}
use Rattle.report.specs.Block.{answer_at, session_at, lines_of, most_number, lines_fit, block_fits, SessionsCompose, LinesCompose}

-- ---- lines that fit

pub room_of : (next count room : ℕ) → lines_fit next count room ≡ true → (line_room * count ≤ room) × (next + count ≤ most_number)
room_of next count room e =
    let b = (and-eq-true_iff (leb (line_room * count) room) (leb (next + count) most_number)).0 e in
    (leb-true (line_room * count) room b.0, leb-true (next + count) most_number b.1)

pub lines_do_fit : (next count room : ℕ) → line_room * count ≤ room → next + count ≤ most_number → lines_fit next count room ≡ true
lines_do_fit next count room h k = rw (le-leb (line_room * count) room h, le-leb (next + count) most_number k)

-- ---- one record after the other

-- i records are fed, and their lines stand at the front of a text; the rest of the bytes is to follow
pub record State (t : Session) (next : ℕ) (s l : List ℕ) (state : Session) (end : ℕ) (l' output rest : List ℕ) (i : ℕ) : Type 0 where
  pub fits : block_fits next s l ≡ true
  pub behind : rest ≡ drop (size * i) s
  pub within : size * i ≤ length s
  pub piece : length output ≡ size
  pub bound : end ≤ line_room * i
  pub kept : length l' ≡ length l
  pub session : state ≡ session_at t s 0 i
  pub lines : Put l 0 (lines_of t next s 0 i) end l'

pub begin : (t : Session) (next : ℕ) (s l output rest : List ℕ) (i : ℕ) → block_fits next s l ≡ true → rest ≡ s → i ≡ 0 → length output ≡ size →
    State t next s l t 0 l output rest i
unfolding session_at lines_of
begin t next s l output rest i h e z p =
    rw (z, e) (record {
      fits = h;
      behind = refl;
      within = omega arith;
      piece = p;
      bound = omega arith;
      kept = refl;
      session = refl;
      lines = put_nothing l 0;
    })

module _ {t : Session} {next : ℕ} {s l : List ℕ} {state : Session} {end : ℕ} {l' output rest : List ℕ} {i : ℕ}
    (h : State t next s l state end l' output rest i) where
  rest_long : length rest ≡ length s - size * i
  rest_long = ap length h.behind ∙ length-drop (size * i) s

  -- there are a record's number and the room for its line
  pub ready : (r more : List ℕ) → rest ≡ r ++ more → length r ≡ size → (next + i ≤ most_number) × (end + line_room ≤ length l')
  ready r more e k =
      let room = room_of next (records_in s) (length l) h.fits in
      let n : length rest ≡ size + length more = rw (e, length-append r more, k) refl in
      let less : i < records_in s = omega (arith, n, rest_long, h.within) in
      (omega (arith, less, room.1), omega (arith, less, room.0, h.bound, h.kept))

  pub turn : (r more : List ℕ) {answer : Outcome (ℤ × ℤ)} {after : Session} {end' : ℕ} {l'' output' : List ℕ} → rest ≡ r ++ more → length r ≡ size →
      answer ≡ feed_of state r (length output) → after ≡ session_after state (feed_of state r (length output)) →
      Put l' end (line_of (next + i) answer) end' l'' → end' ≤ end + line_room → length l'' ≡ length l' → length output' ≡ length output →
      State t next s l after end' l'' output' more (i + 1)
  unfolding session_at lines_of answer_at record_at
  turn r more {answer} {after} e k heard made put b long p =
      let u : Session = session_at t s 0 i in
      let n : length rest ≡ size + length more = rw (e, length-append r more, k) refl in
      let is : r ≡ record_at s i = sym (ap (take size) (sym h.behind ∙ e) ∙ take_at r more size k) in
      let left : more ≡ drop (size * i + size) s = sym (sym (drop-drop size (size * i) s) ∙ ap (drop size) (sym h.behind ∙ e) ∙ drop_at r more size k) in
      let next_place : size * (i + 1) ≡ size * i + size = omega arith in
      let heard' : answer ≡ feed_of u (record_at s i) size = heard ∙ rw (h.session, is, h.piece) in
      let made' : after ≡ session_after u (feed_of u (record_at s i) size) = made ∙ rw (h.session, is, h.piece) in
      record {
        fits = h.fits;
        behind = rw next_place left;
        within = omega (arith, n, rest_long, h.within);
        piece = p ∙ h.piece;
        bound = omega (arith, b, h.bound);
        kept = long ∙ h.kept;
        session = rw (add-one i, zero-add i) made';
        lines = rw (add-one i, zero-add i) (put_behind h.lines (rw heard' at put));
      }

  -- all records are fed
  pub finish : length rest < size → i ≡ records_in s
  finish less = omega (arith, less, rest_long, h.within)

-- ---- blocks compose

pub sessions_compose : SessionsCompose
unfolding session_at
sessions_compose t s first a zero = rw (add-zero a)
sessions_compose t s first a (suc b) = rw (add-suc a b, sessions_compose t s first a b, add_assoc first a b)

pub lines_compose : LinesCompose
unfolding lines_of
lines_compose t next s first a zero = rw (add-zero a) (sym (append-nil (lines_of t next s first a)))
lines_compose t next s first a (suc b) =
    rw (add-suc a b, lines_compose t next s first a b, sessions_compose t s first a b, add_assoc first a b)
    (append_assoc (lines_of t next s first a) (lines_of (session_at t s first a) next s (first + a) b) _)

-- ---- the same records give the same session and the same lines

module _ (t : Session) (s s' : List ℕ) (first first' : ℕ) where
  abbrev pub Same : ℕ → Type 0
  Same count = (i : ℕ) → i < count → record_at s (first + i) ≡ record_at s' (first' + i)

  pub same_session : (count : ℕ) → Same count → session_at t s first count ≡ session_at t s' first' count
  unfolding session_at answer_at
  same_session zero same = refl
  same_session (suc count) same = rw (same_session count (λ i h. same i (omega arith)), same count (omega arith))

  -- and the same numbers
  pub same_lines : (next next' : ℕ) → next + first ≡ next' + first' → (count : ℕ) → Same count →
      lines_of t next s first count ≡ lines_of t next' s' first' count
  unfolding lines_of answer_at
  same_lines next next' e zero same = refl
  same_lines next next' e (suc count) same =
      let less : Same count = λ i h. same i (omega arith) in
      let n : next + (first + count) ≡ next' + (first' + count) = omega arith in
      rw (same_lines next next' e count less, same_session count less, same count (omega arith), n)
