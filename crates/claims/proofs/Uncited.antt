-- Lemmas that no other file cites.
use mathlib.Core.Bool.{Bool, beq, true, false, or-true, and-eq-true_iff}
use mathlib.Core.List.{List, [], ◌∷◌, ◌++◌}
use mathlib.Core.Path.{◌≡◌, refl, sym, ap, ◌∙◌}
use Prim.Native.Nat.{ℕ, zero, suc, ◌+◌, ◌-◌, ◌*◌, ◌/◌, ◌%◌, ◌^◌, ◌≤◌, ◌<◌}
use native.Mathlib.Nat.{le_of_lt, lt_of_le_of_lt, mod-lt, zero-mul, mul-zero, mul-pos, mul-le-mul, mul-le-mul_right, eq_of_mul-eq-mul_right}
use native.Mathlib.Omega.{arith}
use borrow.Author.Tests.{eqb-true, leb-true, leb-false}
use borrow.Rule.Slice.PartMut.{mid_len}
use lib.Dec.{leb, eqb, lit<}
use lib.IntN.{ℤ, pos, neg_ℤ, nat_abs, ◌+ℤ◌, ◌-ℤ◌, ◌*ℤ◌}
use lib.ListN.{length, get_or, take, drop}
use lib.Seq.{take-length}
use lib.Pow.{pow_pos}
use lib.Ieee as Ieee
use lib.Ieee.{Float, nan, inf, fin, binary64, up, down, of_bits, round}
use lib.Ieee.Fits.{down_pos}
use lib.Ieee.Exact.{HasValue, round_exact}
use lib.Ieee.Scale.{finite}
use mir.Syntax.{Width}
use mir.Val.{SFits, hbits}
use Rattle.std.specs.Prelude.{Option, None}
use Rattle.std.specs.List.{All}
use Rattle.std.proofs.lemmas.List.Elements.{All-head, All-tail}
use Rattle.whole.specs.Nearest.{nearest}
use Rattle.whole.specs.declared.Signed.{Signed}
use Rattle.whole.specs.Signed.{with_sign, join_of, plus, minus, nearest_signed}
use Rattle.whole.proofs.Signs.{nat_abs_neg, sum, less, ext, size_on, nearest_right, fits}
use Rattle.digits.specs.Digits.{last_digits}
use Rattle.digits.specs.Put.{put_front, Put}
use Rattle.digits.proofs.Puts.{put_long}
use Rattle.angle.specs.Angle.{N, per_degree}
use Rattle.angle.specs.declared.sexagesimal.Sexagesimal.{Sexagesimal}
use Rattle.sine.specs.Table.{table, last_place}
use Rattle.sine.specs.Sine.{billion}
use Rattle.sine.proofs.Entries.{table_at, last_entry, entries_mono}
use Rattle.sine.proofs.Lines.{mixed}
use Rattle.refusal.specs.Outcome.{Outcome, refused, given, on_given, and_then, unless}
use Rattle.parallel.specs.Table.{row_of}
use Rattle.parallel.specs.Refusal.{bad_kind, bad_latitude}
use Rattle.parallel.specs.Answer.{on_latitude, at_latitude, found_on, at_y}
use Rattle.parallel.proofs.Orders.{Passes}
use Rattle.projection.specs.Forward.{place_of}
use Rattle.projection.specs.Refusal.{bad_central, bad_longitude}
use Rattle.projection.specs.Answer.{forward_of, inverse_of}
use Rattle.projection.proofs.Orders.{place_on, position_on, forward_parallel as by_latitude, inverse_parallel as by_y}
use Rattle.reading.specs.Reading.{read_of}
use Rattle.reading.proofs.Floats.{read_of_lem, size_read, subnormal, normal}
use Rattle.record.specs.Record.{size}
use Rattle.little_endian.proofs.Wholes.{whole_least}
use Rattle.torn.specs.Pieces.{most, list_room, list_of, rooms_fit}
use Rattle.torn.specs.Answer.{salvage_of, records_after, list_after}
use Rattle.torn.specs.Inside.{Reads}
use Rattle.torn.proofs.Answers.{accepts}
use Rattle.lines.specs.Buffer.{Placed}
use Rattle.listing.specs.Inside.{first_runs, Short}
use Rattle.report.specs.Block.{lines_fit, most_number}
use Rattle.report.specs.Program.{end_room}
use Rattle.report.proofs.Blocks.{room_of}
use Rattle.jobs.specs.declared.Job.{Job}
use Rattle.jobs.specs.declared.Job.TheVariants.{Convert, Reproject, Salvage}
use Rattle.jobs.specs.Job.{worked_in, lines_room, room_for}

-- ---- signed numbers

-- what is left of a where b is taken away, by sign and size
pub less_east : (a b : ℕ) → b ≤ a → pos a -ℤ pos b ≡ with_sign false (a - b)
less_east a b h = ext (pos a -ℤ pos b) (pos (a - b)) (omega (arith, less (pos a) (pos b)))

-- a sum is what is added less what is taken away
pub by_parts : (x y : ℤ) → pos (plus x + plus y) -ℤ pos (minus x + minus y) ≡ x +ℤ y
by_parts x y =
    let a = plus x + plus y in
    let b = minus x + minus y in
    ext (pos a -ℤ pos b) (x +ℤ y) (omega (arith, less (pos a) (pos b), sum x y))

-- a size of fewer bits than the width, turned
pub turned_fits : (w : Width) {n : ℕ} → n < 2 ^ hbits w → SFits w (neg_ℤ (pos n))
turned_fits w {n} h = fits w (neg_ℤ (pos n)) (rw (nat_abs_neg (pos n)) h)

-- ---- the sine

pub entry_le : (i : ℕ) → i ≤ last_place → get_or table i 0 ≤ billion
entry_le i h = rw (table_at i h, ← last_entry) (entries_mono h (omega arith))

-- a straight line does not pass what neither end passes
pub mixed_le : (n a b m f : ℕ) → a ≤ m → b ≤ m → f ≤ n → mixed n a b f ≤ m * n
mixed_le n a b m f h k l =
    let s : n - f + f ≡ n = omega arith in
    let w : a * (n - f) + b * f ≤ m * (n - f + f) = omega (arith, mul-le-mul_right (n - f) h, mul-le-mul_right f k) in
    rw s at w

-- ---- floats

-- the sign of what is read is the pattern's
pub read_bits : (k b : ℕ) → finite (of_bits binary64 b) ≡ true →
    read_of k (of_bits binary64 b) ≡ with_sign (leb (2 ^ 63) b) (nat_abs (read_of k (of_bits binary64 b)))
read_bits k b f = go (b % 2 ^ 63 / 2 ^ 52) refl
  where
    from : (a : ℕ) → HasValue (of_bits binary64 b) (leb (2 ^ 63) b) a (2 ^ 1074) →
        read_of k (of_bits binary64 b) ≡ with_sign (leb (2 ^ 63) b) (nat_abs (read_of k (of_bits binary64 b)))
    from a v =
        let x = of_bits binary64 b in
        let s = leb (2 ^ 63) b in
        read_of_lem k x s a (2 ^ 1074) (pow_pos 1074) v ∙ ap (with_sign s) (sym (size_read k x s a (2 ^ 1074) (pow_pos 1074) v))

    go : (j : ℕ) → b % 2 ^ 63 / 2 ^ 52 ≡ j →
        read_of k (of_bits binary64 b) ≡ with_sign (leb (2 ^ 63) b) (nat_abs (read_of k (of_bits binary64 b)))
    go zero e = from (b % 2 ^ 52 * 2 ^ 0) (subnormal b e)
    go (suc j) e = from ((2 ^ 52 + b % 2 ^ 52) * 2 ^ j) (normal b j e f)

-- 0 times a float is 0 where the float is finite, and a NaN elsewhere
is_zero : (y : Float) (s : Bool) (c : ℕ) → 0 < c → HasValue y s 0 c → Ieee.eq y (fin false 0 (pos 0)) ≡ true
unfolding Ieee.eq
is_zero nan s c h v = absurd v
is_zero (inf t) s c h v = absurd v
is_zero (fin t m e) s c h v =
    let z : m * up e ≡ 0 = eq_of_mul-eq-mul_right c h (m * up e) 0 (v.1 ∙ zero-mul (down e) ∙ sym (zero-mul c)) in
    rw (z, zero-mul (down e)) (or-true (beq t false))

pub zero_times : (x : Float) → Ieee.eq (Ieee.mul binary64 x (of_bits binary64 0)) (of_bits binary64 0) ≡ finite x
unfolding Ieee.mul Ieee.eq of_bits
zero_times nan = refl
zero_times (inf true) = refl
zero_times (inf false) = refl
zero_times (fin s m e) =
    let t = Ieee.unlike s false in
    let d = mul-pos (down_pos e) (lit< tt) in
    rw (mul-zero (m * up e))
    (is_zero (round binary64 t 0 (down e * 1)) t (down e * 1) d
    (round_exact binary64 t 0 (down e * 1) 0 0 d (lit< tt) (lit< tt) (sym (zero-mul (down e * 1)))))

-- a product of digits that is worked out in two parts: the lower has 32 bits
pub low_fits : (q by : ℕ) → by ≤ per_degree → q % 4096 * by < 2 ^ 32
low_fits q by k = lt_of_le_of_lt (mul-le-mul (le_of_lt (mod-lt q (lit< tt))) k) (lit< tt)

-- ---- positions and places

pub forward_given : (kind : ℕ) (central longitude latitude : ℤ) → Passes (bad_kind kind) → Passes (bad_central central) →
    Passes (bad_longitude longitude) → Passes (bad_latitude latitude) →
    given (place_of (row_of kind) central longitude latitude) ≡ forward_of kind central longitude latitude
unfolding forward_of unless
forward_given kind central longitude latitude k c l f = rw (k, c, l, f)

-- past 1, 3 and 4, the parallel answers the rest, by the kind's number
pub forward_parallel : (kind : ℕ) (central longitude latitude : ℤ) → Passes (bad_kind kind) → Passes (bad_central central) →
    Passes (bad_longitude longitude) →
    on_given (place_on central longitude) (at_latitude kind latitude) ≡ forward_of kind central longitude latitude
unfolding at_latitude on_latitude unless
forward_parallel kind central longitude latitude k c l = rw k (by_latitude kind central longitude latitude k c l)

-- past 1 and 3, likewise
pub inverse_parallel : (kind : ℕ) (central x y : ℤ) → Passes (bad_kind kind) → Passes (bad_central central) →
    and_then (position_on central x) (at_y kind y) ≡ inverse_of kind central x y
unfolding at_y found_on unless
inverse_parallel kind central x y k c = rw k (by_y kind central x y k c)

-- the size of a number that is scaled back with its sign
pub unscaled_size : (s z : Signed) (w : ℕ) → join_of s ≡ nearest_signed (join_of z *ℤ pos N) w → s.size ≡ nearest (z.size * N) w
unscaled_size s z w e = size_on (λ (n : ℕ). nearest (n * N) w) s z (e ∙ nearest_right (join_of z) N w)

-- ---- a part of a text

-- minutes and seconds that are put keep its length
module _ (l l₁ : List ℕ) (at : ℕ) (angle : Sexagesimal) (room : at + 7 ≤ length l)
    (minutes : Put l at (last_digits 2 angle.minutes) (at + 2) l₁) where
  pub long₁ : length l₁ ≡ length l
  long₁ = put_long minutes (omega arith)

  pub long₂ : (l₂ : List ℕ) → Put l₁ (at + 2) (last_digits 2 angle.seconds) (at + 2 + 2) l₂ → length l₂ ≡ length l
  long₂ l₂ seconds = put_long seconds (omega (arith, long₁)) ∙ long₁

-- ---- a salvage

-- pieces that fit have these lengths
pub rooms_are : (input : List ℕ) (records list : ℕ) → rooms_fit (length input) records list ≡ true →
    (records ≡ length input) × (list ≡ list_room (length input))
rooms_are input records list k =
    let t = (and-eq-true_iff (eqb records (length input)) (eqb list (list_room (length input)))).0 k in
    (eqb-true records (length input) t.0, eqb-true list (list_room (length input)) t.1)

module _ (input records list : List ℕ) where
  abbrev answer : Outcome (ℕ × ℕ)
  answer = salvage_of input (length records) (length list)

  -- a refusal leaves both pieces
  pub refuses : (n : ℕ) → refused n ≡ answer →
      (refused n ≡ answer) × ((records ≡ records_after input records answer) × (list ≡ list_after input list answer))
  unfolding records_after list_after
  refuses n e = (e, (rw (← e), rw (← e)))

  -- what was read is the answer, and stands in the pieces
  pub reads : length input ≤ most → rooms_fit (length input) (length records) (length list) ≡ true → (r : ℕ × ℕ) (records' list' : List ℕ) →
      Reads input records list r records' list' →
      (given r ≡ answer) × ((records' ≡ records_after input records answer) × (list' ≡ list_after input list answer))
  unfolding records_after list_after
  reads h k r records' list' d =
      let t = rooms_are input (length records) (length list) k in
      let e = sym (accepts input (length records) (length list) h t.0 t.1) in
      (ap given d.counts ∙ e, (rw (← e) d.closed, rw (← e) d.listed))

-- ---- a list of runs

front_back : (runs : List (ℕ × ℕ)) (rest : List ℕ) → All Short runs → first_runs (length runs) (list_of runs ++ rest) ≡ runs
unfolding list_of first_runs
front_back [] rest h = refl
front_back (run ∷ runs) rest h =
    let short : Short run = All-head Short run runs h in
    let place : run.0 < 256 ^ 4 = omega arith in
    let long : run.1 < 256 ^ 4 = omega arith in
    rw (front_back runs rest (All-tail Short run runs h), whole_least 4 run.0 place, whole_least 4 run.1 long)

-- numbers of 4 bytes are read again, at any place and whatever stands behind them
pub read_back : (l : List ℕ) (at : ℕ) (runs : List (ℕ × ℕ)) (rest : List ℕ) → All Short runs → drop at l ≡ list_of runs ++ rest →
    first_runs (length runs) (drop at l) ≡ runs
read_back l at runs rest h e = rw e (front_back runs rest h)

-- ---- lines

-- text that is copied to the front of a buffer stands there
pub copied : (l text : List ℕ) {l' : List ℕ} → l' ≡ take (length text) text ++ drop (length text) l → l' ≡ put_front l text
unfolding put_front
copied l text e = rw (take-length text) at e

-- a buffer that is too short
pub was_too_short : (enough : Bool) {text l l' : List ℕ} {answer : Option ℕ} → Placed enough text l answer l' → answer ≡ None → enough ≡ false
was_too_short true {text} p e = cc
was_too_short false p e = refl

-- a part of a buffer, from a place up to e, that is too short has not the room
pub part_short : (room at e : ℕ) (l : List ℕ) {part text : List ℕ} {answer : Option ℕ} → e ≤ length l →
    Placed (leb room (length (take (e - at) (drop at l)))) text (take (e - at) (drop at l)) answer part → answer ≡ None →
    e - at < room
part_short room at e l h p a =
    let n : ℕ = length (take (e - at) (drop at l)) in
    omega (arith, leb-false room n (was_too_short (leb room n) p a), mid_len at e l h)

-- ---- jobs

rooms : (next n text : ℕ) → lines_room next n text ≡ true → (lines_fit next (n / size) text ≡ true) × (end_room ≤ text)
rooms next n text e =
    let r = (and-eq-true_iff (lines_fit next (n / size) text) (leb end_room text)).0 e in
    (r.0, leb-true end_room text r.1)

-- the number behind the last record has 64 bits
pub number_fits : (job : Job) (next n text : ℕ) → room_for job next n text ≡ true → next ≤ most_number → next + worked_in job n ≤ most_number
number_fits Convert next n text e h = (room_of next (n / size) text (rooms next n text e).0).1
number_fits Reproject next n text e h = (room_of next (n / size) text (rooms next n text e).0).1
number_fits Salvage next n text e h = omega (arith, h)
