-- Lemmas that the pages name, and on which no function's proof rests.
use mathlib.Core.Bool.{Bool, true, false, not, cond}
use mathlib.Core.List.{List, [], ◌∷◌, ◌++◌, append_assoc}
use mathlib.Core.Path.{◌≡◌, refl, sym, ap, ◌∙◌}
use Prim.Native.Nat.{ℕ, zero, suc, ◌+◌, ◌*◌, ◌/◌, ◌%◌, ◌^◌, ◌≤◌, ◌<◌, min}
use native.Mathlib.Nat.{lt_of_not-le}
use native.Mathlib.Omega.{arith}
use borrow.Author.Tests.{le-leb, lt-leb, leb-true, leb-false, ltb-false, not-false}
use lib.Dec.{T, leb}
use lib.IntN.{ℤ, nat_abs}
use lib.ListN.{length, set, take, drop}
use lib.Pow.{pow_pos}
use lib.Ieee as Ieee
use lib.Ieee.{binary64, of_bits}
use lib.Ieee.Exact.{HasValue}
use lib.Ieee.Scale.{finite}
use Rattle.std.specs.Prelude.{Float}
use Rattle.std.proofs.Math.Seq.{sets-eq}
use Rattle.whole.specs.Signed.{with_sign}
use Rattle.whole.proofs.Signs.{on_sign}
use Rattle.angle.specs.Angle.{H, outside}
use Rattle.refusal.specs.Outcome.{Outcome, refused, given, unless}
use Rattle.refusal.specs.Number.{done}
use Rattle.little_endian.specs.Whole.{least_bytes}
use Rattle.little_endian.proofs.Wholes.{least_four}
use Rattle.parallel.specs.Table.{row_of}
use Rattle.parallel.specs.Parallel.{half_width}
use Rattle.parallel.specs.Latitude.{y_of}
use Rattle.parallel.specs.Refusal.{is_kind, bad_kind}
use Rattle.parallel.specs.Answer.{at_latitude}
use Rattle.parallel.proofs.Rows.{columns}
use Rattle.parallel.proofs.Widths.{width_small}
use Rattle.parallel.proofs.Orders.{Passes, unless_number}
use Rattle.parallel.proofs.Answers.{Small}
use Rattle.projection.specs.Forward.{place_of}
use Rattle.projection.specs.Inverse.{position_of}
use Rattle.projection.specs.Answer.{row_order}
use Rattle.reading.specs.Held.{most, held}
use Rattle.reading.specs.Reading.{read_of, centiseconds, units}
use Rattle.reading.proofs.Floats.{read_of_lem, size_read, subnormal, normal, bits_back}
use Rattle.degrees.specs.Refusal.{bad_central, bad_longitude, bad_latitude}
use Rattle.degrees.specs.Answer.{written_place, written_position, forward_of, inverse_of}
use Rattle.degrees.proofs.Judged.{Finite}
use Rattle.record.specs.Answer.{pair_of, record_order, judged_of, output_after}
use Rattle.record.proofs.Orders.{pair_numbers}
use Rattle.session.specs.declared.Session.{Session}
use Rattle.session.specs.Session.{is_counted, one_refused, session_after, Counts}
use Rattle.uldaseong.specs.Status.{status_of}

-- two tests that pass together
pub same_test : (a b c d : ℕ) → (a ≤ b → c ≤ d) → (c ≤ d → a ≤ b) → leb a b ≡ leb c d
same_test a b c d f g = go (leb a b) refl
  where
    go : (t : Bool) → leb a b ≡ t → leb a b ≡ leb c d
    go true e = e ∙ sym (le-leb c d (f (leb-true a b e)))
    go false e = e ∙ sym (lt-leb c d (lt_of_not-le (λ h. let k = g h in let l = leb-false a b e in omega arith)))

-- four bytes that are written, one after the other
pub stores : (l : List ℕ) (at n : ℕ) → at + 4 ≤ length l → n < 4294967296 →
    set (set (set (set l at (n % 256)) (at + 1) (n / 256 % 256)) (at + 2) (n / 65536 % 256)) (at + 3) (n / 16777216)
    ≡ take at l ++ (least_bytes 4 n ++ drop (at + 4) l)
stores l at n h k =
    let one : at + 1 ≡ suc at = omega arith in
    let two : at + 2 ≡ suc (suc at) = omega arith in
    let three : at + 3 ≡ suc (suc (suc at)) = omega arith in
    let bytes : List ℕ = n % 256 ∷ n / 256 % 256 ∷ n / 65536 % 256 ∷ n / 16777216 ∷ [] in
    rw (one, two, three) (sets-eq bytes l at h)
    ∙ append_assoc (take at l) bytes (drop (at + 4) l)
    ∙ ap (λ (four : List ℕ). take at l ++ (four ++ drop (at + 4) l)) (least_four n k)

-- the half-width of a parallel that is answered is below 5 N
pub at_latitude_small : (kind : ℕ) (latitude : ℤ) → Small (at_latitude kind latitude)
unfolding at_latitude unless
at_latitude_small kind latitude = go (not (is_kind kind)) (outside H latitude) refl refl
  where
    answer : ℕ × ℤ
    answer = (half_width (row_of kind) (nat_abs latitude), y_of (row_of kind) latitude)

    go : (b d : Bool) → not (is_kind kind) ≡ b → outside H latitude ≡ d → Small (cond b (refused 1) (cond d (refused 5) (given answer)))
    go true d k h = tt
    go false true k h = tt
    go false false k h =
        width_small (row_of kind) (nat_abs latitude)
        (record {
          columns = columns kind (rw (not-false (is_kind kind) k) tt);
          latitude = ltb-false H (nat_abs latitude) h;
        })

-- past 1, 2 and 3, floats are judged by 4 and 5
pub forward_rest : (kind : ℕ) (central longitude latitude : Float) → Passes (bad_kind kind) → Finite central longitude latitude →
    Passes (bad_central central) →
    unless (bad_longitude longitude ∷ bad_latitude latitude ∷ [])
    (written_place (place_of (row_of kind) (centiseconds central) (centiseconds longitude) (centiseconds latitude)))
    ≡ forward_of kind central longitude latitude
unfolding forward_of unless
forward_rest kind central longitude latitude k h c = rw (k, h.first, h.second, h.third, c)

-- and past them the row judges a place
pub inverse_row : (kind : ℕ) (central x y : Float) → Passes (bad_kind kind) → Finite central x y → Passes (bad_central central) →
    unless (row_order (row_of kind) (units x) (units y))
    (written_position (position_of (row_of kind) (centiseconds central) (units x) (units y)))
    ≡ inverse_of kind central x y
unfolding inverse_of unless
inverse_row kind central x y k h c = rw (k, h.first, h.second, h.third, c)

-- a number that is held has the sign of the float's pattern
pub with_its_sign : (k : ℕ) (x : Float) {n : ℕ} → Ieee.fits binary64 x ≡ true → finite x ≡ true →
    n ≡ min most (nat_abs (read_of k (of_bits binary64 (Ieee.to_bits binary64 x)))) →
    with_sign (leb (2 ^ 63) (Ieee.to_bits binary64 x)) n ≡ held (read_of k x)
with_its_sign k x {n} f h e = go (Ieee.to_bits binary64 x % 2 ^ 63 / 2 ^ 52) refl
  where
    from : (a : ℕ) → HasValue (of_bits binary64 (Ieee.to_bits binary64 x)) (leb (2 ^ 63) (Ieee.to_bits binary64 x)) a (2 ^ 1074) →
        with_sign (leb (2 ^ 63) (Ieee.to_bits binary64 x)) n ≡ held (read_of k x)
    from a v =
        let b = Ieee.to_bits binary64 x in
        let s = leb (2 ^ 63) b in
        let p = pow_pos 1074 in
        ap (with_sign s) (e ∙ ap (min most) (size_read k (of_bits binary64 b) s a (2 ^ 1074) p v))
        ∙ sym (on_sign (min most) refl s _)
        ∙ ap held (sym (read_of_lem k (of_bits binary64 b) s a (2 ^ 1074) p v))
        ∙ ap (λ (y : Float). held (read_of k y)) (bits_back x f)

    go : (j : ℕ) → Ieee.to_bits binary64 x % 2 ^ 63 / 2 ^ 52 ≡ j →
        with_sign (leb (2 ^ 63) (Ieee.to_bits binary64 x)) n ≡ held (read_of k x)
    go zero d = from (Ieee.to_bits binary64 x % 2 ^ 52 * 2 ^ 0) (subnormal (Ieee.to_bits binary64 x) d)
    go (suc j) d =
        from ((2 ^ 52 + Ieee.to_bits binary64 x % 2 ^ 52) * 2 ^ j)
        (normal (Ieee.to_bits binary64 x) j d (ap finite (bits_back x f) ∙ h))

-- what the output piece holds after a refusal
pub kept : (input output : List ℕ) {answer : Outcome (ℤ × ℤ)} (n : ℕ) → refused n ≡ answer → output ≡ output_after input output answer
unfolding output_after
kept input output n e = rw (sym e)

-- a record's own refusals are counted, and a counted refusal adds one
abbrev Counted : ℕ → Type 0
Counted n = T (is_counted n)

pub judged_counts : (bytes : List ℕ) → Counts (judged_of bytes)
unfolding judged_of
judged_counts bytes =
    unless_number Counted (record_order bytes) (pair_of bytes) (tt, (tt, pair_numbers Counted bytes tt tt tt tt tt tt tt tt))

pub one_refused_lem : (session : Session) (n : ℕ) → T (is_counted n) → one_refused session ≡ session_after session (refused n)
unfolding session_after
one_refused_lem session n h = go (is_counted n) h
  where
    go : (b : Bool) → T b → one_refused session ≡ cond b (one_refused session) session
    go true k = refl
    go false k = absurd k

-- an answer that only says that it is done has the status of what was answered
pub note_status_lem : {A : Type 0} (outcome : Outcome A) → status_of (done outcome) ≡ status_of outcome
note_status_lem (given a) = refl
note_status_lem (refused n) = refl
