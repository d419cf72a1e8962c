-- Positions and texts return: what is written is read again, and what is read is written again.
use mathlib.Core.Path.{◌≡◌, refl, sym, ap, ap₂, ◌∙◌}
use mathlib.Core.Bool.{Bool, true, false, cond, true≢false, false≢true}
use mathlib.Core.List.{List}
use Prim.Native.Nat.{ℕ, zero, suc, ◌+◌, ◌^◌, ◌≤◌, ◌<◌}
use native.Mathlib.Omega.{arith}
use borrow.Author.Tests.{eqb-true, ne_eqb, ltb-false, le-ltb, not-false}
use lib.Dec.{eqb}
use lib.IntN.{ℤ, pos, negsuc, nat_abs}
use lib.ListN.{length, get_or}
use lib.Seq.{take_all}
use Rattle.whole.specs.declared.Signed.{Signed}
use Rattle.whole.specs.Signed.{split_of, with_sign, join_of}
use Rattle.whole.proofs.Signs.{join_split}
use Rattle.whole.proofs.Tests.{both}
use Rattle.angle.specs.Angle.{N, H}
use Rattle.digits.specs.Digits.{AllDigits, last_digits, value_of}
use Rattle.digits.proofs.Values.{last_digit, value_last, last_value}
use Rattle.refusal.specs.Outcome.{given, unless}
use Rattle.parallel.specs.Refusal.{bad_latitude}
use Rattle.parallel.proofs.Orders.{Passes, passes, all_pass}
use Rattle.projection.specs.Refusal.{bad_longitude}
use Rattle.angle.specs.declared.sexagesimal.Sexagesimal.{Sexagesimal}
use Rattle.angle.specs.Sexagesimal.{sexagesimal_of, signed_of, below_sixty}
use Rattle.angle.proofs.Judged.{size_is}
use Rattle.angle.proofs.Sexagesimals.{signed_back, sexagesimal_back, sixty_below}
use Rattle.shape.specs.Shape.{plus, minus, is_sign, shape, stand, size}
use Rattle.iso6709.specs.Part.{bytes_at, part_at, sign_of, part_of}
use Rattle.iso6709.specs.Refusal.{bad_length, bad_shape, bad_sixties, is_minus_zero, bad_zero}
use Rattle.iso6709.specs.Answer.{latitude_in, longitude_in, position_of, angles_of, both_of, text_of, read_of, write_of}
use Rattle.shape.proofs.Standing.{long}
use Rattle.shape.proofs.Words.{signs_at, points_at, slash_at}
use Rattle.iso6709.proofs.Numbers.{listed, bytes_listed, bytes_long, has_latitude, has_longitude, narrow}

-- ---- sign and size, degrees and minutes

pub split_join : (s : Signed) → is_minus_zero s ≡ false → split_of (join_of s) ≡ s
split_join s e = go s.negative s.size e
  where
    go : (b : Bool) (n : ℕ) → cond b (eqb n 0) false ≡ false → split_of (with_sign b n) ≡ record { negative = b; size = n }
    go false n h = refl
    go true zero h = absurd (true≢false h)
    go true (suc n) h = refl

-- neither of two
neither : (a b : Bool) → cond a true b ≡ false → (a ≡ false) × (b ≡ false)
neither true b e = absurd (true≢false e)
neither false b e = (refl, e)

split_good : (z : ℤ) → is_minus_zero (split_of z) ≡ false
split_good (pos n) = refl
split_good (negsuc n) = ne_eqb (suc n) 0 (λ e. omega arith)

-- ---- a position's text

sign_stands : (b : Bool) → is_sign (sign_of b) ≡ true
sign_stands true = refl
sign_stands false = refl

both_stand : (longitude latitude : Sexagesimal) → stand shape (both_of longitude latitude) ≡ true
unfolding shape stand both_of part_of last_digits
both_stand longitude latitude = rw (sign_stands longitude.negative, sign_stands latitude.negative) (simp last_digit)

sign_back : (b : Bool) → eqb (sign_of b) minus ≡ b
sign_back true = refl
sign_back false = refl

-- what the digits of an angle stand for is that angle
digits_back : (width : ℕ) (t : Sexagesimal) → t.degrees < 10 ^ width → t.minutes < 100 → t.seconds < 100 → t.hundredths < 100 →
    record {
      negative = eqb (sign_of t.negative) minus;
      degrees = value_of (last_digits width t.degrees);
      minutes = value_of (last_digits 2 t.minutes);
      seconds = value_of (last_digits 2 t.seconds);
      hundredths = value_of (last_digits 2 t.hundredths);
    }
    ≡ t
digits_back width t d m s h =
    rw (sign_back t.negative, value_last width t.degrees d, value_last 2 t.minutes m, value_last 2 t.seconds s, value_last 2 t.hundredths h)

-- the angles of a text are those that were written
module _ (longitude latitude : Signed) where
  abbrev text : List ℕ
  text = both_of (sexagesimal_of longitude) (sexagesimal_of latitude)

  latitude_back : latitude.size ≤ H → latitude_in text ≡ sexagesimal_of latitude
  unfolding part_at both_of part_of last_digits
  latitude_back h = digits_back 2 (sexagesimal_of latitude) (omega arith) (omega arith) (omega arith) (omega arith)

  longitude_back : longitude.size ≤ N → longitude_in text ≡ sexagesimal_of longitude
  unfolding part_at both_of part_of last_digits
  longitude_back h = digits_back 3 (sexagesimal_of longitude) (omega arith) (omega arith) (omega arith) (omega arith)

-- what reading answers, step by step, where nothing is refused
read_angles : (text : List ℕ) → stand shape text ≡ true → read_of text ≡ angles_of (longitude_in text) (latitude_in text)
unfolding read_of angles_of unless
read_angles text st = rw (long text st, st)

angles_position : (longitude latitude : Sexagesimal) → below_sixty longitude ≡ true → below_sixty latitude ≡ true →
    angles_of longitude latitude ≡ position_of (signed_of longitude) (signed_of latitude)
unfolding angles_of position_of unless
angles_position longitude latitude e n = rw (e, n)

position_given : (longitude latitude : ℤ) → nat_abs latitude ≤ H → nat_abs longitude ≤ N →
    position_of (split_of longitude) (split_of latitude) ≡ given (longitude, latitude)
unfolding position_of unless
position_given longitude latitude hn he =
    rw (split_good latitude, split_good longitude, join_split latitude, join_split longitude, le-ltb H (nat_abs latitude) hn, le-ltb N (nat_abs longitude) he)

pub has_text : (longitude latitude : ℤ) → nat_abs latitude ≤ H → nat_abs longitude ≤ N →
    read_of (text_of longitude latitude) ≡ given (longitude, latitude)
has_text longitude latitude hn he =
    let e = split_of longitude in
    let n = split_of latitude in
    let e' = sexagesimal_of e in
    let n' = sexagesimal_of n in
    read_angles (text_of longitude latitude) (both_stand e' n')
    ∙ ap₂ angles_of (longitude_back e n (omega (arith, size_is e (join_split longitude)))) (latitude_back e n (omega (arith, size_is n (join_split latitude))))
    ∙ angles_position e' n' (sixty_below e) (sixty_below n)
    ∙ ap₂ position_of (signed_back e) (signed_back n)
    ∙ position_given longitude latitude hn he

pub position_returns : (longitude latitude : ℤ) (text : List ℕ) → write_of longitude latitude size ≡ given text →
    read_of text ≡ given (longitude, latitude)
unfolding write_of
position_returns longitude latitude text w =
    let p = passes (bad_length size) _ _ text w in
    let q = passes (bad_latitude latitude) _ _ text p.1 in
    let r = passes (bad_longitude longitude) _ _ text q.1 in
    rw (← all_pass _ text r.1)
    (has_text longitude latitude (ltb-false H (nat_abs latitude) q.0) (ltb-false N (nat_abs longitude) r.0))

-- ---- a text's position

-- digits that were read are written again
digits_again : (text : List ℕ) (at count : ℕ) → at + count ≤ length text → AllDigits (bytes_at text at count) →
    last_digits count (value_of (bytes_at text at count)) ≡ listed text at count
digits_again text at count h a =
    rw (bytes_long text at count h) at (last_value (bytes_at text at count) a) ∙ bytes_listed text at count h

sign_again : (byte : ℕ) → is_sign byte ≡ true → sign_of (eqb byte minus) ≡ byte
sign_again byte e = go (eqb byte plus) refl (eqb byte minus) refl e
  where
    go : (p : Bool) → eqb byte plus ≡ p → (m : Bool) → eqb byte minus ≡ m → cond p true m ≡ true → sign_of m ≡ byte
    go p e true d k = sym (eqb-true byte minus d)
    go true e false d k = sym (eqb-true byte plus e)
    go false e false d k = absurd (false≢true k)

module _ (text : List ℕ) (st : stand shape text ≡ true) where
  again : (at count : ℕ) → at + count ≤ 22 → AllDigits (bytes_at text at count) →
      last_digits count (value_of (bytes_at text at count)) ≡ listed text at count
  again at count h a = digits_again text at count (rw (long text st) h) a

  -- the text byte by byte
  whole : listed text 0 22 ≡ text
  whole =
      let h : 22 ≤ length text = omega (arith, long text st) in
      sym (bytes_listed text 0 22 h) ∙ take_all 22 text (omega (arith, long text st))

  both_again : both_of (longitude_in text) (latitude_in text) ≡ text
  unfolding shape both_of part_at part_of
  both_again =
      let n = has_latitude text st in
      let e = has_longitude text st in
      rw (
        again 1 2 (omega arith) n.degrees,
        again 3 2 (omega arith) n.minutes,
        again 5 2 (omega arith) n.seconds,
        again 8 2 (omega arith) n.hundredths,
        again 11 3 (omega arith) e.degrees,
        again 14 2 (omega arith) e.minutes,
        again 16 2 (omega arith) e.seconds,
        again 19 2 (omega arith) e.hundredths,
        sign_again (get_or text 0 0) (signs_at text st).0,
        sign_again (get_or text 10 0) (signs_at text st).1,
      )
      (rw ((points_at text st).0, (points_at text st).1, slash_at text st) at whole)

-- the angle of a number that is no minus zero, and whose minutes and seconds are below 60, is the one that was read
angle_again : (z : ℤ) (t : Sexagesimal) → join_of (signed_of t) ≡ z → is_minus_zero (signed_of t) ≡ false → below_sixty t ≡ true →
    t.hundredths < 100 → sexagesimal_of (split_of z) ≡ t
angle_again z t j o s h = ap sexagesimal_of (ap split_of (sym j) ∙ split_join (signed_of t) o) ∙ sexagesimal_back t s h

write_given : (longitude latitude : ℤ) → Passes (bad_latitude latitude) → Passes (bad_longitude longitude) →
    write_of longitude latitude size ≡ given (text_of longitude latitude)
unfolding write_of unless
write_given longitude latitude n e = rw (n, e)

pub text_returns : (longitude latitude : ℤ) (text : List ℕ) → read_of text ≡ given (longitude, latitude) →
    write_of longitude latitude size ≡ given text
unfolding read_of
text_returns longitude latitude text w =
    let e = longitude_in text in
    let n = latitude_in text in
    let p12 = passes (bad_length (length text)) _ _ _ w in
    let p13 = passes (bad_shape text) _ _ _ p12.1 in
    let p14 = passes (bad_sixties e n) _ _ _ p13.1 in
    let p15 = passes (bad_zero (signed_of e) (signed_of n)) _ _ _ p14.1 in
    let p5 = passes (bad_latitude (join_of (signed_of n))) _ _ _ p15.1 in
    let p4 = passes (bad_longitude (join_of (signed_of e))) _ _ _ p5.1 in
    let z : ◌≡◌ {A = ℤ × ℤ} (join_of (signed_of e), join_of (signed_of n)) (longitude, latitude) = all_pass _ _ p4.1 in
    let ze : join_of (signed_of e) ≡ longitude = ap (λ (q : ℤ × ℤ). q.0) z in
    let zn : join_of (signed_of n) ≡ latitude = ap (λ (q : ℤ × ℤ). q.1) z in
    let st = not-false (stand shape text) p13.0 in
    let b = both (below_sixty n) (below_sixty e) (not-false _ p14.0) in
    let m = neither (is_minus_zero (signed_of n)) (is_minus_zero (signed_of e)) p15.0 in
    let t : text_of longitude latitude ≡ text =
    ap₂ both_of (angle_again longitude e ze m.1 b.1 (narrow text 10 3 (has_longitude text st)).hundredths)
    (angle_again latitude n zn m.0 b.0 (narrow text 0 2 (has_latitude text st)).hundredths)
    ∙ both_again text st in
    write_given longitude latitude (rw zn at p5.0) (rw ze at p4.0) ∙ ap given t

pub one_text : (position : ℤ × ℤ) (text other : List ℕ) → read_of text ≡ given position → read_of other ≡ given position → text ≡ other
one_text position text other e d =
    let a = text_returns position.0 position.1 text e in
    let b = text_returns position.0 position.1 other d in
    cc

pub text_long : (longitude latitude : ℤ) → length (text_of longitude latitude) ≡ size
text_long longitude latitude =
    let e = sexagesimal_of (split_of longitude) in
    let n = sexagesimal_of (split_of latitude) in
    long (text_of longitude latitude) (both_stand e n)
