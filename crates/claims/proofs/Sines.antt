-- The house sine is order 5's.
use mathlib.Core.Path.{◌≡◌, refl, ◌∙◌}
use Prim.Native.Nat.{ℕ, suc, ◌+◌, ◌*◌, ◌-◌, ◌/◌, ◌%◌, ◌^◌, ◌≤◌, ◌<◌, min}
use native.Mathlib.Nat.{le_trans, div-add-mod', mod-lt, mul_comm, mul-pos}
use native.Mathlib.Omega.{arith}
use lib.Dec.{lit<}
use Rattle.whole.specs.Nearest.{nearest, carry}
use Rattle.angle.specs.Angle.{H}
use Rattle.sine.specs.Series.{angle, next, alternating, series}
use Rattle.sine.specs.Table.{entry_of}
use Rattle.sine.specs.Sine.{line, sine_of, cosine_of}
use Rattle.sine.proofs.Terms.{taken, last}
use Rattle.sine.proofs.Entries.{table_at, table_length, first_entry, last_entry, entries_mono}
use Rattle.sine.proofs.Sines.{quarter_is, sine_first, sine_last, sine_mono, sine_le}
use Rattle.claims.specs.HouseSine.{IsFloor, entry_at, term_of, HouseSine}

floor : (n d : ℕ) → 0 < d → IsFloor n d (n / d)
floor n d h =
    let e = div-add-mod' n d in
    let m = mod-lt n h in
    let c = mul_comm d (n / d) in
    record { low = omega arith; high = omega arith }

angles : (i : ℕ) → IsFloor (3141592653589793238460000 * i) 10800 (angle i)
unfolding angle
angles i = floor (3141592653589793238460000 * i) 10800 (omega arith)

terms : (a n t : ℕ) → IsFloor (t * (a * a)) (10 ^ 24 * 10 ^ 24 * ((n + 1) * (n + 2))) (next a n t)
unfolding next
terms a n t =
    let d = 10 ^ 24 * 10 ^ 24 * ((n + 1) * (n + 2)) in
    floor (t * (a * a)) d (mul-pos (lit< tt) (mul-pos (omega arith) (omega arith)))

cut : (a : ℕ) → a ≤ 2 * 10 ^ 24 →
    series a + (term_of a 1 + term_of a 3 + term_of a 5 + term_of a 7 + term_of a 9)
    ≡ term_of a 0 + term_of a 2 + term_of a 4 + term_of a 6 + term_of a 8 + term_of a 10
unfolding series term_of
cut a h =
    omega (
      arith,
      taken 9 a 1 (term_of a 0) h (omega arith),
      taken 8 a 3 (term_of a 1) h (omega arith),
      taken 7 a 5 (term_of a 2) h (omega arith),
      taken 6 a 7 (term_of a 3) h (omega arith),
      taken 5 a 9 (term_of a 4) h (omega arith),
      taken 4 a 11 (term_of a 5) h (omega arith),
      taken 3 a 13 (term_of a 6) h (omega arith),
      taken 2 a 15 (term_of a 7) h (omega arith),
      taken 1 a 17 (term_of a 8) h (omega arith),
      taken 0 a 19 (term_of a 9) h (omega arith),
      last a 21 (term_of a 10),
    )

entry : (i : ℕ) → i ≤ 5400 → entry_at i ≡ nearest (series (angle i)) (10 ^ 15)
unfolding entry_of
entry i h = table_at i h

on_line : (i f : ℕ) → i < 5400 → f < 6000 → IsFloor (entry_at i * (6000 - f) + entry_at (suc i) * f) 6000 (sine_of (6000 * i + f))
unfolding sine_of line
on_line i f h l =
    let m : min (6000 * i + f) H ≡ 6000 * i + f = omega arith in
    let q : (6000 * i + f) / 6000 ≡ i = omega arith in
    let r : (6000 * i + f) % 6000 ≡ f = omega arith in
    rw (m, q, r) (record { low = omega arith; high = omega arith })

cosine_is : (p : ℕ) → cosine_of p ≡ sine_of (H - p)
unfolding cosine_of
cosine_is p = refl

cosine_half : cosine_of 21600000 ≡ 500000000
unfolding cosine_of sine_of line entry_of series alternating next angle nearest carry
cosine_half = rw (table_at 1800 (omega arith), table_at 1801 (omega arith)) refl

cosine_most : cosine_of 0 ≡ 1000000000
unfolding cosine_of
cosine_most = sine_last H (omega arith)

cosine_least : cosine_of 32400000 ≡ 0
unfolding cosine_of
cosine_least = sine_first

pub house_sine : HouseSine
house_sine =
    record {
      angles = angles;
      terms = terms;
      cut = cut;
      entries = table_length;
      entry = entry;
      first_entry = table_at 0 (omega arith) ∙ first_entry;
      last_entry = table_at 5400 (omega arith) ∙ last_entry;
      entries_rise = λ i j h l. rw (table_at i (le_trans h l), table_at j l) (entries_mono h l);
      sixtieth = refl;
      quarter = quarter_is;
      line = on_line;
      right_angle = sine_last H (omega arith);
      sine_rises = λ c d h. sine_mono h;
      sine_most = sine_le;
      cosine = cosine_is;
      cosine_most = cosine_most;
      cosine_half = cosine_half;
      cosine_least = cosine_least;
    }
