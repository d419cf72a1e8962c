-- Kinds 11 and 12 are order 5's.
use mathlib.Core.Path.{◌≡◌, refl, ap, ◌∙◌}
use Prim.Native.Nat.{ℕ, ◌+◌, ◌*◌}
use native.Mathlib.Omega.{arith}
use lib.Dec.{lit<}
use lib.IntN.{pos}
use Rattle.whole.specs.Nearest.{nearest, carry}
use Rattle.whole.proofs.Rounding.{nearest_same}
use Rattle.sine.specs.Series.{angle, next, alternating, series}
use Rattle.sine.specs.Table.{entry_of, entries_from, table}
use Rattle.sine.specs.Sine.{billion, line, sine_of, cosine_of}
use Rattle.parallel.specs.Table.{rows, row_of}
use Rattle.parallel.specs.Parallel.{radicand, q_by, q_at, one_by, one_of, numerator, half_width, height}
use Rattle.parallel.specs.Latitude.{latitude_size, latitude_at, width_at}
use Rattle.refusal.specs.Outcome.{unless}
use Rattle.parallel.specs.Refusal.{is_kind}
use Rattle.parallel.specs.Columns.{combined}
use Rattle.parallel.proofs.Widths.{combined_is}
use Rattle.projection.specs.Longitude.{wrap}
use Rattle.projection.specs.Inverse.{difference_at, position_of}
use Rattle.projection.specs.Answer.{inverse_of}
use Rattle.claims.specs.CosineKinds.{CosineKinds}

-- 2 q, and D + q, of the two rows
twice : (q : ℕ) → combined (pos 0) billion (pos 2) q ≡ 2 * q
twice q = omega (arith, combined_is (pos 0) billion (pos 2) q (omega arith))

added : (q : ℕ) → combined (pos 1) billion (pos 1) q ≡ billion + q
added q = omega (arith, combined_is (pos 1) billion (pos 1) q (omega arith))

sinusoidal : (p : ℕ) → half_width (row_of 11) p ≡ nearest (314159265 * cosine_of p) 1000000000
unfolding half_width numerator one_of one_by q_at q_by row_of rows combined
sinusoidal p =
    let q = cosine_of p in
    ap (λ (n : ℕ). nearest (314159265 * n) (2 * billion)) (twice q)
    ∙ nearest_same (314159265 * (2 * q)) (2 * billion) (314159265 * q) billion (omega arith) (omega arith) (omega arith)

eckert : (p : ℕ) → half_width (row_of 12) p ≡ nearest (277096497 * (1000000000 + cosine_of p)) 2000000000
unfolding half_width numerator one_of one_by q_at q_by row_of rows combined
eckert p = ap (λ (n : ℕ). nearest (277096497 * n) (2 * billion)) (added (cosine_of p))

pub cosine_kinds : CosineKinds
unfolding inverse_of unless is_kind position_of latitude_at latitude_size width_at difference_at height wrap row_of rows half_width
    numerator one_of one_by q_at q_by radicand cosine_of sine_of line table entries_from entry_of series alternating next angle nearest carry
cosine_kinds =
    record {
      sinusoidal_kx = refl;
      sinusoidal_ky = refl;
      sinusoidal = sinusoidal;
      eckert_kx = record { above = lit< tt; below = lit< tt };
      eckert_ky = record { above = lit< tt; below = lit< tt };
      eckert = eckert;
      sinusoidal_widths = refl;
      eckert_widths = refl;
      pole_accepted = refl;
      pole_refused = refl;
    }
