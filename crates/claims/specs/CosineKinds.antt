-- Kinds 11 and 12, the Sinusoidal and Eckert V, in order 5's words.
use Rattle.std.specs.Prelude.{◌≡◌, List, [], ◌∷◌, map, ℕ, ◌+◌, ◌-◌, ◌*◌, ◌^◌, ◌<◌, pos}
use Rattle.whole.specs.Nearest.{nearest}
use Rattle.angle.specs.Angle.{per_degree}
use Rattle.sine.specs.Series.{one, pi}
use Rattle.sine.specs.Sine.{cosine_of}
use Rattle.parallel.specs.Table.{row_of}
use Rattle.parallel.specs.Parallel.{half_width}
use Rattle.refusal.specs.Outcome.{refused, given}
use Rattle.projection.specs.Answer.{inverse_of}

abbrev pub square : ℕ → ℕ
square n = n * n

-- the next number of 20 decimals, which the true pi is below
abbrev pub above_pi : ℕ
above_pi = pi + 10 ^ 4

-- k is nearest to c pi 10^8, c being 2 over the root of (pi + 2): 2 k - 1 < 4 pi 10^8 / √(pi + 2) < 2 k + 1, squared and times
-- (pi + 2), with the worse of pi and the next number on each side
pub record NearestFactor (k : ℕ) : Type 0 where
  pub above : square (2 * k - 1) * ((above_pi + 2 * one) * one) < square (4 * 10 ^ 8 * pi)
  pub below : square (4 * 10 ^ 8 * above_pi) < square (2 * k + 1) * ((pi + 2 * one) * one)

-- the half-widths of a kind at 0, 30, 45, 60, 72, 89 and 90 degrees
abbrev pub widths_of : ℕ → List ℕ
widths_of kind = map (λ (d : ℕ). half_width (row_of kind) (d * per_degree)) (0 ∷ 30 ∷ 45 ∷ 60 ∷ 72 ∷ 89 ∷ 90 ∷ [])

pub record CosineKinds : Type 0 where
  -- KX and KY of kind 11 are as for kind 1, and W is nearest to KX cos / 10^9
  pub sinusoidal_kx : (row_of 11).kx ≡ (row_of 1).kx
  pub sinusoidal_ky : (row_of 11).ky ≡ (row_of 1).ky
  pub sinusoidal : (p : ℕ) → half_width (row_of 11) p ≡ nearest (314159265 * cosine_of p) 1000000000
  -- KX and KY of kind 12 are nearest to c pi 10^8, and W is nearest to KX (10^9 + cos) / (2 times 10^9)
  pub eckert_kx : NearestFactor (row_of 12).kx
  pub eckert_ky : NearestFactor (row_of 12).ky
  pub eckert : (p : ℕ) → half_width (row_of 12) p ≡ nearest (277096497 * (1000000000 + cosine_of p)) 2000000000
  -- worked, as P1 to P12 are; the pole of kind 11 is a point
  pub sinusoidal_widths : widths_of 11 ≡ 314159265 ∷ 272069904 ∷ 222144147 ∷ 157079632 ∷ 97080552 ∷ 5482835 ∷ 0 ∷ []
  pub eckert_widths : widths_of 12 ≡ 277096497 ∷ 258534551 ∷ 236516655 ∷ 207822373 ∷ 181362012 ∷ 140966249 ∷ 138548248 ∷ []
  pub pole_accepted : inverse_of 11 (pos 0) (pos 0) (pos 157079632) ≡ given (pos 0, pos 32400000)
  pub pole_refused : inverse_of 11 (pos 0) (pos 1) (pos 157079632) ≡ refused 7
