-- Kinds 3 and 4, Putniņš P1 and Wagner VI, in order 2's words: what was exchanged, and their poles.
use Rattle.std.specs.Prelude.{◌≡◌, ℕ, pos}
use Rattle.parallel.specs.declared.table.Method.TheVariants.{Root}
use Rattle.parallel.specs.Table.{row, neg, row_of}
use Rattle.refusal.specs.Outcome.{refused, given}
use Rattle.parallel.specs.Answer.{width_of}
use Rattle.projection.specs.Answer.{inverse_of}
use Rattle.reprojection.specs.Retired.{retired_row}

-- a kind has KX, a and b of the row that another had, and the rest of the row that it had itself
pub record Exchanges (kind other : ℕ) : Type 0 where
  pub kx_new : (row_of kind).kx ≡ (retired_row other).kx
  pub a_new : (row_of kind).a ≡ (retired_row other).a
  pub b_new : (row_of kind).b ≡ (retired_row other).b
  pub ky_same : (row_of kind).ky ≡ (retired_row kind).ky
  pub e_same : (row_of kind).e ≡ (retired_row kind).e
  pub method_same : (row_of kind).method ≡ (retired_row kind).method

pub record Exchange : Type 0 where
  pub exchanged_3 : Exchanges 3 4
  pub exchanged_4 : Exchanges 4 3
  -- the rows that they had are those of document 01's table
  pub retired_3 : retired_row 3 ≡ row 297650196 297650196 (pos 0) (pos 2) (neg 3) Root
  pub retired_4 : retired_row 4 ≡ row 595300392 297650196 (neg 1) (pos 2) (neg 3) Root
  -- worked, as P1 to P12 are: kind 3 has pole half-width 0, kind 4 has 148825098; both have 297650196 at the Equator
  pub pole_3 : (width_of 3 (pos 32400000) ≡ given 0) × (width_of 3 (neg 32400000) ≡ given 0)
  pub pole_4 : (width_of 4 (pos 32400000) ≡ given 148825098) × (width_of 4 (neg 32400000) ≡ given 148825098)
  pub equator : (width_of 3 (pos 0) ≡ given 297650196) × (width_of 4 (pos 0) ≡ given 297650196)
  -- so kind 3's pole is a point, and kind 4's a line
  pub point : (inverse_of 3 (pos 0) (pos 0) (pos 148825098) ≡ given (pos 0, pos 32400000))
      × (inverse_of 3 (pos 0) (pos 1) (pos 148825098) ≡ refused 7)
  pub line : (inverse_of 4 (pos 0) (pos 148825098) (pos 148825098) ≡ given (pos 64800000, pos 32400000))
      × (inverse_of 4 (pos 0) (pos 148825099) (pos 148825098) ≡ refused 7)
  -- two parallels of kind 3, on either side of 64,800,000
  pub wide : width_of 3 (pos 29678553) ≡ given 64800007
  pub narrow : width_of 3 (pos 29678554) ≡ given 64799986
