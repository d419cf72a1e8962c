-- Worked records of order 2.
use Rattle.std.specs.Prelude.{List, [], ◌∷◌, ◌++◌, ◌≡◌, ℕ, ℤ, pos}
use Rattle.parallel.specs.Table.{neg}
use Rattle.refusal.specs.Outcome.{given}
use Rattle.projection.specs.Answer.{forward_of, inverse_of}
use Rattle.record.specs.Record.{place, record_of}
use Rattle.reprojection.specs.Reprojected.{reprojected}
use Rattle.reprojection.specs.All.{reprojected_all}

-- the record of a place, by its kind, central meridian, x and y
abbrev pub at : ℕ → ℤ → ℤ → ℤ → List ℕ
at kind central x y = record_of kind place central x y

-- kind 3, 60 degrees east and 45 north about Greenwich, before and after
abbrev pub stored : List ℕ
stored = 0x4D ∷ 0xD2 ∷ 0x03 ∷ 0x01 ∷ 0x00 ∷ 0x00 ∷ 0x00 ∷ 0x00 ∷ 0xB2 ∷ 0xA2 ∷ 0x54 ∷ 0x05 ∷ 0x05 ∷ 0x72 ∷ 0x6F ∷ 0x04 ∷ []

abbrev pub made : List ℕ
made = 0x4D ∷ 0xD2 ∷ 0x03 ∷ 0x01 ∷ 0x00 ∷ 0x00 ∷ 0x00 ∷ 0x00 ∷ 0x07 ∷ 0x58 ∷ 0xBF ∷ 0x04 ∷ 0x05 ∷ 0x72 ∷ 0x6F ∷ 0x04 ∷ []

pub record ReprojectionExamples : Type 0 where
  pub stored_is : at 3 (pos 0) (pos 89432754) (pos 74412549) ≡ stored
  pub made_is : at 3 (pos 0) (pos 79648775) (pos 74412549) ≡ made
  pub once_3 : reprojected stored ≡ made
  -- the two places of kind 4 are the same two, the other way round
  pub once_4 : reprojected (at 4 (pos 0) (pos 79648775) (pos 74412549)) ≡ at 4 (pos 0) (pos 89432754) (pos 74412549)
  -- the new place is the position's
  pub forward : forward_of 3 (pos 0) (pos 21600000) (pos 16200000) ≡ given (pos 79648775, pos 74412549)
  pub back : inverse_of 3 (pos 0) (pos 79648775) (pos 74412549) ≡ given (pos 21600000, pos 16200000)
  -- a second run takes new places for old ones: the position is another then
  pub again : reprojected made ≡ at 3 (pos 0) (pos 70935166) (pos 74412549)
  pub astray : inverse_of 3 (pos 0) (pos 70935166) (pos 74412549) ≡ given (pos 19236951, pos 16200000)
  -- the pole of kind 3 was a line and is a point: its end comes out where its middle does
  pub pole_end : reprojected (at 3 (pos 0) (pos 148825098) (pos 148825098)) ≡ at 3 (pos 0) (pos 0) (pos 148825098)
  pub pole_middle : reprojected (at 3 (pos 0) (pos 0) (pos 148825098)) ≡ at 3 (pos 0) (pos 0) (pos 148825098)
  -- a place that no position had comes out where its neighbour does
  pub between : reprojected (at 3 (pos 0) (pos 1) (pos 0)) ≡ at 3 (pos 0) (pos 0) (pos 0)
  pub beside : reprojected (at 3 (pos 0) (pos 0) (pos 0)) ≡ at 3 (pos 0) (pos 0) (pos 0)
  -- 180 degrees east of a central meridian that is not 0, a place comes out on the map's other edge
  pub other_edge : reprojected (at 3 (pos 64800000) (pos 297650196) (pos 0)) ≡ at 3 (pos 64800000) (neg 297650196) (pos 0)
  -- runs of bytes: none, and two records with a tail
  pub empty : reprojected_all [] ≡ []
  pub torn : reprojected_all (stored ++ stored ++ (0x4D ∷ 0xD2 ∷ 0x03 ∷ [])) ≡ made ++ made ++ (0x4D ∷ 0xD2 ∷ 0x03 ∷ [])
