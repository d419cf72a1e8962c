-- The customer's demands, and what document 01 says of a session's history.
use Rattle.claims.specs.Demand1.{Demand1}
use Rattle.claims.specs.Demand2.{Demand2}
use Rattle.claims.specs.Demand3.{Demand3, numbers, floats}
use Rattle.claims.specs.RecordLaws.{RecordLaws, converting, feeding}
use Rattle.claims.specs.Histories.{Histories}

pub record Demands : Type 0 where
  pub refusals : Demand1
  pub half_widths : Demand2
  -- demand 3 on whole numbers, on floats, and on records by convert_record and by feed
  pub laws_of_numbers : Demand3 numbers
  pub laws_of_floats : Demand3 floats
  pub laws_of_convert_record : RecordLaws converting
  pub laws_of_feed : RecordLaws feeding
  pub histories : Histories
