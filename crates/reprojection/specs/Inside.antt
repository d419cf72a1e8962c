-- What the functions inside the crate promise each other.
use Rattle.std.specs.Prelude.{true, ◌≡◌, ℕ}
use Rattle.parallel.specs.Table.{row_of}
use Rattle.parallel.specs.Refusal.{is_kind}
use Rattle.reprojection.specs.Retired.{retired_row}

-- `other` has the row now that `kind` had
pub record Formerly (kind other : ℕ) : Type 0 where
  pub row_is : row_of other ≡ retired_row kind
  pub is_kind_lem : is_kind other ≡ true
