-- The rows that kinds 3 and 4 had before KX, a and b of the two were exchanged, and a place sent back under a row.
use Rattle.std.specs.Prelude.{Bool, ◌||◌, List, [], ◌∷◌, ℕ, ◌-◌, eqb, ℤ, pos, get_or}
use Rattle.parallel.specs.declared.table.Row.{Row}
use Rattle.parallel.specs.declared.table.Method.TheVariants.{Root}
use Rattle.parallel.specs.Table.{row, neg, no_row}
use Rattle.refusal.specs.Outcome.{Rule, Outcome, unless}
use Rattle.projection.specs.Inverse.{position_of}
use Rattle.projection.specs.Refusal.{bad_central}
use Rattle.projection.specs.Answer.{row_order}

-- KX, KY, a, b, e, and how q is had, of kind 3 and of kind 4
unfoldable pub retired : List Row
retired =
    row 297650196 297650196 (pos 0) (pos 2) (neg 3) Root
    ∷ row 595300392 297650196 (neg 1) (pos 2) (neg 3) Root
    ∷ []

-- the two kinds
abbrev pub is_retired : ℕ → Bool
is_retired kind = eqb kind 3 || eqb kind 4

-- the row that kind 3 or 4 had; no other kind is asked for
unfoldable pub retired_row : ℕ → Row
retired_row kind = get_or retired (kind - 3) no_row

-- a place sent back under a row: refused by 3, 6, 18, 7 or 17, or its position
abbrev pub back_order : Row → ℤ → ℤ → ℤ → List Rule
back_order r central x y = bad_central central ∷ row_order r x y

unfoldable pub back_under : Row → ℤ → ℤ → ℤ → Outcome (ℤ × ℤ)
back_under r central x y = unless (back_order r central x y) (position_of r central x y)
