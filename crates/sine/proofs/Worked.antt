-- The entries as the code works them out, by seven coefficients: the table's, if a test that is computed over all places passes.
use mathlib.Core.Path.{◌≡◌}
use Prim.Native.Nat.{ℕ, suc, ◌+◌, ◌-◌, ◌*◌, ◌/◌, ◌≤◌}
use native.Mathlib.Omega.{arith}
use lib.Dec.{T}
use lib.ListN.{get_or}
use Rattle.whole.proofs.Everywhere.{agreeing, agree_at}
use Rattle.sine.specs.Table.{entry_of, table, last_place}
use Rattle.sine.proofs.Entries.{table_at}

-- what `less` gives
abbrev less_of : ℕ → ℕ → ℕ → ℕ
less_of c v s = c - s * v / 33554432

module _ (c₀ c₁ c₂ c₃ c₄ c₅ c₆ : ℕ) where
  unfoldable pub worked : ℕ → ℕ
  worked i =
      let v : ℕ = i * i in
      (less_of c₀ v (less_of c₁ v (less_of c₂ v (less_of c₃ v (less_of c₄ v (less_of c₅ v c₆))))) * i + 2097152) / 4194304

  pub worked_is : T (agreeing worked entry_of (suc last_place)) → (i : ℕ) → i ≤ last_place → worked i ≡ get_or table i 0
  worked_is t i h = rw (table_at i h) (agree_at worked entry_of (suc last_place) t i (omega arith))
