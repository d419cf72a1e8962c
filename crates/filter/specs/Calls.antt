-- What a write answers, and what it does to the bytes that a writer holds, where these are known.
use Rattle.std.specs.Prelude.{ℕ, ◌<◌, List, take, length, Option, Result, MatchResult}
use Rattle.std.specs.Io.KnownBytes.{Appends}

-- all is written, or a part of it, and never all, where a write failed
abbrev pub Sent : {E : Type 0} → Result (Unit {0}) E → Option (List ℕ) → Option (List ℕ) → List ℕ → Type 0
Sent r old new bytes = MatchResult r (λ _. Appends old new bytes) (λ _. (k : ℕ) × (k < length bytes) × Appends old new (take k bytes))
