-- What is held, in 32 bits, of a number that is read. The contracts of this crate cite it; no answer of forward or inverse
-- shows it, since every row ends far below.
use Rattle.std.specs.Prelude.{ℕ, min, ℤ}
use Rattle.whole.specs.Signed.{on_size}

abbrev pub most : ℕ
most = 2147483647

-- the number, or the farthest on its side of 0
abbrev pub held : ℤ → ℤ
held z = on_size (min most) z
