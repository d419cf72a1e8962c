-- Signed numbers: sign and size, positive and negative part, and rounding that is the same on both sides of 0.
use Rattle.std.specs.Prelude.{Bool, true, false, ℕ, suc, ℤ, pos, negsuc, neg_ℤ}
use Rattle.whole.specs.declared.Signed.{Signed}
use Rattle.whole.specs.Nearest.{nearest}

-- a number taken apart into its sign and its size
abbrev pub split_of : ℤ → Signed
split_of (pos n) = record { negative = false; size = n }
split_of (negsuc n) = record { negative = true; size = suc n }

-- the number of a sign and a size
abbrev pub with_sign : Bool → ℕ → ℤ
with_sign false n = pos n
with_sign true n = neg_ℤ (pos n)

abbrev pub join_of : Signed → ℤ
join_of s = with_sign s.negative s.size

-- the positive and the negative part
abbrev pub plus : ℤ → ℕ
plus (pos n) = n
plus (negsuc n) = 0

abbrev pub minus : ℤ → ℕ
minus (pos n) = 0
minus (negsuc n) = suc n

-- f of the size, with the sign kept
abbrev pub on_size : (ℕ → ℕ) → ℤ → ℤ
on_size f (pos n) = pos (f n)
on_size f (negsuc n) = neg_ℤ (pos (f (suc n)))

-- the whole number nearest to z / d, the same on both sides of 0
abbrev pub nearest_signed : ℤ → ℕ → ℤ
nearest_signed z d = on_size (λ (n : ℕ). nearest n d) z
