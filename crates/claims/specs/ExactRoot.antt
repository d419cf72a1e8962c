-- Orders of whole numbers with multiples of an exact square root, by comparing squares.
use Rattle.std.specs.Prelude.{ℕ, suc, ◌*◌, ◌<◌, ℤ, pos, negsuc, neg_ℤ, ◌-ℤ◌}

-- u < y √s, by the signs of u and y
abbrev pub BelowRoot : ℤ → ℤ → ℕ → Type 0
BelowRoot (pos u) (pos y) s = u * u < y * y * s
BelowRoot (negsuc u) (pos y) s = Unit {0}
BelowRoot (pos u) (negsuc y) s = ⊥
BelowRoot (negsuc u) (negsuc y) s = suc y * suc y * s < suc u * suc u

-- y √s is less than m away from g: g - m < y √s, and -g - m < -y √s
abbrev pub NearRoot : ℤ → ℕ → ℤ → ℕ → Type 0
NearRoot y s g m = BelowRoot (g -ℤ pos m) y s × BelowRoot (neg_ℤ g -ℤ pos m) (neg_ℤ y) s
