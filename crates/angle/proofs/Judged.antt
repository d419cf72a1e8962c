-- What the tests of a call say of what it was handed.
use mathlib.Core.Path.{◌≡◌, sym, ap, ◌∙◌}
use mathlib.Core.Bool.{Bool, false}
use Prim.Native.Nat.{ℕ, ◌≤◌}
use borrow.Author.Tests.{ltb-false}
use lib.IntN.{ℤ, nat_abs}
use mir.Syntax.{w32}
use mir.Val.{SFits, to_z, of_z}
use mir.Facts.{to_z-of_z}
use Rattle.whole.specs.declared.Signed.{Signed}
use Rattle.whole.specs.Signed.{split_of, join_of}
use Rattle.whole.proofs.Signs.{join_split, nat_abs_join}
use Rattle.angle.specs.Angle.{outside}

-- a number taken apart is that number
pub number_is : {z : ℤ} (s : Signed) → SFits w32 z → s ≡ split_of (to_z w32 (of_z w32 z)) → join_of s ≡ z
number_is {z} s f e = ap join_of e ∙ join_split (to_z w32 (of_z w32 z)) ∙ to_z-of_z f

pub size_is : {z : ℤ} (s : Signed) → join_of s ≡ z → s.size ≡ nat_abs z
size_is s e = sym (nat_abs_join s) ∙ ap nat_abs e

-- a number that is not outside a limit
pub within : (n : ℕ) (s : Signed) (b : Bool) → b ≡ outside n (join_of s) → b ≡ false → s.size ≤ n
within n s b e f = rw (nat_abs_join s) at (ltb-false n (nat_abs (join_of s)) (sym e ∙ f))
