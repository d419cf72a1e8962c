-- The angles in a text, in numbers: which digits are degrees, minutes, seconds and hundredths.
use mathlib.Core.Path.{◌≡◌}
use mathlib.Core.List.{List}
use Prim.Native.Nat.{ℕ, suc, ◌+◌, ◌-◌, ◌*◌, ◌≤◌}
use native.Mathlib.Omega.{arith}
use lib.ListN.{length, get_or}
use Rattle.digits.specs.Digits.{value_from, value_of}
use Rattle.iso6709.specs.Part.{bytes_at}
use Rattle.iso6709.proofs.Numbers.{bytes_listed}

-- the number of two digits, and of three
pub value_two : (text : List ℕ) (at : ℕ) → at + 2 ≤ length text →
    value_of (bytes_at text at 2) ≡ (get_or text at 0 - 48) * 10 + (get_or text (suc at) 0 - 48)
unfolding value_from
value_two text at h = rw (bytes_listed text at 2 h) (omega arith)

pub value_three : (text : List ℕ) (at : ℕ) → at + 3 ≤ length text →
    value_of (bytes_at text at 3) ≡ (get_or text at 0 - 48) * 100 + ((get_or text (suc at) 0 - 48) * 10 + (get_or text (suc (suc at)) 0 - 48))
unfolding value_from
value_three text at h = rw (bytes_listed text at 3 h) (omega arith)
