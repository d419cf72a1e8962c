-- How long the taken records are.
use mathlib.Core.List.{List}
use mathlib.Core.Path.{◌≡◌, refl}
use Prim.Native.Nat.{ℕ, ◌*◌, ◌≤◌}
use native.Mathlib.Omega.{arith}
use lib.ListN.{length, take, length-append, length-take, length-drop}
use Rattle.record.specs.Record.{size}
use Rattle.record.proofs.Orders.{convertible_length}
use Rattle.torn.specs.Parts.{Part, parts_of, taken_in, taken_of, closed_up}
use Rattle.torn.proofs.Laws.{by_turns, taken_skip}

-- 16 bytes each, and no more than were read
record Long (s : List ℕ) (ps : List Part) : Type 0 where
  each : length (closed_up (taken_in ps)) ≡ size * length (taken_in ps)
  all : length (closed_up (taken_in ps)) ≤ length s

long : (s : List ℕ) → Long s (parts_of s)
unfolding taken_in closed_up
long =
    by_turns Long (record { each = refl; all = omega arith })
    (λ s ps e h.
    let n = convertible_length (take size s) e in
    let l = length-append (take size s) (closed_up (taken_in ps)) in
    record { each = omega (arith, h.each); all = omega (arith, h.all, length-take size s, length-drop size s) })
    (λ b s ps e h. let t = taken_skip b ps in record { each = rw t h.each; all = rw t (omega (arith, h.all)) })

pub taken_long : (s : List ℕ) → length (closed_up (taken_of s)) ≡ size * length (taken_of s)
taken_long s = (long s).each

pub taken_fits : (s : List ℕ) → length (closed_up (taken_of s)) ≤ length s
taken_fits s = (long s).all
