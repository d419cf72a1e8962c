-- The house sine never falls and is at most one; past 90 degrees it stays.
use mathlib.Core.Path.{◌≡◌, refl, ◌∙◌, subst}
use mathlib.Core.Logic.{◌⊎◌, inl, inr}
use Prim.Native.Nat.{ℕ, suc, ◌+◌, ◌*◌, ◌-◌, ◌/◌, ◌%◌, ◌<◌, ◌≤◌, min}
use native.Mathlib.Nat.{eq-or-lt_of_le}
use native.Mathlib.Omega.{arith}
use lib.ListN.{get_or}
use Rattle.whole.proofs.Everywhere.{climbs}
use Rattle.angle.specs.Angle.{H}
use Rattle.sine.specs.Table.{entry_of, table, last_place}
use Rattle.sine.specs.Sine.{minute, billion, line, sine_of, cosine_of}
use Rattle.sine.proofs.Lines.{mixed_mono}
use Rattle.sine.proofs.Entries.{table_at, first_entry, last_entry, entries_mono}

-- the table ends at 90 degrees
pub quarter_is : minute * last_place ≡ H
quarter_is = refl

-- up to 90 degrees
inside : ℕ → ℕ
inside c = line (c / minute) (c % minute)

start : (i : ℕ) → line i 0 ≡ get_or table i 0
unfolding line
start i = omega arith

-- the end of a line is the start of the next
end : (i : ℕ) → line i minute ≡ line (suc i) 0
unfolding line
end i = omega arith

-- at the places of the table
line_is : (i f : ℕ) → i < last_place → line i f ≡ (entry_of i * (minute - f) + entry_of (suc i) * f) / minute
unfolding line
line_is i f h = rw (table_at i (omega arith), table_at (suc i) h)

rises : (i f : ℕ) → i < last_place → f < minute → line i f ≤ line i (suc f)
rises i f h l =
    let m = mixed_mono minute (entry_of i) (entry_of (suc i)) {f = f} {g = suc f} (entries_mono (omega arith) h) (omega arith) l in
    rw (line_is i f h, line_is i (suc f) h) (omega arith)

step : (c : ℕ) → c < H → inside c ≤ inside (suc c)
unfolding inside
step c h = go (eq-or-lt_of_le l)
  where
    l : suc (c % minute) ≤ minute
    l = omega arith

    r : line (c / minute) (c % minute) ≤ line (c / minute) (suc (c % minute))
    r = rises (c / minute) (c % minute) (omega arith) l

    go : (suc (c % minute) ≡ minute) ⊎ (suc (c % minute) < minute) →
        line (c / minute) (c % minute) ≤ line (suc c / minute) (suc c % minute)
    go (inl e) =
        let i : suc c / minute ≡ suc (c / minute) = omega arith in
        let f : suc c % minute ≡ 0 = omega arith in
        rw (i, f, ← end (c / minute)) (subst (λ (x : ℕ). line (c / minute) (c % minute) ≤ line (c / minute) x) e r)
    go (inr m) =
        let i : suc c / minute ≡ c / minute = omega arith in
        let f : suc c % minute ≡ suc (c % minute) = omega arith in
        rw (i, f) r

pub sine_mono : {c d : ℕ} → c ≤ d → sine_of c ≤ sine_of d
unfolding sine_of inside
sine_mono {c} {d} h = climbs inside H step (min d H) (omega arith) (omega arith)

pub sine_first : sine_of 0 ≡ 0
unfolding sine_of
sine_first = start 0 ∙ table_at 0 (omega arith) ∙ first_entry

pub sine_last : (c : ℕ) → H ≤ c → sine_of c ≡ billion
unfolding sine_of
sine_last c h =
    let e : min c H ≡ H = omega arith in
    rw e (start last_place ∙ table_at last_place (omega arith) ∙ last_entry)

pub sine_le : (c : ℕ) → sine_of c ≤ billion
sine_le c = rw (← sine_last (c + H) (omega arith)) (sine_mono (omega arith))

-- the cosine falls from one at the Equator to 0 at a pole
pub cosine_mono : {p o : ℕ} → p ≤ o → cosine_of o ≤ cosine_of p
unfolding cosine_of
cosine_mono h = sine_mono (omega arith)

pub cosine_le : (p : ℕ) → cosine_of p ≤ billion
unfolding cosine_of
cosine_le p = sine_le (H - p)
