-- The runs of a torn file in its list: what is listed is read again, and no number passes the longest file.
use mathlib.Core.List.{List, [], ◌∷◌}
use mathlib.Core.Path.{◌≡◌, refl, ap, ◌∙◌}
use Prim.Native.Nat.{ℕ, ◌+◌, ◌/◌, ◌^◌, ◌≤◌, ◌<◌}
use native.Mathlib.Omega.{arith}
use lib.ListN.{length, length-append}
use Rattle.little_endian.proofs.Wholes.{whole_least}
use Rattle.std.specs.List.{All}
use Rattle.std.proofs.lemmas.List.Elements.{All-nil, All-cons, All-head, All-tail}
use Rattle.torn.specs.Parts.{Part, taken, skipped, runs_from, runs_of, parts_of, back_of}
use Rattle.torn.specs.Pieces.{most, list_of}
use Rattle.torn.proofs.Laws.{put_back}
use Rattle.torn.proofs.Listed.{list_long}
use Rattle.listing.specs.Inside.{first_runs, runs_in, Short}

short_from : (at : ℕ) (ps : List Part) → at + length (back_of ps) ≤ most → All Short (runs_from at ps)
unfolding runs_from back_of
short_from at [] h = All-nil Short
short_from at (taken r ∷ ps) h = short_from (at + length r) ps (omega (arith, length-append r (back_of ps)))
short_from at (skipped run ∷ ps) h =
    let l = length-append run (back_of ps) in
    All-cons Short _ _ (record { place = omega arith; long = omega arith }) (short_from (at + length run) ps (omega arith))

-- runs lie in their file
pub all_short : (s : List ℕ) → length s ≤ most → All Short (runs_of s)
all_short s h = short_from 0 (parts_of s) (rw (put_back s) (omega arith))

-- numbers of 4 bytes are read again
first_back : (runs : List (ℕ × ℕ)) → All Short runs → first_runs (length runs) (list_of runs) ≡ runs
unfolding list_of first_runs
first_back [] h = refl
first_back (run ∷ runs) h =
    let short : Short run = All-head Short run runs h in
    let place : run.0 < 256 ^ 4 = omega arith in
    let long : run.1 < 256 ^ 4 = omega arith in
    rw (first_back runs (All-tail Short run runs h), whole_least 4 run.0 place, whole_least 4 run.1 long)

pub read_back : (runs : List (ℕ × ℕ)) → All Short runs → runs_in (list_of runs) ≡ runs
read_back runs h =
    let n : length (list_of runs) / 8 ≡ length runs = omega (arith, list_long runs) in
    ap (λ (count : ℕ). first_runs count (list_of runs)) n ∙ first_back runs h
