-- What a salvage answers where the pieces have their rooms, and the listing that is made of its list.
use mathlib.Core.List.{List, ◌++◌, append_assoc}
use mathlib.Core.Path.{◌≡◌, refl, sym, ap, ◌∙◌}
use Prim.Native.Nat.{ℕ, ◌*◌, ◌/◌, ◌≤◌}
use native.Mathlib.Omega.{arith}
use lib.ListN.{length, take, drop, length-append}
use lib.Seq.{length-take-le, take_at}
use Rattle.std.specs.Prelude.{Result, Ok, Err, IsOk}
use Rattle.refusal.specs.declared.Refusal.{Refusal}
use Rattle.refusal.specs.Outcome.{Outcome, given}
use Rattle.refusal.specs.Number.{meaning}
use Rattle.digits.specs.Put.{put_front, Put}
use Rattle.torn.specs.Parts.{runs_of}
use Rattle.torn.specs.Pieces.{most, list_room, list_of}
use Rattle.torn.specs.Answer.{counts_of, salvage_of, list_after}
use Rattle.torn.proofs.Answers.{accepts}
use Rattle.torn.proofs.Laws.{runs_few}
use Rattle.torn.proofs.Listed.{list_long}
use Rattle.listing.specs.Listing.{run_lines, counts_line, listing_of, listing_room}
use Rattle.listing.specs.Inside.{runs_in, Lent, Rooms}
use Rattle.listing.proofs.Lists.{all_short, read_back}

-- a salvage's counts, and a list with its runs at the front
pub record Found (input list : List ℕ) (counts : ℕ × ℕ) : Type 0 where
  pub counted : counts ≡ counts_of input
  pub reaches : 8 * counts.1 ≤ length list
  pub front : take (8 * counts.1) list ≡ list_of (runs_of input)

-- ---- the answer

module _ {input records list text : List ℕ} {room : ℕ} (h : Rooms input records list text) (e : room ≡ list_room (length input)) where
  abbrev n : ℕ
  n = length input

  -- parts of the pieces, of the right lengths
  pub record_part : length (take n records) ≡ n
  record_part = length-take-le n records (omega (arith, h.short, h.taken))

  pub list_part : length (take room list) ≡ room
  list_part = length-take-le room list (omega (arith, h.short, h.listed))

  abbrev answer : Outcome (ℕ × ℕ)
  answer = salvage_of input (length (take n records)) (length (take room list))

  answer_is : answer ≡ given (counts_of input)
  answer_is = accepts input _ _ h.short record_part (list_part ∙ e)

  -- nothing is refused
  pub is_ok : (r : Result (ℕ × ℕ) Refusal) → meaning r ≡ answer → IsOk r
  is_ok (Ok counts) m = refl
  is_ok (Err refusal) m = let a = answer_is in absurd cc

  -- the counts, and the runs at the front of the whole list
  pub found : (r : Result (ℕ × ℕ) Refusal) {counts : ℕ × ℕ} {part : List ℕ} → meaning r ≡ answer →
      part ≡ list_after input (take room list) answer → r ≡ Ok counts → Found input (part ++ drop room list) counts
  unfolding list_after put_front
  found r {counts} {part} m l k =
      let a = answer_is in
      let c : ◌≡◌ {A = ℕ × ℕ} counts (counts_of input) = cc in
      let runs : List ℕ = list_of (runs_of input) in
      let long : length runs ≡ 8 * counts.1 = list_long (runs_of input) ∙ ap (λ (p : ℕ × ℕ). 8 * p.1) (sym c) in
      let whole : List ℕ = part ++ drop room list in
      let is : whole ≡ runs ++ (drop (length runs) (take room list) ++ drop room list) =
      rw (l, a) (append_assoc runs (drop (length runs) (take room list)) (drop room list)) in
      record {
        counted = c;
        reaches = omega (arith, long, ap length is, length-append runs (drop (length runs) (take room list) ++ drop room list));
        front = rw is (take_at runs _ (8 * counts.1) long);
      }

-- ---- the listing

module _ {input list : List ℕ} {counts : ℕ × ℕ} (f : Found input list counts) (h : length input ≤ most) where
  abbrev part : List ℕ
  part = take (8 * counts.1) list

  runs_are : runs_in part ≡ runs_of input
  runs_are = rw f.front (read_back (runs_of input) (all_short input h))

  part_long : length part ≡ 8 * length (runs_of input)
  part_long = ap length f.front ∙ list_long (runs_of input)

  -- the count has 64 bits
  pub counts_few : counts.1 ≤ most
  counts_few = omega (arith, ap (λ (p : ℕ × ℕ). p.1) f.counted, runs_few input, h)

  pub lent : {text : List ℕ} → listing_room ≤ length text → Lent part text
  lent room =
      record {
        few = omega (arith, part_long, runs_few input, h);
        short = rw runs_are (all_short input h);
        room = room;
      }

  pub told : {text text' : List ℕ} {end : ℕ} →
      Put text 0 (run_lines (runs_in part) ++ counts_line (counts.0, length part / 8)) end text' → Put text 0 (listing_of input) end text'
  unfolding listing_of
  told p =
      let n : length part / 8 ≡ length (runs_of input) = omega (arith, part_long) in
      rw (runs_are, n, ap (λ (p : ℕ × ℕ). p.0) f.counted) at p
