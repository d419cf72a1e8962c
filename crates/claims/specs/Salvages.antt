-- Order 7, the salvage of a torn record file: how it is read, what is taken, skipped and listed, and what is refused, for every file.
use Rattle.std.specs.Prelude.{true, false, List, [], ◌∷◌, ◌++◌, map, ◌↔◌, ◌≢◌, ◌≡◌, ℕ, ◌+◌, ◌*◌, ◌/◌, ◌≤◌, ◌<◌, ℤ, length, get_or, take, drop}
use Rattle.refusal.specs.Outcome.{refused, given}
use Rattle.record.specs.Answer.{convertible, convert_of}
use Rattle.torn.specs.Parts.{Part, taken, skipped, skip, parts_of, taken_of, runs_of, closed_up, back_of}
use Rattle.torn.specs.Pieces.{list_of}
use Rattle.torn.specs.Answer.{salvage_of, records_after, list_after}
use Rattle.claims.specs.Texts.{byte}
use Rattle.claims.specs.Notes.{four}

-- the length of the list piece
abbrev pub room : ℕ → ℕ
room n = 8 * (n / 17) + 8

-- ---- the reading

-- 16 bytes are a record that the rules convert where `convert_record` converts them
pub record Judged (bytes : List ℕ) : Type 0 where
  pub pair : ℤ × ℤ
  pub answer : convert_of bytes 16 ≡ given pair

-- the reading comes to stand at a place
pub data Stands (s : List ℕ) : ℕ → Type 0 where
  front : Stands s 0
  behind : {at : ℕ} → Stands s at → convertible (take 16 (drop at s)) ≡ true → Stands s (at + 16)
  past : {at : ℕ} → Stands s at → convertible (take 16 (drop at s)) ≡ false → at < length s → Stands s (at + 1)

-- records that the rules convert, each of them
abbrev pub AllConvert : List (List ℕ) → Type 0
AllConvert rs = (i : ℕ) → i < length rs → convertible (get_or rs i []) ≡ true

-- the parts of s have those of the first bytes, up to a place, then these records one by one, and then the parts of the rest
pub record TakenAt (s : List ℕ) (at : ℕ) (rs : List (List ℕ)) (rest : List ℕ) : Type 0 where
  pub before : List Part
  pub up_to : back_of before ≡ take at s
  pub parts : parts_of s ≡ before ++ (map taken rs ++ parts_of rest)

-- ---- records and runs in order

-- bytes from a place on, their parts in order, and of these parts the records, and the first place and the length of each run
pub data InOrder : ℕ → List ℕ → List Part → List (List ℕ) → List (ℕ × ℕ) → Type 0 where
  nothing : {at : ℕ} → InOrder at [] [] [] []
  next_record : {at : ℕ} {s : List ℕ} {ps : List Part} {rs : List (List ℕ)} {runs : List (ℕ × ℕ)} (r : List ℕ) →
      InOrder (at + length r) s ps rs runs → InOrder at (r ++ s) (taken r ∷ ps) (r ∷ rs) runs
  next_run : {at : ℕ} {s : List ℕ} {ps : List Part} {rs : List (List ℕ)} {runs : List (ℕ × ℕ)} (run : List ℕ) →
      InOrder (at + length run) s ps rs runs → InOrder at (run ++ s) (skipped run ∷ ps) rs ((at, length run) ∷ runs)

pub record Salvages : Type 0 where
  -- from the front: a record is taken and the reading goes 16 on; otherwise one byte is skipped, and joins the run behind it
  pub ends : parts_of [] ≡ []
  pub takes : (s : List ℕ) → convertible (take 16 s) ≡ true → parts_of s ≡ taken (take 16 s) ∷ parts_of (drop 16 s)
  pub skips : (b : ℕ) (s : List ℕ) → convertible (take 16 (b ∷ s)) ≡ false → parts_of (b ∷ s) ≡ skip b (parts_of s)
  pub skip_alone : (b : ℕ) → skip b [] ≡ skipped (b ∷ []) ∷ []
  pub skip_before : (b : ℕ) (r : List ℕ) (ps : List Part) → skip b (taken r ∷ ps) ≡ skipped (b ∷ []) ∷ taken r ∷ ps
  pub skip_joins : (b : ℕ) (run : List ℕ) (ps : List Part) → skip b (skipped run ∷ ps) ≡ skipped (b ∷ run) ∷ ps
  -- a record is what `convert_record` converts: no session is asked
  pub judged : (bytes : List ℕ) → (convertible bytes ≡ true) ↔ Judged bytes
  pub all_convert : (s : List ℕ) → AllConvert (taken_of s)
  -- taken records and skipped runs, put back in order, are the input
  pub put_back : (s : List ℕ) → back_of (parts_of s) ≡ s
  pub back_none : back_of [] ≡ []
  pub back_taken : (r : List ℕ) (ps : List Part) → back_of (taken r ∷ ps) ≡ r ++ back_of ps
  pub back_skipped : (run : List ℕ) (ps : List Part) → back_of (skipped run ∷ ps) ≡ run ++ back_of ps
  -- each part is the next of the records taken, or the next of the runs listed, by its first place and its length
  pub in_order : (s : List ℕ) → InOrder 0 s (parts_of s) (taken_of s) (runs_of s)
  -- no run is empty, and none stands right behind another: each is as long as it can be
  pub not_empty : (s : List ℕ) (before later : List Part) (run : List ℕ) → parts_of s ≡ before ++ (skipped run ∷ later) → 0 < length run
  pub apart : (s : List ℕ) (before later : List Part) (run next : List ℕ) → parts_of s ≡ before ++ (skipped run ∷ skipped next ∷ later) → ⊥
  -- once the reading stands at the start of an undamaged, convertible stretch, it takes that stretch record by record
  pub stretch : (s : List ℕ) (at : ℕ) (r : List ℕ) (rs : List (List ℕ)) (rest : List ℕ) → Stands s at → AllConvert (r ∷ rs) →
      drop at s ≡ closed_up (r ∷ rs) ++ rest → TakenAt s at (r ∷ rs) rest
  -- 23, then 24 for either piece, else both counts
  pub too_long_lem : (input : List ℕ) (records list : ℕ) → 65536 < length input → salvage_of input records list ≡ refused 23
  pub other_records : (input : List ℕ) (records list : ℕ) → length input ≤ 65536 → records ≢ length input →
      salvage_of input records list ≡ refused 24
  pub other_list : (input : List ℕ) (records list : ℕ) → length input ≤ 65536 → list ≢ room (length input) →
      salvage_of input records list ≡ refused 24
  pub counted : (input : List ℕ) → length input ≤ 65536 →
      salvage_of input (length input) (room (length input)) ≡ given (length (taken_of input), length (runs_of input))
  -- the pieces are always long enough
  pub records_fit : (s : List ℕ) → length (closed_up (taken_of s)) ≤ length s
  pub records_long : (s : List ℕ) → length (closed_up (taken_of s)) ≡ 16 * length (taken_of s)
  pub list_fits : (s : List ℕ) → length (list_of (runs_of s)) ≤ room (length s)
  pub list_long : (s : List ℕ) → length (list_of (runs_of s)) ≡ 8 * length (runs_of s)
  -- what is needed stands at the front of each piece, and the other bytes stay; a refusal leaves both
  pub records_written : (input piece : List ℕ) (counts : ℕ × ℕ) →
      records_after input piece (given counts) ≡ closed_up (taken_of input) ++ drop (length (closed_up (taken_of input))) piece
  pub list_written : (input piece : List ℕ) (counts : ℕ × ℕ) →
      list_after input piece (given counts) ≡ list_of (runs_of input) ++ drop (length (list_of (runs_of input))) piece
  pub records_kept : (input piece : List ℕ) (n : ℕ) → records_after input piece (refused n) ≡ piece
  pub list_kept : (input piece : List ℕ) (n : ℕ) → list_after input piece (refused n) ≡ piece
  -- records as they were, closed up from place 0
  pub record_at_lem : (s : List ℕ) (i : ℕ) → i < length (taken_of s) → take 16 (drop (16 * i) (closed_up (taken_of s))) ≡ get_or (taken_of s) i []
  -- two unsigned 32-bit numbers a run, in bytes, the least first
  pub list_bytes : (s : List ℕ) (i : ℕ) → byte (list_of (runs_of s)) i < 256
  pub listed : (s : List ℕ) (i : ℕ) → length s ≤ 65536 → i < length (runs_of s) →
      (four (list_of (runs_of s)) (8 * i) ≡ (get_or (runs_of s) i (0, 0)).0) × (four (list_of (runs_of s)) (8 * i + 4) ≡ (get_or (runs_of s) i (0, 0)).1)
