-- The loop of the reading: what stands at its head, and how a turn goes.
use mathlib.Core.Bool.{Bool, true, false, cond}
use mathlib.Core.List.{List, [], ◌∷◌, ◌++◌, append-nil}
use mathlib.Core.Path.{◌≡◌, refl, sym, ap, ◌∙◌}
use Prim.Native.Nat.{ℕ, ◌+◌, ◌-◌, ◌*◌, ◌≤◌, ◌<◌}
use native.Mathlib.Omega.{arith}
use borrow.Author.Tests.{ltb-true}
use lib.Dec.{ltb}
use lib.ListN.{length, get_or, take, drop, length-append, length-take, length-drop}
use lib.Seq.{length-take-le}
use Rattle.std.specs.Array.{IsFirstChunk}
use Rattle.digits.specs.Put.{Put}
use Rattle.digits.proofs.Puts.{put_long, put_front_lem}
use Rattle.record.specs.Record.{size}
use Rattle.record.specs.Answer.{convertible}
use Rattle.torn.specs.Parts.{Part, taken, back_of, parts_of}
use Rattle.torn.specs.Inside.{run_between, Closes, Rooms, Reads}
use Rattle.torn.proofs.Readings.{found_is, closed, Read, read_none, read_taken, read_skipped, read_rest, read_all}
use Rattle.torn.proofs.Pieces.{Stored, store_none, store_run, store_record, Listed, list_none, list_record, list_run}

pub record State (s records₀ list₀ records list : List ℕ) (at since count runs : ℕ) : Type 0 where
  pub rooms : Rooms s records₀ list₀
  pub done : List Part
  pub run : List ℕ
  pub read : Read s at done run
  pub stored : Stored done records₀ records count
  pub listed : Listed done list₀ list runs
  pub start : length (back_of done) ≡ since
  pub behind : since + length run ≡ at
  pub packed : size * count ≤ since
  pub spaced : 17 * runs ≤ since

pub begin : {s records list : List ℕ} → Rooms s records list → State s records list records list 0 0 0 0
unfolding back_of
begin {s} {records} {list} r =
    record {
      rooms = r;
      done = [];
      run = [];
      read = read_none s;
      stored = store_none records;
      listed = list_none list;
      start = refl;
      behind = refl;
      packed = omega arith;
      spaced = omega arith;
    }

-- the runs listed after one is closed, if there is one: a record behind it makes its bytes 17 at least
runs_after : (from to runs runs' : ℕ) → runs' ≡ runs + length (run_between from to) → 17 * runs ≤ from → from ≤ to → 17 * runs' ≤ to + 16
runs_after from to runs runs' e h l = go (ltb from to) refl e
  where
    go : (b : Bool) → ltb from to ≡ b → runs' ≡ runs + length {A = ℕ × ℕ} (cond b ((from, to - from) ∷ []) []) → 17 * runs' ≤ to + 16
    go true t e = let k = ltb-true from to t in omega arith
    go false t e = omega arith

module _ {s records₀ list₀ records list : List ℕ} {at since count runs : ℕ} (h : State s records₀ list₀ records list at since count runs) where
  within : at ≤ length s
  within = h.read.within

  -- the pieces keep their lengths
  pub records_kept : length records ≡ length s
  records_kept = put_long h.stored.put (omega (arith, h.packed, h.behind, within, h.rooms.record_room)) ∙ h.rooms.record_room

  -- the bytes that may be a record are within the input
  front_within : {found : List ℕ} → IsFirstChunk (take (length s - at) (drop at s)) found size → at + size ≤ length s
  front_within f = omega (arith, f.enough, within, length-take (length s - at) (drop at s), length-drop at s)

  -- the record piece has room for them
  pub record_room_lem : {found : List ℕ} → IsFirstChunk (take (length s - at) (drop at s)) found size → size * count + size ≤ length records
  record_room_lem f = omega (arith, front_within f, records_kept, h.packed, h.behind)

  -- the list piece has room for one run more
  list_room_lem : 8 * runs + 8 ≤ length list₀
  list_room_lem = omega (arith, within, h.behind, h.spaced, h.rooms.run_room)

  pub close_room : (since ≤ at) × (8 * runs + 8 ≤ length list)
  close_room =
      let kept : length list ≡ length list₀ = put_long h.listed.put (omega (arith, list_room_lem)) in
      (omega (arith, h.behind), omega (arith, list_room_lem))

  -- a record is taken
  pub take_turn : {found : List ℕ} → IsFirstChunk (take (length s - at) (drop at s)) found size → convertible found ≡ true →
      {records' list' : List ℕ} {count' runs' : ℕ} →
      Closes list runs since at runs' list' → count' ≡ count + 1 → Put records (size * count) found (size * count + size) records' →
      State s records₀ list₀ records' list' (at + size) (at + size) count' runs'
  take_turn f t {runs' = runs'} c n p =
      let e : convertible (take size (drop at s)) ≡ true = rw (found_is s at f) at t in
      let r : List ℕ = take size (drop at s) in
      let ps : List Part = h.done ++ closed h.run in
      let w = (read_taken h.read e).within in
      let b : length (back_of (ps ++ taken r ∷ [])) ≡ at + size =
      ap length (sym (append-nil (back_of (ps ++ taken r ∷ []))) ∙ (read_taken h.read e).back) ∙ length-take-le (at + size) s w in
      rw n record {
        rooms = h.rooms;
        done = ps ++ taken r ∷ [];
        run = [];
        read = read_taken h.read e;
        stored = store_record (store_run h.stored h.run) r (rw (found_is s at f) at p);
        listed = list_record (list_run h.listed h.run since at runs' h.start h.behind c) r;
        start = b;
        behind = omega arith;
        packed = omega (arith, h.packed, h.behind);
        spaced = omega (arith, runs_after since at runs runs' c.counted h.spaced (omega (arith, h.behind)));
      }

  -- a byte is skipped
  pub skip_turn : {found : List ℕ} → IsFirstChunk (take (length s - at) (drop at s)) found size → convertible found ≡ false →
      State s records₀ list₀ records list (at + 1) since count runs
  skip_turn f t =
      record {
        rooms = h.rooms;
        done = h.done;
        run = h.run ++ get_or s at 0 ∷ [];
        read = read_skipped h.read (rw (found_is s at f) at t) (omega (arith, front_within f));
        stored = h.stored;
        listed = h.listed;
        start = h.start;
        behind = omega (arith, length-append h.run (get_or s at 0 ∷ []), h.behind);
        packed = h.packed;
        spaced = h.spaced;
      }

  -- fewer bytes are left than a record has
  pub rest_turn : length (take (length s - at) (drop at s)) < size → State s records₀ list₀ records list (length s) since count runs
  rest_turn l =
      record {
        rooms = h.rooms;
        done = h.done;
        run = h.run ++ drop at s;
        read = read_rest h.read l;
        stored = h.stored;
        listed = h.listed;
        start = h.start;
        behind = omega (arith, length-append h.run (drop at s), length-drop at s, h.behind, within);
        packed = h.packed;
        spaced = h.spaced;
      }

-- all is read
pub end : {s records₀ list₀ records list list' records'' list'' : List ℕ} {since count runs runs' : ℕ} →
    State s records₀ list₀ records list (length s) since count runs → Closes list runs since (length s) runs' list' →
    records'' ≡ records → list'' ≡ list' → Reads s records₀ list₀ (count, runs') records'' list''
end {s} {since = since} {runs' = runs'} h c e f =
    let p : parts_of s ≡ h.done ++ closed h.run = read_all h.read refl in
    let t = store_run h.stored h.run in
    let u = list_run h.listed h.run since (length s) runs' h.start h.behind c in
    record {
      counts = rw (p, ← t.counted, ← u.counted);
      closed = rw (e, p) (put_front_lem t.put).1;
      listed = rw (f, p) (put_front_lem u.put).1;
    }
