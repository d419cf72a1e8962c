-- `listing::listed` meets its contract: the list holds the runs of the file, and no salvage is refused.
use mathlib.Core.List.{◌++◌}
use mathlib.Core.Path.{sym}
use native.Mathlib.Omega.{arith}
use lib.ListN.{drop}
use lib.Seq.{length-take-le}
use Rattle.listing.proofs.Pieces.{Found, is_ok, found, counts_few, lent, told}
use Rattle.listing.proofs.listed.Goals as goal

pub unwrap-taken-requires : goal.unwrap-taken-requires
unwrap-taken-requires c = is_ok c.requires c.list_room-room.ensures _ c.salvage.ensures.result_value

-- the runs stand at the front of the list
at_front : (c : goal.After-unwrap-taken) →
    Found c.args.input.now (c.salvage.new.list ++ drop c.list_room-room.result c.args.list.now) c.unwrap-taken.result
at_front c = let e = c.salvage.ensures in found c.requires c.list_room-room.ensures _ e.result_value e.list_after c.unwrap-taken.ensures

pub overflow_mul-runs : goal.overflow_mul-runs
overflow_mul-runs c = omega (arith, counts_few (at_front c) c.requires.short)

pub slice_bounds-all_lines-end : goal.slice_bounds-all_lines-end
slice_bounds-all_lines-end c = (at_front c).reaches

pub slice_bounds-all_lines-end-2 : goal.slice_bounds-all_lines-end-2
slice_bounds-all_lines-end-2 c = sym (length-take-le _ _ (at_front c).reaches)

pub all_lines-requires : goal.all_lines-requires
all_lines-requires c =
    let e = c.salvage.ensures in
    lent (found c.requires c.list_room-room.ensures _ e.result_value e.list_after c.unwrap-taken.ensures) c.requires.short c.requires.room

pub returns : goal.returns
returns c =
    let e = c.salvage.ensures in
    told (found c.requires c.list_room-room.ensures _ e.result_value e.list_after c.unwrap-taken.ensures) c.requires.short c.all_lines.ensures
