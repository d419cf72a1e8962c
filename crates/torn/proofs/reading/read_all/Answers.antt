-- `torn::reading::read_all` meets its contract: a turn takes a record or skips a byte, and what is left at the end is listed.
use Rattle.std.proofs.Common.{rules}
use Rattle.torn.proofs.Turns.{begin, record_room_lem, close_room, take_turn, skip_turn, rest_turn, end}
use Rattle.torn.proofs.reading.read_all.Goals as goal

pub loop-found-init : goal.loop-found-init
loop-found-init c = search (rules, begin)

pub close-requires : goal.close-requires
close-requires c = search (rules, close_room)

pub put-requires : goal.put-requires
put-requires c = record_room_lem c.loop-found.invariant.state c.in-Some.ensures.cases

pub loop-found-preserved-then-converts : goal.loop-found-preserved-then-converts
loop-found-preserved-then-converts c = search (rules, take_turn)

pub loop-found-preserved : goal.loop-found-preserved
loop-found-preserved c = search (rules, skip_turn)

pub close-requires-2 : goal.close-requires-2
close-requires-2 c = search (rules, close_room, rest_turn)

pub returns : goal.returns
returns c = end (rest_turn c.loop-found.invariant.state c.in_default.ensures.cases) c.close-2.ensures.closes (search rules) (search rules)
