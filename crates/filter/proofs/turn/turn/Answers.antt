-- `filter::turn::turn` meets its contract: the read comes behind the bytes held over, and what is offered then is written.
use Rattle.std.proofs.Common.{◌≡◌, ◌+◌, ◌-◌, ◌≤◌, length, arith, rules, ◌∙◌}
use borrow.Rule.Slice.PartMut.{mid_len, post_of}
use Rattle.torn.specs.Pieces.{most as longest}
use Rattle.filter.specs.Turns.{most, Room}
use Rattle.filter.proofs.Turns.{held_few}
use Rattle.filter.proofs.Moved.{turn_moves}
use Rattle.filter.proofs.turn.turn.Goals as goal

pub returns-clause-moves : goal.returns-clause-moves
returns-clause-moves g c =
    let a = c.args in
    let buffer = a.room.now.buffer in
    let text = a.room.now.text in
    let held = a.state.held in
    let came = c.read_once-came in
    let step = c.after_read-step in
    let room : Room buffer text = record { bytes = search rules; lines = search rules } in
    let there : held + most ≤ length buffer = omega (arith, room.bytes, c.requires.0, held_few a.job) in
    let size : length came.new.space ≡ most = came.auto.space ∙ mid_len _ _ buffer (omega (arith, there)) ∙ omega arith in
    turn_moves a.job a.state buffer came.new.space (post_of held (held + most - held) buffer) text came.result _ _
    c.from.result step.result step.new.buffer step.new.text c.write_whole-sent.result c.after_write.result _ _
    size (search rules) came.ensures.bound came.ensures.bytes c.requires.0 c.requires.1 room
    c.from.ensures (search rules) (search rules) (search rules) (cc)

pub returns-clause-turns : goal.returns-clause-turns
returns-clause-turns g c = (returns-clause-moves g c).by

pub returns-clause-held_in_bounds : goal.returns-clause-held_in_bounds
returns-clause-held_in_bounds g c =
    let long : length c.args.room.now.buffer ≡ longest + most = search rules in
    omega (arith, (returns-clause-moves g c).by.inside, c.after_read-step.auto.buffer)
