-- `filter::turn::run` meets its contract: the bytes that waited stand at the front of the buffer, and what is said of them fits the text.
use Rattle.std.proofs.Common.{rules}
use Rattle.stream.specs.Step.{standing}
use Rattle.filter.proofs.Said.{said_fits}
use Rattle.filter.proofs.turn.run.Goals as goal

pub say-requires : goal.say-requires
say-requires c =
    let turns = c.turns-stopped in
    let reached = turns.ensures.reached in
    said_fits c.args.job _ reached.turns _ (search rules) (standing turns.result.state turns.new.room.buffer) reached.stands
