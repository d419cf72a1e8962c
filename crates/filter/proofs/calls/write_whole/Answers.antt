-- `filter::calls::write_whole` meets its contract: what is gone from the rest is written.
use Rattle.filter.proofs.Known.{front_grows}
use Rattle.filter.proofs.calls.write_whole.Goals as goal

pub loop-rest-preserved : goal.loop-rest-preserved
loop-rest-preserved g c =
    let l = c.loop-rest in
    let (within, rest, front) =
    front_grows _ _ _ c.args.bytes.now l.rest.now c.in-Ok.count c.in-Ok.ensures.bound l.invariant.within l.invariant.rest l.invariant.front c.in-Ok.ensures.bytes in
    record { within = within; rest = rest; front = front }
