-- `stream::step::after_read` meets its contract, by what the read came to.
use Rattle.std.proofs.Common.{rules, sym}
use Rattle.stream.proofs.Steps.{follows_bytes, follows_end, follows_interrupted, follows_failed}
use Rattle.stream.proofs.Works.{counted_put}
use Rattle.stream.proofs.step.after_read.Goals as goal

pub returns-in-Bytes : goal.returns-in-Bytes
returns-in-Bytes c = let got = sym c.in-Bytes.ensures.value in let room = c.in-Bytes.ensures.ready in search (rules, follows_bytes)

pub returns-in-End : goal.returns-in-End
returns-in-End c = let got = sym c.in-End.ensures.value in let put = counted_put _ c.finish-lines.ensures c.unwrap.ensures in search (rules, follows_end)

pub returns-in-Interrupted : goal.returns-in-Interrupted
returns-in-Interrupted c = let got = sym c.in-Interrupted.ensures.value in search (rules, follows_interrupted)

pub returns-in-Failed : goal.returns-in-Failed
returns-in-Failed c = let got = sym c.in-Failed.ensures.value in search (rules, follows_failed)
