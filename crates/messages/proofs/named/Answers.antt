-- `messages::named` meets its contract: the words stand behind the name of the program.
use mathlib.Core.Path.{refl}
use lib.ListN.{length}
use Rattle.lines.proofs.Buffers.{placed, put_behind, put_part, was_put}
use Rattle.messages.proofs.named.Goals as goal

pub returns : goal.returns
returns c =
    let words = c.put_bytes-2 in
    placed refl
    (put_behind (rw c.name.ensures.value at (was_put _ c.put_bytes.ensures c.unwrap-name.ensures))
    (put_part _ (length c.put_bytes.new.text) words.ensures c.unwrap.ensures words.auto.text))
