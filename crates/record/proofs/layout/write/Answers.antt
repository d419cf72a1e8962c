-- `record::layout::write` meets its contract.
use borrow.Author.Rules.{rules}
use mir.Syntax.{w32}
use mir.Val.{SFits}
use mir.Facts.{to_z-of_z}
use Rattle.record.specs.Record.{kind_in, central_in}
use Rattle.record.specs.Form.{code_of}
use Rattle.record.proofs.Stored.{stored}
use Rattle.record.proofs.layout.write.Goals as goal

pub returns : goal.returns
returns c =
    let s = c.args in
    let fc : SFits w32 c.get.result = record { sfits = c.get.type_inv } in
    let ff : SFits w32 s.pair.0 = search rules in
    let fs : SFits w32 s.pair.1 = search rules in
    stored s.output.now c.put.new.bytes c.put-2.new.bytes c.put-3.new.bytes
    (kind_in s.input.now) (code_of s.form) (central_in s.input.now) s.pair.0 s.pair.1 (search rules)
    (rw (c.from.ensures, to_z-of_z fc, c.get.ensures) at c.put.ensures.bytes_after)
    (rw (to_z-of_z ff) at c.put-2.ensures.bytes_after)
    (rw (to_z-of_z fs) at c.put-3.ensures.bytes_after)
