-- `iso6709::writing::put_part` meets its contract: sign, numbers and point are put one behind the other.
use Rattle.iso6709.proofs.Parts.{part_put}
use Rattle.iso6709.proofs.writing.put_part.Goals as goal

pub returns : goal.returns
returns c =
    let s = c.args in
    let degrees = rw c.from.ensures at c.put_digits.ensures in
    let minutes = rw c.from-2.ensures at c.put_digits-2.ensures in
    let seconds = rw c.from-3.ensures at c.put_digits-3.ensures in
    let hundredths = rw c.from-4.ensures at c.put_digits-4.ensures in
    rw (← c.from-angle.ensures)
    (part_put s.text.now s.part.at s.part.width _ _ c.requires _ degrees _ minutes _ seconds _ hundredths c.sign.ensures)
