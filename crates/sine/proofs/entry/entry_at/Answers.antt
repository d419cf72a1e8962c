-- `sine::entry::entry_at` meets its contract: what it works out is the table's entry, by the test over all places.
use Rattle.whole.specs.Nearest.{nearest, carry}
use Rattle.sine.specs.Series.{angle, next, alternating, series}
use Rattle.sine.specs.Table.{entry_of}
use Rattle.sine.proofs.Worked.{worked, worked_is}
use Rattle.sine.proofs.entry.entry_at.Goals as goal

pub returns : goal.returns
unfolding worked entry_of series alternating next angle nearest carry
returns c =
    rw (
      c.less-s-6.ensures,
      c.less-s-5.ensures,
      c.less-s-4.ensures,
      c.less-s-3.ensures,
      c.less-s-2.ensures,
      c.less-s.ensures,
    )
    (worked_is _ _ _ _ _ _ _ tt c.args.i c.requires)
