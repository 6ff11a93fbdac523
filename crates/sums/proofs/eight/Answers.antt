-- `sums::eight` meets its contract: eight entries, each as `entry` answers it.
use Rattle.sums.specs.Tables.{by_eight}
use Rattle.sums.proofs.eight.Goals as goal

pub returns : goal.returns
unfolding by_eight
returns c =
    rw (
      c.entry-8.ensures,
      c.entry-7.ensures,
      c.entry-6.ensures,
      c.entry-5.ensures,
      c.entry-4.ensures,
      c.entry-3.ensures,
      c.entry-2.ensures,
      c.entry.ensures,
    )
