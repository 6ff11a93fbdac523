-- `layout::entries::row_of` meets its contract.
use borrow.Author.Rules.{rules}
use Rattle.std.proofs.Common.{None}
use Rattle.basics.specs.Laws.Filling.{table_from_fn}
use Rattle.layout.specs.Code.Entries.{row_in}
use Rattle.layout.proofs.entries.row_of.Goals as goal

pub returns : goal.returns
unfolding row_in
returns c = table_from_fn _ _ _ _ (λ i y q l k. search rules) None _ c.from_fn.ensures.items
