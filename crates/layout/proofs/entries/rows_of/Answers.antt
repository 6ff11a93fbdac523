-- `layout::entries::rows_of` meets its contract.
use mathlib.Core.List.{[]}
use borrow.Author.Rules.{rules}
use Rattle.basics.specs.Laws.Filling.{table_from_fn}
use Rattle.layout.proofs.entries.rows_of.Goals as goal

pub returns : goal.returns
returns c = table_from_fn _ _ _ _ (λ i y q l k. search rules) [] _ c.from_fn.ensures.items
