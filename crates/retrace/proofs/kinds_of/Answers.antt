-- `retrace::kinds_of` meets its contract.
use borrow.Author.Rules.{rules}
use Rattle.basics.specs.Laws.Filling.{table_from_fn}
use Rattle.retrace.proofs.Fills.{kinds_at}
use Rattle.retrace.proofs.kinds_of.Goals as goal

pub returns : goal.returns
returns c = table_from_fn _ _ _ _ (λ i y q l k. search (rules, kinds_at)) 0 _ c.from_fn.ensures.items
