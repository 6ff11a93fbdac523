-- `save::paragraph_of` meets its contract.
use borrow.Author.Rules.{rules}
use Rattle.basics.specs.Laws.Filling.{table_from_fn}
use Rattle.save.proofs.paragraph_of.Goals as goal

pub returns : goal.returns
returns c = table_from_fn _ _ _ _ (λ i y q l k. search rules) 0 _ c.from_fn.ensures.items
