-- `retrace::named::marks_of` meets its contract.
use Rattle.std.proofs.Common.{rules, false}
use Rattle.basics.specs.Laws.Filling.{table_from_fn}
use Rattle.retrace.proofs.named.marks_of.Goals as goal

pub returns : goal.returns
returns c = table_from_fn _ _ _ _ (λ i y q l k. search rules) false _ c.from_fn.ensures.items
