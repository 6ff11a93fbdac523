-- `retrace::pages_of` meets its contract.
use Rattle.std.proofs.Common.{rules, false}
use Rattle.basics.specs.Laws.Filling.{table_from_fn}
use Rattle.retrace.proofs.Fills.{pages_at}
use Rattle.retrace.proofs.pages_of.Goals as goal

pub returns : goal.returns
returns c = table_from_fn _ _ _ _ (λ i y q l k. search (rules, pages_at)) false _ c.from_fn.ensures.items
