-- `exports::writer::marks_from` meets its contract: each call of the closure is a mark of the table.
use Rattle.std.proofs.Common.{rules, false}
use Rattle.basics.specs.Laws.Filling.{table_from_fn}
use Rattle.exports.proofs.writer.marks_from.Goals as goal

pub returns : goal.returns
returns c = table_from_fn _ _ _ _ (λ i y q l k. search rules) false _ c.from_fn.ensures.items
