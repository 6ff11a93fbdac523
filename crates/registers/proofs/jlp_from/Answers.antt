-- `registers::jlp_from` meets its contract: part by part.
use Rattle.std.specs.Prelude.{◌≡◌, ◌+◌, get_or}
use borrow.Author.Rules.{rules}
use Rattle.basics.specs.Tables.{table}
use Rattle.basics.specs.Laws.Filling.{table_from_fn}
use Rattle.jlp.specs.Accelerators.{operand_count}
use Rattle.registers.proofs.jlp_from.Goals as goal

pub returns : goal.returns
returns c =
    let operands : c.from_fn.result ≡ table operand_count (λ i. get_or c.args.w.now (2 + i) 0) =
    table_from_fn _ _ _ _ (λ i y q l k. search rules) 0 _ c.from_fn.ensures.items in
    rw (c.field_of.ensures, c.is_on.ensures, operands, c.results_of.ensures, c.saves_of.ensures)
