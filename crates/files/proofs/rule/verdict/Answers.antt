-- `rule::verdict` meets its contract: a return for each way out.
use native.Mathlib.Omega.{arith}
use borrow.Author.Rules.{rules}
use mathlib.Core.Path.{◌∙◌, sym}
use Rattle.files.proofs.Verdicts.{free, untold, a_link, no_file, was_read, not_read}
use Rattle.files.proofs.rule.verdict.Goals as goal

pub returns-in-Err : goal.returns-in-Err
returns-in-Err c = search (rules, free)

pub returns-in-Err-2 : goal.returns-in-Err-2
returns-in-Err-2 c = search (rules, untold)

pub returns-in-10 : goal.returns-in-10
returns-in-10 c = search (rules, a_link)

pub returns-in-8 : goal.returns-in-8
returns-in-8 c = was_read _ _ _ c.in-Ok.is _ c.kind_of.ensures c.in-8.is (sym c.is_input.ensures ∙ c.if-is_input.true)

pub returns-in-8-2 : goal.returns-in-8-2
returns-in-8-2 c = not_read _ _ _ c.in-Ok.is _ c.kind_of.ensures c.in-8.is (sym c.is_input.ensures ∙ c.if-is_input.false)

pub returns-in_default : goal.returns-in_default
returns-in_default c = no_file _ _ _ c.in-Ok.is _ c.kind_of.ensures (λ e. omega arith) (λ e. omega arith)
