-- `rules::first_clash` meets its contract. The loop's invariant: the owners are those of the lines before line k.
use borrow.Author.Rules.{rules}
use Rattle.rules.proofs.Clashes.{clashing_none, clash_hit, clashing_more, clashing_all}
use Rattle.rules.proofs.first_clash.Goals as goal

pub loop-l-init : goal.loop-l-init
loop-l-init c = search (rules, clashing_none)

pub returns-then-with-ne0 : goal.returns-then-with-ne0
returns-then-with-ne0 c = search (rules, clash_hit)

pub loop-l-preserved : goal.loop-l-preserved
loop-l-preserved c = search (rules, clashing_more)

pub returns : goal.returns
returns c = search (rules, clashing_all)
