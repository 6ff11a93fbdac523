-- `rules::chapters::first_broken` meets its contract. The loop's invariant: no chapter below x breaks the rule.
use borrow.Author.Rules.{rules}
use Rattle.rules.proofs.Covers.{unbroken_none, broken_here, unbroken_more, unbroken_all}
use Rattle.rules.proofs.chapters.first_broken.Goals as goal

pub loop-x-init : goal.loop-x-init
loop-x-init c = search (rules, unbroken_none)

pub returns-then-breaks_plain : goal.returns-then-breaks_plain
returns-then-breaks_plain c = broken_here _ _ c.loop-x.invariant c.loop-x-test.true _ c.breaks_plain.ensures c.if-breaks_plain.true _ c.refuse.ensures

pub loop-x-preserved : goal.loop-x-preserved
loop-x-preserved c = unbroken_more _ _ c.loop-x.invariant c.loop-x-test.true _ c.breaks_plain.ensures c.if-breaks_plain.false

pub returns : goal.returns
returns c = unbroken_all _ _ c.loop-x.invariant c.loop-x-test.false
