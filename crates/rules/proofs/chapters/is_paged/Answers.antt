-- `rules::chapters::is_paged` meets its contract. The loop's invariant: none of the first y pages has an owner.
use mathlib.Core.Path.{sym, ap}
use mathlib.Core.Bool.{not}
use borrow.Author.Tests.{eq-eqb, ne_eqb}
use native.Mathlib.Omega.{arith}
use Rattle.basics.specs.Laws.Counts.{any_none, any_of, any_miss, any_missed}
use Rattle.rules.specs.Code.Chapters.{paged_in}
use Rattle.rules.proofs.chapters.is_paged.Goals as goal

pub loop-y-init : goal.loop-y-init
loop-y-init c = sym (any_none _)

pub returns-then-pages-x-ne0 : goal.returns-then-pages-x-ne0
unfolding paged_in
returns-then-pages-x-ne0 c = sym (any_of _ _ c.loop-y.y c.loop-y-test.true (ap not (ne_eqb _ 0 c.if-pages-x-ne0.true)))

pub loop-y-preserved : goal.loop-y-preserved
loop-y-preserved c = any_miss _ _ c.loop-y.invariant (ap not (eq-eqb _ 0 c.if-pages-x-ne0.false))

pub returns : goal.returns
unfolding paged_in
returns c = any_missed _ _ _ (omega arith) (omega arith) c.loop-y.invariant
