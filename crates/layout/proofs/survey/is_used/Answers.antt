-- `layout::survey::is_used` meets its contract. The loop's invariant: none of the first k paragraphs has a line.
use mathlib.Core.Path.{sym}
use native.Mathlib.Omega.{arith}
use borrow.Author.Tests.{eq-eqb, ne_eqb}
use borrow.Author.Rules.{rules}
use Rattle.basics.specs.Laws.Counts.{any_none, any_of, any_miss, any_missed}
use Rattle.places.specs.Limits.{chapter_paragraphs}
use Rattle.layout.specs.Code.Survey.{used_in}
use Rattle.layout.proofs.survey.is_used.Goals as goal

pub loop-k-init : goal.loop-k-init
loop-k-init c = sym (any_none _)

pub returns-then-numbers-t-ne0 : goal.returns-then-numbers-t-ne0
unfolding used_in
returns-then-numbers-t-ne0 c = sym (any_of chapter_paragraphs _ c.loop-k.k (omega arith) (rw (ne_eqb _ _ c.if-numbers-t-ne0.true)))

pub loop-k-preserved : goal.loop-k-preserved
loop-k-preserved c = any_miss _ _ c.loop-k.invariant (rw (eq-eqb _ _ c.if-numbers-t-ne0.false))

pub returns : goal.returns
unfolding used_in
returns c = search (rules, any_missed)
