-- `layout::survey::is_paged` meets its contract. The loop's invariant: none of the first y pages is in use.
use mathlib.Core.Path.{sym}
use native.Mathlib.Omega.{arith}
use native.Mathlib.Numerals.{add-one}
use borrow.Author.Rules.{rules}
use Rattle.basics.specs.Laws.Counts.{any_none, any_of, any_miss, any_missed}
use Rattle.places.specs.Limits.{chapter_pages}
use Rattle.layout.specs.Code.Survey.{paged_in}
use Rattle.layout.proofs.survey.is_paged.Goals as goal

pub loop-y-init : goal.loop-y-init
loop-y-init c = sym (any_none _)

pub returns-then-used-x : goal.returns-then-used-x
unfolding paged_in
returns-then-used-x c = sym (any_of chapter_pages _ c.loop-y.y (omega arith) (rw add-one at c.if-used-x.true))

pub loop-y-preserved : goal.loop-y-preserved
loop-y-preserved c = any_miss _ _ c.loop-y.invariant (rw add-one at c.if-used-x.false)

pub returns : goal.returns
unfolding paged_in
returns c = search (rules, any_missed)
