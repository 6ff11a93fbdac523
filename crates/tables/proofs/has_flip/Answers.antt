-- `tables::has_flip` meets its contract. The loop's invariant: the first y entries of chapter 1 have no PFE.
use mathlib.Core.Path.{sym}
use native.Mathlib.Omega.{arith}
use borrow.Author.Tests.{eq-eqb, ne_eqb}
use borrow.Author.Rules.{rules}
use Rattle.basics.specs.Laws.Counts.{any_none, any_of, any_miss, any_missed}
use Rattle.places.specs.Limits.{chapter_pages}
use Rattle.tables.proofs.has_flip.Goals as goal

pub loop-y-init : goal.loop-y-init
loop-y-init c = (omega arith, sym (any_none _))

pub returns-then-flips-y-eq1 : goal.returns-then-flips-y-eq1
returns-then-flips-y-eq1 c = sym (any_of chapter_pages _ c.loop-y.y (omega arith) (eq-eqb _ _ c.if-flips-y-eq1.true))

pub loop-y-preserved : goal.loop-y-preserved
loop-y-preserved c = (omega arith, any_miss _ _ c.loop-y.invariant.1 (ne_eqb _ _ c.if-flips-y-eq1.false))

pub returns : goal.returns
returns c = search (rules, any_missed)
