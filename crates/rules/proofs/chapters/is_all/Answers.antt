-- `rules::chapters::is_all` meets its contract. The loop's invariant: the paragraphs before k are of the kind.
use native.Mathlib.Omega.{arith}
use borrow.Author.Rules.{rules}
use Rattle.rules.proofs.Covers.{covering_none, covering_more, covering_miss, covering_all}
use Rattle.rules.proofs.chapters.is_all.Goals as goal

pub loop-k-init : goal.loop-k-init
loop-k-init c = search (rules, covering_none)

pub returns-then-kinds-x : goal.returns-then-kinds-x
returns-then-kinds-x c = search (rules, covering_miss)

pub loop-k-preserved : goal.loop-k-preserved
loop-k-preserved c = search (rules, covering_more)

pub returns : goal.returns
returns c = covering_all _ _ _ _ _ c.loop-k.invariant (λ h. omega (arith, c.loop-k.auto.k-end h))
