-- `layout::pour::pour` meets its contract. The loop's invariant: the first p paragraphs are written.
use borrow.Author.Rules.{rules}
use native.Mathlib.Omega.{arith}
use Rattle.layout.proofs.Laying.{pouring_none, pouring_part, pouring_all}
use Rattle.layout.proofs.Sources.{poured_as}
use Rattle.layout.proofs.pour.pour.Goals as goal

pub loop-p-init : goal.loop-p-init
loop-p-init c = search (rules, pouring_none)

pub loop-p-preserved : goal.loop-p-preserved
loop-p-preserved c = pouring_part _ _ _ _ _ _ _ c.loop-p.invariant c.loop-p-test.true (omega arith) (omega arith) c.write_paragraph.ensures

pub returns : goal.returns
returns c = poured_as _ _ _ _ _ _ (rw c.from.ensures at c.min-n.ensures) (pouring_all _ _ _ _ _ c.loop-p.invariant c.loop-p-test.false)
