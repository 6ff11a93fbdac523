-- `layout::survey::is_under` meets its contract. The loop's invariant: the first k paragraphs are as asked.
use native.Mathlib.Omega.{arith}
use Rattle.layout.proofs.Surveying.{rom_none, rom_more, rom_fails, rom_all}
use Rattle.layout.proofs.survey.is_under.Goals as goal

pub loop-k-init : goal.loop-k-init
loop-k-init c = rom_none _ _ _ c.first_k-k.ensures.0

pub returns-then-kinds-x-ne1 : goal.returns-then-kinds-x-ne1
returns-then-kinds-x-ne1 c = rom_fails _ _ c.loop-k.k _ c.first_k-k.ensures.0 (omega arith) (omega arith) c.if-kinds-x-ne1.true

pub loop-k-preserved : goal.loop-k-preserved
loop-k-preserved c = rom_more _ _ _ c.loop-k.invariant c.if-kinds-x-ne1.false

pub returns : goal.returns
returns c = rom_all _ _ _ (omega arith) c.loop-k-test.false c.loop-k.invariant
