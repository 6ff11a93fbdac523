-- `text::line_end` meets its contract. The invariant: the line goes on at i, or ends there.
use mathlib.Core.Path.{refl}
use mathlib.Core.Path.{refl}
use native.Mathlib.Omega.{arith}
use Rattle.text.specs.Lines.{ends}
use Rattle.text.specs.Laws.Bytes.{until_past}
use Rattle.text.proofs.Tests.{ends_here, ends_later}
use Rattle.text.proofs.line_end.Goals as goal

pub returns-then-is_end : goal.returns-then-is_end
returns-then-is_end c = search ends_here

pub loop-i-preserved : goal.loop-i-preserved
loop-i-preserved c = search ends_later

pub returns : goal.returns
returns c = grind (arith, until_past ends c.args.text.now c.loop-i.i _ c.loop-i.invariant, until_past ends c.args.text.now c.args.at _ refl)
