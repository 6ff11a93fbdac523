-- `grammar::run_end` meets its contract. The invariant: the bytes of the kind go on at i, or end there.
use native.Mathlib.Omega.{arith}
use mathlib.Core.Path.{refl}
use Rattle.text.specs.Laws.Bytes.{until_past}
use Rattle.grammar.specs.Code.Steps.{same_kind, ends_run}
use Rattle.grammar.proofs.Words.{run_ends, run_goes_on}
use Rattle.grammar.proofs.run_end.Goals as goal

pub returns-then-ne : goal.returns-then-ne
returns-then-ne c = search run_ends

pub loop-i-preserved : goal.loop-i-preserved
loop-i-preserved c = search run_goes_on

pub returns : goal.returns
returns c =
    grind (arith, until_past (ends_run (same_kind c.args.kind)) c.args.line.now c.loop-i.i _ c.loop-i.invariant, until_past (ends_run (same_kind c.args.kind)) c.args.line.now c.args.at _ refl)
