-- `text::first_foreign` meets its contract. The invariant: every byte passed is allowed.
use mathlib.Core.Path.{◌≡◌, ◌∙◌, sym}
use native.Mathlib.Omega.{arith}
use lib.ListN.{length}
use Rattle.text.specs.Bytes.{foreign}
use Rattle.text.specs.Laws.Bytes.{until_past}
use Rattle.text.proofs.Tests.{foreign_here, foreign_later}
use Rattle.text.proofs.first_foreign.Goals as goal

pub returns-then-not-is_allowed : goal.returns-then-not-is_allowed
returns-then-not-is_allowed c = search foreign_here

pub loop-i-preserved : goal.loop-i-preserved
loop-i-preserved c = search foreign_later

pub returns : goal.returns
returns c =
    let e : c.loop-i.i ≡ length c.args.text.now = omega arith in
    (sym e) ∙ until_past foreign _ _ _ c.loop-i.invariant (omega arith)
