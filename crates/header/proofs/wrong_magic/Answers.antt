-- `header::wrong_magic` meets its contract. The loop's invariant: the first i bytes are those of the magic number.
use mathlib.Core.Path.{sym}
use native.Mathlib.Omega.{arith}
use borrow.Author.Rules.{rules}
use Rattle.basics.specs.Laws.Counts.{any_none, any_miss, any_missed}
use Rattle.header.proofs.Laws.{differs, agrees}
use Rattle.header.proofs.wrong_magic.Goals as goal

pub loop-i-init : goal.loop-i-init
loop-i-init c = (omega arith, sym (any_none _))

pub returns-then-byte_at-i : goal.returns-then-byte_at-i
returns-then-byte_at-i c = search (rules, differs)

pub loop-i-preserved : goal.loop-i-preserved
loop-i-preserved c = (omega arith, any_miss _ _ c.loop-i.invariant.1 (search (rules, agrees)))

pub returns : goal.returns
returns c = search (rules, any_missed)
