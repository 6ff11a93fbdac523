-- `flash::copy` meets its contract. The loop's invariant: i of the words are laid.
use Prim.Native.Nat.{◌+◌, ◌-◌, ◌≤◌}
use mathlib.Core.Path.{◌≡◌}
use lib.ListN.{length, get_or}
use Rattle.basics.specs.Lists.{laid}
use Rattle.flash.specs.Flash.{row_words}
use Rattle.flash.proofs.copy.Given as goal

abbrev pub invariant-loop-i : goal.invariant-loop-i
invariant-loop-i l = (l.i ≤ row_words) × (length l.to ≡ length l.initial.to) × (l.to ≡ laid l.b l.i (λ j. get_or l.from (l.a + j) 0) l.initial.to)

abbrev pub decreases-loop-i : goal.decreases-loop-i
decreases-loop-i l = row_words - l.i
