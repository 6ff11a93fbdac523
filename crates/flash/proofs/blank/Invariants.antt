-- `flash::blank` meets its contract. The loop's invariant: i of the words are erased.
use Prim.Native.Nat.{◌-◌, ◌≤◌}
use mathlib.Core.Path.{◌≡◌}
use lib.ListN.{length}
use Rattle.basics.specs.Lists.{laid}
use Rattle.flash.specs.Flash.{sector_words, erased_word}
use Rattle.flash.proofs.blank.Given as goal

abbrev pub invariant-loop-i : goal.invariant-loop-i
invariant-loop-i l = (l.i ≤ sector_words) × (length l.s ≡ length l.initial.s) × (l.s ≡ laid l.a l.i (λ j. erased_word) l.initial.s)

abbrev pub decreases-loop-i : goal.decreases-loop-i
decreases-loop-i l = sector_words - l.i
