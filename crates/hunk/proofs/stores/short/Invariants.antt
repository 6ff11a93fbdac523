-- `hunk::stores::short` meets its contract. The loop's invariant: i of the n decles are laid.
use mathlib.Core.Path.{◌≡◌}
use lib.ListN.{length}
use Rattle.basics.specs.Lists.{laid}
use Rattle.hunk.specs.Forms.{decle}
use Rattle.hunk.proofs.stores.short.Given as goal

abbrev pub invariant-loop-i : goal.invariant-loop-i
invariant-loop-i l = (length l.ram ≡ length l.initial.ram) × (l.ram ≡ laid l.a l.i (decle l.s l.at) l.initial.ram)
