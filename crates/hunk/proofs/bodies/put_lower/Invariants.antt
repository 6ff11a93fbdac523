-- `hunk::bodies::put_lower` meets its contract. The loop's invariant: the lower bytes of j words are laid.
use mathlib.Core.Path.{◌≡◌}
use lib.ListN.{length, drop}
use Rattle.basics.specs.Lists.{laid}
use Rattle.hunk.specs.Forms.{lower}
use Rattle.hunk.proofs.bodies.put_lower.Given as goal

abbrev pub invariant-loop-j : goal.invariant-loop-j
invariant-loop-j l = (length l.out ≡ length l.initial.out) × (l.out ≡ laid l.p l.j (lower (drop l.i l.words)) l.initial.out)
