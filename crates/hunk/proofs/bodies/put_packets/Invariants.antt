-- `hunk::bodies::put_packets` meets its contract. The loop's invariant: j packets are laid.
use Prim.Native.Nat.{◌*◌}
use mathlib.Core.Path.{◌≡◌}
use lib.ListN.{length}
use Rattle.basics.specs.Lists.{laid}
use Rattle.hunk.specs.Forms.{packets}
use Rattle.hunk.proofs.bodies.put_packets.Given as goal

abbrev pub invariant-loop-j : goal.invariant-loop-j
invariant-loop-j l = (length l.out ≡ length l.initial.out) × (l.out ≡ laid 0 (5 * l.j) (packets l.words) l.initial.out)
