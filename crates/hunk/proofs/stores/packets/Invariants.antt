-- `hunk::stores::packets` meets its contract. The loop's invariant: the decles of j packets are laid.
use Prim.Native.Nat.{◌*◌}
use mathlib.Core.Path.{◌≡◌}
use lib.ListN.{length}
use Rattle.basics.specs.Lists.{laid}
use Rattle.hunk.specs.Forms.{packed}
use Rattle.hunk.proofs.stores.packets.Given as goal

abbrev pub invariant-loop-j : goal.invariant-loop-j
invariant-loop-j l = (length l.ram ≡ length l.initial.ram) × (l.ram ≡ laid l.a (4 * l.j) (packed l.s l.at) l.initial.ram)
