-- `accesses::run_lines` meets its contract. The invariant: what is left of the run goes on from the world that the lent tables, the accelerators and the
-- memories are, and the answers so far stand in the buffer.
use mathlib.Core.Path.{◌≡◌}
use lib.ListN.{length, take}
use mir.Syntax.{w64}
use mir.Val.{Fits}
use Rattle.switches.specs.Flips.{active}
use Rattle.cart.specs.Cartridges.{initial_of}
use Rattle.cart.specs.Readable.{readable_of}
use Rattle.accesses.specs.Accesses.{accesses_of}
use Rattle.accesses.specs.Runs.{world}
use Rattle.accesses.specs.Code.Steps.{tabled}
use Rattle.accesses.proofs.Runs.{Running}
use Rattle.accesses.proofs.run_lines.Given as goal

abbrev pub invariant-loop-line : goal.invariant-loop-line
invariant-loop-line l =
    (length l.ram ≡ length l.initial.ram) × (length l.flash ≡ length l.initial.flash) × (length l.out ≡ length l.initial.out)
    × (Fits w64 l.n) × (l.start ≡ readable_of l.c.initial_permissions)
    × Running (world l.c l.initial.flash l.initial.ram) (take l.n (accesses_of l.list)) l.initial.out l.n l.list l.at l._line l.k
    (tabled (initial_of l.c) (active l.mapping l.permissions) l.c.flips l.readable l.j l.flash l.ram) l.out
