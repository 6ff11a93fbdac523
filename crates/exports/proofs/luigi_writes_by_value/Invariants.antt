-- `exports::luigi_writes_by_value` meets its contract. The invariant: c, the RAM and the flash are what the first i writes leave.
use Prim.Native.Nat.{◌≤◌, ◌-◌}
use mathlib.Core.Path.{◌≡◌}
use lib.ListN.{length}
use Rattle.exports.specs.Runs.{written}
use Rattle.exports.proofs.luigi_writes_by_value.Given as goal

abbrev pub invariant-loop-i : goal.invariant-loop-i
invariant-loop-i l =
    (l.i ≤ l.i-end) × (l.i-end ≤ length l.at) × (l.i-end ≤ length l.value) × (length l.ram ≡ length l.initial.ram) × (length l.flash ≡ length l.initial.flash)
    × (l.c ≡ (written l.initial.c l.initial.ram l.initial.flash l.at l.value l.i).cartridge)
    × (l.ram ≡ (written l.initial.c l.initial.ram l.initial.flash l.at l.value l.i).ram)
    × (l.flash ≡ (written l.initial.c l.initial.ram l.initial.flash l.at l.value l.i).flash)

abbrev pub decreases-loop-i : goal.decreases-loop-i
decreases-loop-i l = l.i-end - l.i
