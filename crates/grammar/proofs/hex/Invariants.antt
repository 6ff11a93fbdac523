-- `grammar::hex` meets its contract. The invariant: n is what the digits passed make, and what is left goes on from n.
use Prim.Native.Nat.{◌≤◌, ◌<◌, ◌^◌}
use mathlib.Core.Path.{◌≡◌}
use lib.ListN.{length, drop}
use Rattle.grammar.specs.Grammar.{hex_of, hex_from}
use Rattle.grammar.proofs.hex.Given as goal

abbrev pub invariant-loop-b : goal.invariant-loop-b
invariant-loop-b l = (l.b-index ≤ length l.w) × (l.n < 16 ^ l.b-index) × (hex_of l.w ≡ hex_from l.n (drop l.b-index l.w))
