-- `text::first_foreign` meets its contract. The invariant: every byte passed is allowed.
use Prim.Native.Nat.{◌+◌}
use mathlib.Core.Path.{◌≡◌}
use lib.ListN.{drop}
use Rattle.text.specs.Bytes.{first_foreign, foreign, until}
use Rattle.text.proofs.first_foreign.Given as goal

abbrev pub invariant-loop-i : goal.invariant-loop-i
invariant-loop-i l = first_foreign l.text ≡ l.i + until foreign (drop l.i l.text)
