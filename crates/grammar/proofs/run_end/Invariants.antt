-- `grammar::run_end` meets its contract. The invariant: the bytes of the kind go on at i, or end there.
use Prim.Native.Nat.{◌+◌}
use mathlib.Core.Path.{◌≡◌}
use lib.ListN.{drop}
use Rattle.text.specs.Bytes.{until}
use Rattle.grammar.specs.Code.Steps.{same_kind, ends_run, run_end}
use Rattle.grammar.proofs.run_end.Given as goal

abbrev pub invariant-loop-i : goal.invariant-loop-i
invariant-loop-i l = run_end (same_kind l.kind) l.line l.at ≡ l.i + until (ends_run (same_kind l.kind)) (drop l.i l.line)
