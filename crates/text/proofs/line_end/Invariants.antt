-- `text::line_end` meets its contract. The invariant: the line goes on at i, or ends there.
use Prim.Native.Nat.{◌+◌}
use mathlib.Core.Path.{◌≡◌}
use lib.ListN.{drop}
use Rattle.text.specs.Bytes.{until}
use Rattle.text.specs.Lines.{ends, line_end}
use Rattle.text.proofs.line_end.Given as goal

abbrev pub invariant-loop-i : goal.invariant-loop-i
invariant-loop-i l = line_end l.text l.at ≡ l.i + until ends (drop l.i l.text)
