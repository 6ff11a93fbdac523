-- `map::show_pages` is safe and ends: each page has its place in the line.
use Prim.Native.Nat.{◌≤◌}
use mathlib.Core.Path.{◌≡◌}
use lib.ListN.{length}
use Rattle.places.specs.Limits.{chapter_pages}
use Rattle.map.proofs.show_pages.Given as goal

abbrev pub invariant-loop-y : goal.invariant-loop-y
invariant-loop-y l = (l.y ≤ chapter_pages) × (length l.line ≡ 52)
