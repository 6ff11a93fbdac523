-- `map::show_chapter` is safe and ends: each sign has its place in the line.
use Prim.Native.Nat.{◌≤◌}
use mathlib.Core.Path.{◌≡◌}
use lib.ListN.{length}
use Rattle.places.specs.Limits.{chapter_paragraphs}
use Rattle.map.proofs.show_chapter.Given as goal

abbrev pub invariant-loop-k : goal.invariant-loop-k
invariant-loop-k l = (l.k ≤ chapter_paragraphs) × (length l.line ≡ 37)
