-- Rule 28 by arrays: the owners of the chapters' pages, and the kinds of the paragraphs.
use Rattle.std.specs.Prelude.{ℕ, ◌*◌, ◌+◌, Bool, ◌&&◌, ◌||◌, not, List, eqb, get_or}
use Rattle.basics.specs.Counts.{any}
use Rattle.places.specs.Limits.{chapter_pages}
use Rattle.rules.specs.Chapters.{throughout}

unfoldable pub paged_in : List ℕ → ℕ → Bool
paged_in pages x = any chapter_pages (λ y. not (eqb (get_or pages (chapter_pages * x + y) 0) 0))

-- all of the flippable range is of a kind
unfoldable pub all_in : List ℕ → ℕ → ℕ → Bool
all_in kinds x kind = throughout x (λ p. eqb (get_or kinds p 0) kind)

unfoldable pub breaks_in : List ℕ → List ℕ → ℕ → Bool
breaks_in pages kinds x = paged_in pages x && not (all_in kinds x 1 || all_in kinds x 0)
