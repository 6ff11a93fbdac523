-- Readable paragraphs at a glance: how many of the active paragraphs have READ (02, W-211).
use Rattle.std.specs.Prelude.{ℕ, ◌+◌, ◌-◌, ◌%◌, List, slice_index}
use Rattle.basics.specs.Counts.{count}
use Rattle.places.specs.Limits.{paragraphs}
use Rattle.cart.specs.Cells.{READ}

-- of n permissions from place a on, and of all 256
unfoldable pub readable_in : List ℕ → ℕ → ℕ → ℕ
readable_in permissions a n = count (λ i. READ (slice_index permissions (a + i))) n

abbrev pub readable_of : List ℕ → ℕ
readable_of permissions = readable_in permissions 0 paragraphs

-- the number that is kept, when a part of the table that had so many before has so many after; in 16 bits, so that it is determined for
-- every number that is kept
abbrev pub recounted : ℕ → ℕ → ℕ → ℕ
recounted kept before after = (kept + after + (0x10000 - before)) % 0x10000
