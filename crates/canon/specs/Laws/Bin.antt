-- The length of the BIN that the canonical lines take.
use Prim.Native.Nat.{ℕ}
use Rattle.places.specs.Limits.{flip_entries}
use Rattle.plan.specs.Plan.{Plan}
use Rattle.canon.specs.Canonical.{page_offset}

-- how many words the lines have
abbrev pub bin_size : Plan → ℕ
bin_size q = page_offset q flip_entries
