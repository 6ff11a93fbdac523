-- The fewest lines that a plan takes: one for each run of plain paragraphs of one kind, which its first paragraph stands for, and one for
-- each page (01, What a CFG may say).
use Rattle.std.specs.Prelude.{ℕ, ◌+◌, ◌-◌, Bool, not, ◌&&◌, ◌||◌, eqb}
use Rattle.basics.specs.Counts.{count}
use Rattle.places.specs.Limits.{paragraphs, flip_entries}
use Rattle.plan.specs.Plan.{Plan, kinds, has_page}

unfoldable pub starts : (ℕ → ℕ) → ℕ → Bool
starts kind p = not (eqb (kind p) 0) && (eqb p 0 || not (eqb (kind (p - 1)) (kind p)))

unfoldable pub fewest : Plan → ℕ
fewest q = count (starts (kinds q)) paragraphs + count (has_page q) flip_entries
