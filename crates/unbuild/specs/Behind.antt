-- Whether an image can be built, and its canonical BIN and CFG: those of the plan behind it (02, W-213).
use Rattle.std.specs.Prelude.{◌*◌, ◌+◌, ℕ, List, Bool, ◌&&◌, not, eqb}
use Rattle.basics.specs.Counts.{all}
use Rattle.places.specs.Limits.{paragraph_size}
use Rattle.print.specs.Cfg.{cfg_text}
use Rattle.plan.specs.Plan.{Plan}
use Rattle.behind.specs.Behind.{behind}
use Rattle.canon.specs.Bin.{canonical_bin}
use Rattle.canon.specs.Canonical.{mapping_entries, memattr_entries}
use Rattle.rebuild.specs.Fits.{fits}
use Rattle.unbuild.specs.Content.{image_jlp, image_tables, loaded_word, names_word}

-- Locutus paragraph p is named, all its words
abbrev pub names_paragraph : List ℕ → ℕ → Bool
names_paragraph s p = all paragraph_size (λ i. names_word s (paragraph_size * p + i))

abbrev pub plan_behind : List ℕ → Plan
plan_behind s = behind (image_tables s) (names_paragraph s)

-- the plan builds the image's tables, named words and JLP field
unfoldable pub rebuilds : Plan → List ℕ → Bool
rebuilds q s = eqb (image_jlp s) 0 && fits q (image_tables s) (names_word s) (loaded_word s)

-- 31: no BIN and CFG does, as the plan behind the image does not
unfoldable pub unbuildable : List ℕ → Bool
unbuildable s = not (rebuilds (plan_behind s) s)

-- the BIN and the CFG
abbrev pub bin_behind : List ℕ → List ℕ
bin_behind s = canonical_bin (plan_behind s) (loaded_word s)

abbrev pub cfg_of : Plan → List ℕ
cfg_of q = cfg_text (mapping_entries q) (memattr_entries q)

abbrev pub cfg_behind : List ℕ → List ℕ
cfg_behind s = cfg_of (plan_behind s)
