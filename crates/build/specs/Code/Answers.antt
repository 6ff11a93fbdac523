-- What the steps of a build are given and answer.
use Rattle.std.specs.Prelude.{ℕ, ◌+◌, ◌*◌, ◌≤◌, min, cond, false, ◌||◌, List, ◌++◌, ◌≡◌, length, take, drop, ltb, eqb, Result}
use Rattle.basics.specs.declared.Refusal.{Refusal}
use Rattle.basics.specs.declared.Declined.{Declined}
use Rattle.basics.specs.Refusals.{refuse, no_refusal, passes}
use Rattle.places.specs.Limits.{page_size, bin_limit}
use Rattle.header.specs.Header.{header_size}
use Rattle.tables.specs.Tables.{tables, tables_size}
use Rattle.blocks.specs.Blocks.{frame_size}
use Rattle.label.specs.Label.{label_block, wrong_label}
use Rattle.save.specs.Writing.{Writing}
use Rattle.save.specs.Writing.{Content, content, writing_of, written_of}
use Rattle.lines.specs.declared.Line.{Line}
use Rattle.cfg.specs.File.{reading_of, entries_of}
use Rattle.layout.specs.declared.Drawing.{Drawing}
use Rattle.layout.specs.Layout.{needed}
use Rattle.build.specs.declared.Built.{Built}
use Rattle.build.specs.Building.{Building, outcome_of}
use Rattle.build.specs.Building.{image_on, flag_bytes, wrong_bin, too_large, building_of, built_of}

-- a refusal, and zero in all else; 29 with the length needed; and an image with the words that it needs
abbrev pub bare : Refusal → Building
bare r = record { refusal = r; length = 0; needed = 0 }

abbrev pub short : ℕ → Building
short n = record { refusal = refuse 29 0; length = n; needed = 0 }

abbrev pub whole : ℕ → ℕ → Building
whole n words = record { refusal = no_refusal; length = n; needed = words }

abbrev pub answered_of : Writing → ℕ → Building
answered_of w pages =
    record { refusal = w.refusal; length = w.length; needed = cond (passes w.refusal) (page_size * pages) 0 }

-- what the writer is given of a drawing, with this UID and a RAM that has its words
abbrev pub drawnContent : List ℕ → Drawing → List ℕ → Content
drawnContent uid d ram = content flag_bytes uid (tables d.mapping d.permissions d.flips) ram d.marks

-- the header and the tables block, which stand before the label's block
abbrev pub front_size : ℕ
front_size = header_size + (frame_size + tables_size)

-- an image that stands behind room for the label's block: what stands before its hunks goes to the front, and the block behind that
unfoldable pub labelPut : List ℕ → List ℕ → List ℕ
labelPut label out =
    cond (ltb (length out) (frame_size + length label + front_size)) out
    ((take front_size (drop (frame_size + length label) out) ++ label_block label) ++ drop (frame_size + length label + front_size) out)

-- the writer's answer and buffer for a content that gets a label: behind room for the label's block where it has one
abbrev pub roomOf : List ℕ → List ℕ → ℕ
roomOf label out = min (frame_size + length label) (length out)

unfoldable pub labelledOf : List ℕ → List ℕ → Content → Writing
labelledOf label out c =
    cond (eqb (length label) 0) (writing_of out c)
    (record { refusal = (writing_of (drop (roomOf label out) out) c).refusal; length = (writing_of (drop (roomOf label out) out) c).length + (frame_size + length label) })

unfoldable pub labelledLeft : List ℕ → List ℕ → Content → List ℕ
labelledLeft label out c =
    cond (eqb (length label) 0) (written_of out c)
    (cond (passes (writing_of (drop (roomOf label out) out) c).refusal)
    (labelPut label (take (roomOf label out) out ++ written_of (drop (roomOf label out) out) c)) out)

-- a BIN that 21 passes, and the lines of a CFG that was read
pub record Read (bin cfg : List ℕ) (lines : List Line) : Type 0 where
  pub fine : wrong_bin bin ≡ false
  pub small : length bin ≤ bin_limit
  pub accepted : (reading_of cfg).refusal.number ≡ 0
  pub entries : lines ≡ entries_of cfg

-- a build's answer, and the buffer after it
pub record Answers (bin cfg label out : List ℕ) (r : Building) (after : List ℕ) : Type 0 where
  pub answer : r ≡ building_of bin cfg label out
  pub leaves : after ≡ built_of bin cfg label out

-- what pressing lines that the rules accept answers, and what it leaves
pub record Pressed (bin cfg label : List ℕ) (lines : List Line) (out : List ℕ) (r : Result Built Declined) (after : List ℕ) : Type 0 where
  pub answer : r ≡ outcome_of (cond (too_large lines) (bare (refuse 20 0))
      (cond (wrong_label label) (bare (refuse 12 0))
      (cond (ltb (length out) (length (image_on bin cfg label lines))) (short (length (image_on bin cfg label lines))) (whole (length (image_on bin cfg label lines)) (needed lines)))))
  pub leaves : after ≡ cond (too_large lines || (wrong_label label || ltb (length out) (length (image_on bin cfg label lines)))) out
      (image_on bin cfg label lines ++ drop (length (image_on bin cfg label lines)) out)
