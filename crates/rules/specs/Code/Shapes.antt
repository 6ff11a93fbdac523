-- Rules 25 and 26 of one line, as facts: its addresses in order, and its shape.
use Rattle.std.specs.Prelude.{ℕ, ◌%◌, ◌≤◌, ◌<◌, ◌*◌, ◌/◌, ◌+◌, suc, ◌≡◌, ◌⊎◌}
use Rattle.places.specs.Limits.{paragraph_size, chapter_size, chapter_pages}
use Rattle.switches.specs.Flips.{first_k}
use Rattle.lines.specs.declared.Entry.{Entry}
use Rattle.lines.specs.Lines.{layer, first, last}

-- words a to b, whole paragraphs, clear of the three silent ranges
pub record PlainShape (a b : ℕ) : Type 0 where
  pub start : a % paragraph_size ≡ 0
  pub end : b % paragraph_size ≡ 255
  pub above : 0x500 ≤ a
  pub one : (b < 0x1000) ⊎ (0x2000 ≤ a)
  pub three : (b < 0x3000) ⊎ (0x4000 ≤ a)

-- words a to b, the flippable range of a chapter: 2 or 4 to 15
pub record PageShape (a b : ℕ) : Type 0 where
  pub start : a ≡ chapter_size * (a / chapter_size) + paragraph_size * first_k (a / chapter_size)
  pub end : suc b ≡ chapter_size * suc (a / chapter_size)
  pub above : 2 ≤ a / chapter_size
  pub not_three : a / chapter_size ≡ 3 → ⊥

pub record PlainLine (e : Entry) : Type 0 where
  pub on : layer e ≡ 0
  pub shape : PlainShape (first e) (last e)

pub record PageLine (e : Entry) : Type 0 where
  pub page : ℕ
  pub on : layer e ≡ suc page
  pub digit : page < chapter_pages
  pub shape : PageShape (first e) (last e)

pub record Fine (e : Entry) : Type 0 where
  pub ordered : first e ≤ last e
  pub ends : last e < 0x10000
  pub shape : (PlainLine e) ⊎ (PageLine e)
