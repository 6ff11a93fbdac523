-- What shows at a paragraph of the console, by a cartridge's active tables, its flip table and its accelerators. At load, power-on, the active tables are
-- the initial ones (01, The machine; 02, W-206).
use Rattle.std.specs.Prelude.{ℕ, ◌+◌, ◌*◌, ◌/◌, ◌%◌, Bool, not, ◌&&◌, List, [], ◌∷◌, leb, get_or}
use Rattle.basics.specs.Rows.{first_of}
use Rattle.basics.specs.Counts.{any}
use Rattle.places.specs.declared.Console.{Console}
use Rattle.places.specs.Limits.{paragraph_size, chapter_paragraphs, chapter_pages, page_paragraphs, locutus_paragraphs}
use Rattle.places.specs.Places.{console}
use Rattle.switches.specs.Flips.{acts, first_k}
use Rattle.jlp.specs.Window.{in_window}
use Rattle.cart.specs.declared.Cartridge.{Cartridge}
use Rattle.cart.specs.Cells.{READ, WRITE, NARROW}
use Rattle.cart.specs.Reads.{silent}
use Rattle.chart.specs.declared.Leaf.{Leaf}
use Rattle.chart.specs.declared.Leaf.TheVariants as Leaves
use Rattle.chart.specs.declared.Shown.{Shown}
use Rattle.chart.specs.declared.Shown.TheVariants.{Silent, Accelerators, Paged, Rom, Ram16, Ram8}

-- the address of paragraph p's first word
abbrev pub start_of : ℕ → Console
start_of p = console (p * paragraph_size)

-- chapter x has a flip entry that acts (01, The machine)
unfoldable pub has_pages : List ℕ → ℕ → Bool
has_pages flips x = any chapter_pages (λ y. acts flips (chapter_pages * x + y))

-- paragraph p is one that such an entry changes: in chapter 4 only k = 8 to 15 (01, The machine)
unfoldable pub is_paged : List ℕ → ℕ → Bool
is_paged flips p = leb (first_k (p / chapter_paragraphs)) (p % chapter_paragraphs) && has_pages flips (p / chapter_paragraphs)

-- words that no flip changes, by their permission (001, Permissions Table)
abbrev pub kind_of : ℕ → Shown
kind_of x = first_of ((not (READ x), Silent) ∷ (not (WRITE x), Rom) ∷ (not (NARROW x), Ram16) ∷ []) Ram8

-- the three silent ranges, the accelerators' window while they are on, pages, then words that no flip changes
unfoldable pub shown_at : Cartridge → ℕ → Shown
shown_at c p =
    first_of
    ((silent (start_of p), Silent) ∷ (c.jlp.on && in_window (start_of p), Accelerators) ∷ (is_paged c.flips p, Paged) ∷ [])
    (kind_of (get_or c.permissions p 0))

-- the pages of Locutus RAM (01, How an image is laid out by the builder), and the one that a flip entry names, modulo 2^19 words (01, The machine)
abbrev pub locutus_pages : ℕ
locutus_pages = locutus_paragraphs / page_paragraphs

abbrev pub page_of : ℕ → ℕ
page_of entry = entry / 16 % locutus_pages

-- what flip entry n shows in its chapter: nothing where it does not act, silence without READ, else its page
unfoldable pub leaf_at : List ℕ → ℕ → Leaf
leaf_at flips n = first_of ((not (acts flips n), Leaves.Idle) ∷ (not (READ (get_or flips n 0)), Leaves.Silent) ∷ []) (Leaves.Page (page_of (get_or flips n 0)))
