-- How the builder lays an image out: Locutus pages, the three tables, and the words of each covered paragraph (01, How an
-- image is laid out by the builder).
use Rattle.std.specs.Prelude.{ℕ, ◌*◌, ◌+◌, ◌/◌, ◌%◌, suc, List, Bool, cond, ◌&&◌, leb, ltb}
use Rattle.std.proofs.Math.Option.{Option, none, some}
use Rattle.basics.specs.Counts.{count, nth}
use Rattle.basics.specs.Options.{is_some}
use Rattle.basics.specs.Tables.{table}
use Rattle.places.specs.declared.Console.{Console}
use Rattle.places.specs.Places.{console}
use Rattle.places.specs.Limits.{slots, layers, paragraphs, chapter_paragraphs, chapter_pages, flip_entries, paragraph_size, page_size, page_paragraphs}
use Rattle.jlp.specs.Accelerators.{fresh_jlp}
use Rattle.cart.specs.declared.Cartridge.{Cartridge}
use Rattle.cart.specs.Cartridges.{fresh}
use Rattle.switches.specs.Flips.{first_k, flip_mapping, flip_permissions}
use Rattle.lines.specs.declared.Line.{Line}
use Rattle.lines.specs.declared.Entry.{Entry}
use Rattle.lines.specs.declared.Entry.TheVariants.{Rom, Paged, Ram}
use Rattle.lines.specs.Bin.{bin_word, bin_place}
use Rattle.rules.specs.Chapters.{line_in, uses, paged, kind_at, under}

-- A slot is a layer of a chapter, in the order of the pages: chapters rising; in each, its plain lines (layer 0), then its
-- PAGE lines by page number (layer 1 + y).
abbrev pub slot_of : ℕ → ℕ → ℕ
slot_of x t = layers * x + t

unfoldable pub used : List Line → ℕ → Bool
used lines s = uses lines (s / layers) (s % layers)

-- The slots in use are the Locutus pages, numbered from 0: the page of layer t of chapter x, how many pages there are, and
-- the slot of page n.
unfoldable pub page_of : List Line → ℕ → ℕ → ℕ
page_of lines x t = count (used lines) (slot_of x t)

unfoldable pub pages : List Line → ℕ
pages lines = count (used lines) slots

unfoldable pub slot_of_page : List Line → ℕ → ℕ
slot_of_page lines n = nth (used lines) slots n

abbrev pub needed : List Line → ℕ
needed lines = page_size * pages lines

-- the Locutus page that answers in chapter x while page y is asked for: the PAGE line's, else that of plain ROM that covers
-- the flippable range
unfoldable pub answering : List Line → ℕ → ℕ → Option ℕ
answering lines x y =
    cond (uses lines x (suc y)) (some (page_of lines x (suc y))) (cond (under lines x) (some (page_of lines x 0)) none)

-- flip entry y of a chapter with PAGE lines is 16L + 9 for the page L that answers there, else 8; all other entries are 0
abbrev pub entry_for : Option ℕ → ℕ
entry_for none = 8
entry_for (some n) = page_paragraphs * n + 9

unfoldable pub flip_entry : List Line → ℕ → ℕ → ℕ
flip_entry lines x y = cond (paged lines x) (entry_for (answering lines x y)) 0

-- paragraph p lies in the flippable range of a chapter with PAGE lines
unfoldable pub flippable : List Line → ℕ → Bool
flippable lines p = paged lines (p / chapter_paragraphs) && leb (first_k (p / chapter_paragraphs)) (p % chapter_paragraphs)

-- The mapping and the permissions of paragraph p, where page y of its chapter has just been asked for. Outside the flippable
-- ranges a plain paragraph maps to 16L + k, and its kind is its permissions; the rest maps to 0 with permission 0.
abbrev pub plain_mapping : List Line → ℕ → ℕ
plain_mapping lines p =
    cond (is_some (line_in lines 0 p)) (page_paragraphs * page_of lines (p / chapter_paragraphs) 0 + p % chapter_paragraphs) 0

unfoldable pub mapping_at : List Line → ℕ → ℕ → ℕ
mapping_at lines y p =
    cond (flippable lines p) (flip_mapping (flip_entry lines (p / chapter_paragraphs) y) (p % chapter_paragraphs)) (plain_mapping lines p)

unfoldable pub permissions_at : List Line → ℕ → ℕ → ℕ
permissions_at lines y p =
    cond (flippable lines p) (flip_permissions (flip_entry lines (p / chapter_paragraphs) y) (p % chapter_paragraphs)) (kind_at lines p)

-- the three tables: the flippable paragraphs start as if page 0 had just been asked for
abbrev pub mapping_table : List Line → List ℕ
mapping_table lines = table paragraphs (mapping_at lines 0)

abbrev pub permissions_table : List Line → List ℕ
permissions_table lines = table paragraphs (permissions_at lines 0)

abbrev pub flip_table : List Line → List ℕ
flip_table lines = table flip_entries (λ n. flip_entry lines (n / chapter_pages) (n % chapter_pages))

-- the cartridge with these tables, as a load leaves it
abbrev pub cartridge_of : List Line → Cartridge
cartridge_of lines = fresh (fresh_jlp 0 0) (mapping_table lines) (permissions_table lines) (flip_table lines)

-- the word that a line has at an address when the image is written: the BIN's; declared RAM is written as zeros
abbrev pub written_by : List ℕ → Entry → Console → ℕ
written_by bin (Rom lo hi at) a = bin_word bin (bin_place lo at a)
written_by bin (Paged lo hi at y) a = bin_word bin (bin_place lo at a)
written_by bin (Ram lo hi w) a = 0

abbrev pub written_of : List ℕ → Option Line → Console → ℕ
written_of bin none a = 0
written_of bin (some l) a = written_by bin l.entry a

-- Locutus paragraph p holds a paragraph of the console, on a layer
abbrev pub layer_held : List Line → ℕ → ℕ
layer_held lines p = slot_of_page lines (p / page_paragraphs) % layers

abbrev pub paragraph_held : List Line → ℕ → ℕ
paragraph_held lines p = chapter_paragraphs * (slot_of_page lines (p / page_paragraphs) / layers) + p % page_paragraphs

-- the line behind it; it is covered where there is one
unfoldable pub line_held : List Line → ℕ → Option Line
line_held lines p = cond (ltb (p / page_paragraphs) (pages lines)) (line_in lines (layer_held lines p) (paragraph_held lines p)) none

abbrev pub covered : List Line → ℕ → Bool
covered lines p = is_some (line_held lines p)

-- the words of its hunk
unfoldable pub paragraph_words : List ℕ → List Line → ℕ → List ℕ
paragraph_words bin lines p =
    table paragraph_size (λ i. written_of bin (line_held lines p) (console (paragraph_size * paragraph_held lines p + i)))
