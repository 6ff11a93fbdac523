-- The canonical entries of a plan (02, W-213): adjacent plain paragraphs of one kind in one line, also across chapters, by address; then paged lines
-- one each, by chapter and page; RAM last. Each has its own words of the BIN, in the order of the lines.
use Rattle.std.specs.Prelude.{◌%◌, ◌*◌, ◌+◌, ◌-◌, ◌/◌, suc, zero, ℕ, List, ◌++◌, Bool, ◌&&◌, cond, eqb}
use Rattle.basics.specs.Counts.{count}
use Rattle.places.specs.Limits.{chapter_pages, chapter_paragraphs, chapter_size, flip_entries, paragraph_size, paragraphs}
use Rattle.places.specs.Places.{bin_word, console, page}
use Rattle.places.specs.declared.Console.{Console}
use Rattle.switches.specs.Flips.{first_k}
use Rattle.lines.specs.declared.Entry.{Entry}
use Rattle.lines.specs.declared.Entry.TheVariants.{Paged, Ram, Rom}
use Rattle.lines.specs.declared.Width.{Width}
use Rattle.lines.specs.declared.Width.TheVariants.{Eight, Sixteen}
use Rattle.plan.specs.Fewest.{starts}
use Rattle.plan.specs.Plan.{Plan, has_page, kinds}
use Rattle.plan.specs.Valid.{is_ram_kind}
use Rattle.basics.specs.Listed.{listed}

-- how many of the n paragraphs from p on have p's kind, one after the other
unfoldable pub reach : (ℕ → ℕ) → ℕ → ℕ → ℕ
reach kind p zero = 0
reach kind p (suc n) = cond (eqb (reach kind p n) n && eqb (kind (p + n)) (kind p)) (suc n) (reach kind p n)

abbrev pub run_at : Plan → ℕ → ℕ
run_at q p = reach (kinds q) p (paragraphs - p)

-- paragraph p is plain ROM; runs of ROM and of RAM start there
abbrev pub is_rom : Plan → ℕ → Bool
is_rom q p = eqb (kinds q p) 1

abbrev pub starts_rom : Plan → ℕ → Bool
starts_rom q p = starts (kinds q) p && is_rom q p

abbrev pub starts_ram : Plan → ℕ → Bool
starts_ram q p = starts (kinds q) p && is_ram_kind (kinds q p)

-- the words of a page of chapter x, and where they start in the chapter
abbrev pub page_words : ℕ → ℕ
page_words x = paragraph_size * (chapter_paragraphs - first_k x)

abbrev pub page_start : ℕ → Console
page_start x = console (chapter_size * x + paragraph_size * first_k x)

-- the BIN word of plain paragraph p; of page y of chapter x, where n = 16x + y
abbrev pub rom_offset : Plan → ℕ → ℕ
rom_offset q p = paragraph_size * count (is_rom q) p

unfoldable pub page_offset : Plan → ℕ → ℕ
page_offset q zero = rom_offset q paragraphs
page_offset q (suc n) = cond (has_page q n) (page_offset q n + page_words (n / chapter_pages)) (page_offset q n)

-- the width of RAM of this kind
abbrev pub ram_width : ℕ → Width
ram_width n = cond (eqb n 3) Sixteen Eight

-- a run of ROM from paragraph p on; page n % 16 of chapter n / 16; a run of RAM
abbrev pub rom_entry : Plan → ℕ → Entry
rom_entry q p = Rom (bin_word (rom_offset q p)) (bin_word (rom_offset q p + (paragraph_size * run_at q p - 1))) (console (paragraph_size * p))

abbrev pub page_entry : Plan → ℕ → Entry
page_entry q n =
    Paged (bin_word (page_offset q n)) (bin_word (page_offset q n + (page_words (n / chapter_pages) - 1))) (page_start (n / chapter_pages))
    (page (n % chapter_pages))

abbrev pub ram_entry : Plan → ℕ → Entry
ram_entry q p = Ram (console (paragraph_size * p)) (console (paragraph_size * p + (paragraph_size * run_at q p - 1))) (ram_width (kinds q p))

-- those of [mapping], and those of [memattr]
abbrev pub mapping_entries : Plan → List Entry
mapping_entries q = listed paragraphs (starts_rom q) (rom_entry q) ++ listed flip_entries (has_page q) (page_entry q)

abbrev pub memattr_entries : Plan → List Entry
memattr_entries q = listed paragraphs (starts_ram q) (ram_entry q)
