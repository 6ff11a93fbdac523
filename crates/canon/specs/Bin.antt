-- The BIN of the canonical entries (02, W-213): BIN words in the order of the lines; a cartridge of RAM alone gets one zero word.
use Rattle.std.specs.Prelude.{◌%◌, ◌*◌, ◌+◌, ◌/◌, ℕ, List, [], ◌++◌, ◌∷◌}
use Rattle.basics.specs.Lists.{flat, joined}
use Rattle.basics.specs.Tables.{table}
use Rattle.places.specs.Limits.{chapter_pages, chapter_paragraphs, flip_entries, page_paragraphs, paragraph_size, paragraphs}
use Rattle.switches.specs.Flips.{first_k}
use Rattle.plan.specs.Image.{base, page_at}
use Rattle.plan.specs.Plan.{Plan, has_page}
use Rattle.canon.specs.Canonical.{is_rom, page_words}
use Rattle.basics.specs.Listed.{listed}

-- Locutus words a to a + n - 1, where Locutus word i holds w i
abbrev pub words_from : (ℕ → ℕ) → ℕ → ℕ → List ℕ
words_from w a n = table n (λ i. w (a + i))

-- the Locutus word where plain paragraph p starts, and where page n % 16 of chapter n / 16 does
abbrev pub plain_place : Plan → ℕ → ℕ
plain_place q p = paragraph_size * (page_paragraphs * base q (p / chapter_paragraphs) + p % chapter_paragraphs)

abbrev pub page_place : Plan → ℕ → ℕ
page_place q n =
    paragraph_size
    * (page_paragraphs * page_at (q (n / chapter_pages)) (base q (n / chapter_pages)) (n % chapter_pages) + first_k (n / chapter_pages))

-- the words of the plain paragraphs of ROM, by address, then those of the pages
abbrev pub rom_words : Plan → (ℕ → ℕ) → List ℕ
rom_words q w = flat (listed paragraphs (is_rom q) (λ p. words_from w (plain_place q p) paragraph_size))

abbrev pub paged_words : Plan → (ℕ → ℕ) → List ℕ
paged_words q w = flat (listed flip_entries (has_page q) (λ n. words_from w (page_place q n) (page_words (n / chapter_pages))))

-- a BIN is not empty (01, refusal 21)
abbrev pub or_zero : List ℕ → List ℕ
or_zero [] = 0 ∷ []
or_zero (v ∷ vs) = v ∷ vs

unfoldable pub canonical_words : Plan → (ℕ → ℕ) → List ℕ
canonical_words q w = or_zero (rom_words q w ++ paged_words q w)

-- big endian
abbrev pub be16 : ℕ → List ℕ
be16 v = v / 256 ∷ v % 256 ∷ []

unfoldable pub canonical_bin : Plan → (ℕ → ℕ) → List ℕ
canonical_bin q w = joined be16 (canonical_words q w)
