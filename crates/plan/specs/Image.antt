-- What an image of a plan is: its Locutus pages, its three tables, and the Locutus paragraphs that it names (01, How an image is
-- laid out by the builder). All that a chapter gives is a function of its number x, of the chapter c, and of the number b of its first page.
use Rattle.std.specs.Prelude.{ℕ, zero, suc, ◌+◌, ◌*◌, ◌/◌, ◌%◌, List, Bool, cond, not, ◌&&◌, ◌||◌, eqb, leb}
use Rattle.basics.specs.Counts.{any, count}
use Rattle.basics.specs.Tables.{table}
use Rattle.places.specs.Limits.{chapters, chapter_paragraphs, chapter_pages, paragraphs, flip_entries}
use Rattle.switches.specs.Flips.{first_k, flip_mapping, flip_permissions}
use Rattle.plan.specs.Plan.{Chapter, Plan, has_plain, has_pages, is_under}
use Rattle.plan.specs.Valid.{is_ram_kind}

-- one page for the chapter's plain paragraphs, if it has any, then its pages by number: how many, and the one of page y
abbrev pub plain_pages : Chapter → ℕ
plain_pages c = cond (has_plain c) 1 0

unfoldable pub size : Chapter → ℕ
size c = plain_pages c + count c.page chapter_pages

unfoldable pub page_at : Chapter → ℕ → ℕ → ℕ
page_at c b y = b + plain_pages c + count c.page y

-- the number of chapter x's first page; how many pages there are
unfoldable pub base : Plan → ℕ → ℕ
base q zero = 0
base q (suc x) = base q x + size (q x)

abbrev pub pages_of : Plan → ℕ
pages_of q = base q chapters

-- flip entry y: 16L + 9 for the page L that answers, else 8; 0 in a chapter without pages
unfoldable pub chapter_flip : ℕ → Chapter → ℕ → ℕ → ℕ
chapter_flip x c b y =
    cond (has_pages c) (cond (c.page y) (16 * page_at c b y + 9) (cond (is_under x c) (16 * b + 9) 8)) 0

-- paragraph k: in the flippable range of a chapter with pages as if page 0 had just been asked for, elsewhere by its kind
unfoldable pub turns : ℕ → Chapter → ℕ → Bool
turns x c k = has_pages c && leb (first_k x) k

unfoldable pub chapter_mapping : ℕ → Chapter → ℕ → ℕ → ℕ
chapter_mapping x c b k =
    cond (turns x c k) (flip_mapping (chapter_flip x c b 0) k) (cond (eqb (c.kind k) 0) 0 (chapter_paragraphs * b + k))

unfoldable pub chapter_permissions : ℕ → Chapter → ℕ → ℕ → ℕ
chapter_permissions x c b k = cond (turns x c k) (flip_permissions (chapter_flip x c b 0) k) (c.kind k)

-- the three tables
abbrev pub mapping_of : Plan → List ℕ
mapping_of q =
    table paragraphs (λ p. chapter_mapping (p / chapter_paragraphs) (q (p / chapter_paragraphs)) (base q (p / chapter_paragraphs)) (p % chapter_paragraphs))

abbrev pub permissions_of : Plan → List ℕ
permissions_of q =
    table paragraphs (λ p. chapter_permissions (p / chapter_paragraphs) (q (p / chapter_paragraphs)) (base q (p / chapter_paragraphs)) (p % chapter_paragraphs))

abbrev pub flips_of : Plan → List ℕ
flips_of q = table flip_entries (λ n. chapter_flip (n / chapter_pages) (q (n / chapter_pages)) (base q (n / chapter_pages)) (n % chapter_pages))

-- Locutus paragraph p holds plain words of the chapter; words of one of its pages; RAM
unfoldable pub holds_plain : Chapter → ℕ → ℕ → Bool
holds_plain c b p = eqb (p / chapter_paragraphs) b && not (eqb (c.kind (p % chapter_paragraphs)) 0)

unfoldable pub holds_page : ℕ → Chapter → ℕ → ℕ → Bool
holds_page x c b p =
    leb (first_k x) (p % chapter_paragraphs) && any chapter_pages (λ y. c.page y && eqb (p / chapter_paragraphs) (page_at c b y))

unfoldable pub holds_ram : Chapter → ℕ → ℕ → Bool
holds_ram c b p = eqb (p / chapter_paragraphs) b && is_ram_kind (c.kind (p % chapter_paragraphs))

-- the paragraphs that the image names, and those of them that are RAM
abbrev pub covered_of : Plan → ℕ → Bool
covered_of q p = any chapters (λ x. holds_plain (q x) (base q x) p || holds_page x (q x) (base q x) p)

abbrev pub ram_covered_of : Plan → ℕ → Bool
ram_covered_of q p = any chapters (λ x. holds_ram (q x) (base q x) p)
