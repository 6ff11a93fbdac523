-- Plans that lines may have: rules 26 and 28 (01, What a CFG may say).
use Rattle.std.specs.Prelude.{ℕ, ◌+◌, ◌*◌, ◌<◌, ◌≡◌, Bool, true, not, ◌&&◌, ◌||◌, eqb, leb}
use Rattle.places.specs.Limits.{chapters, chapter_paragraphs, paragraph_size}
use Rattle.places.specs.Places.{console}
use Rattle.cart.specs.Reads.{silent}
use Rattle.plan.specs.Plan.{Chapter, Plan, has_pages, is_under, is_bare}

-- reads of paragraph p are silent
unfoldable pub quiet : ℕ → Bool
quiet p = silent (console (paragraph_size * p))

-- RAM 16 or RAM 8
abbrev pub is_ram_kind : ℕ → Bool
is_ram_kind n = eqb n 3 || eqb n 7

-- 26: paragraph p may be of kind n; pages lie in chapters 2 and 4 to 15
unfoldable pub allowed : ℕ → ℕ → Bool
allowed p n = eqb n 0 || (not (quiet p) && (eqb n 1 || is_ram_kind n))

unfoldable pub may_flip : ℕ → Bool
may_flip x = eqb x 2 || leb 4 x

-- 28: under pages is plain ROM throughout, or nothing plain
pub record ValidAt (x : ℕ) (c : Chapter) : Type 0 where
  pub kinds : (k : ℕ) → k < chapter_paragraphs → allowed (chapter_paragraphs * x + k) (c.kind k) ≡ true
  pub pages : has_pages c ≡ true → may_flip x ≡ true
  pub range : has_pages c ≡ true → is_under x c || is_bare x c ≡ true

abbrev pub Valid : Plan → Type 0
Valid q = (x : ℕ) → x < chapters → ValidAt x (q x)
