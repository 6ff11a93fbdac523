-- Where a plan has all sixteen pages in a chapter and no plain paragraph there, page 0's words may as well be plain: the image is the same, and
-- the plan behind it has them so (W-213, Q*).
use Rattle.std.specs.Prelude.{◌<◌, ℕ, ◌≡◌, Bool, ◌&&◌, ◌||◌, cond, not, eqb, leb}
use Rattle.basics.specs.Counts.{all}
use Rattle.places.specs.Limits.{chapter_pages, chapter_paragraphs}
use Rattle.switches.specs.Flips.{first_k}
use Rattle.plan.specs.Image.{holds_page, holds_plain}
use Rattle.plan.specs.Plan.{Chapter, Plan, has_plain}

unfoldable pub full : Chapter → Bool
full c = all chapter_pages c.page && not (has_plain c)

abbrev pub moved : ℕ → Chapter
moved x = record { kind = λ k. cond (leb (first_k x) k) 1 0; page = λ y. not (eqb y 0) }

abbrev pub star_at : ℕ → Chapter → Chapter
star_at x c = cond (full c) (moved x) c

abbrev pub star : Plan → Plan
star q x = star_at x (q x)

-- two chapters are the same, paragraph by paragraph and page by page
pub record Same (c d : Chapter) : Type 0 where
  pub kinds : (k : ℕ) → k < chapter_paragraphs → c.kind k ≡ d.kind k
  pub pages : (y : ℕ) → y < chapter_pages → c.page y ≡ d.page y

-- a chapter holds words of Locutus paragraph p, plain or of a page
abbrev pub holds_any : ℕ → Chapter → ℕ → ℕ → Bool
holds_any x c b p = holds_plain c b p || holds_page x c b p
