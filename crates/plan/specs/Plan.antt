-- Plans: what the lines of a CFG make of the sixteen chapters, their words aside (01, How an image is laid out by the builder).
use Rattle.std.specs.Prelude.{ℕ, ◌/◌, ◌%◌, Bool, not, ◌||◌, eqb, ltb}
use Rattle.basics.specs.Counts.{any, all}
use Rattle.places.specs.Limits.{chapter_paragraphs, chapter_pages}
use Rattle.switches.specs.Flips.{first_k}

-- A chapter: the kind of each plain paragraph k of it, and whether it has page y. A kind is the permission that shows it: ROM 1,
-- RAM 16 3, RAM 8 7, and 0 where nothing plain is.
pub record Chapter : Type 0 where
  pub kind : ℕ → ℕ
  pub page : ℕ → Bool

abbrev pub Plan : Type 0
Plan = ℕ → Chapter

-- the kind of console paragraph p; chapter n / 16 has page n % 16
abbrev pub kinds : Plan → ℕ → ℕ
kinds q p = (q (p / chapter_paragraphs)).kind (p % chapter_paragraphs)

abbrev pub has_page : Plan → ℕ → Bool
has_page q n = (q (n / chapter_pages)).page (n % chapter_pages)

-- the chapter has plain paragraphs; it has pages
unfoldable pub has_plain : Chapter → Bool
has_plain c = any chapter_paragraphs (λ k. not (eqb (c.kind k) 0))

unfoldable pub has_pages : Chapter → Bool
has_pages c = any chapter_pages c.page

-- all of the flippable range of chapter x is of kind n: plain ROM, or nothing plain
unfoldable pub range_is : ℕ → Chapter → ℕ → Bool
range_is x c n = all chapter_paragraphs (λ k. ltb k (first_k x) || eqb (c.kind k) n)

abbrev pub is_under : ℕ → Chapter → Bool
is_under x c = range_is x c 1

abbrev pub is_bare : ℕ → Chapter → Bool
is_bare x c = range_is x c 0
