-- The plan behind an image: chapter by chapter, from its permissions and flip entries, and from whether one paragraph is named (02, W-213).
use Rattle.std.specs.Prelude.{ℕ, zero, suc, ◌+◌, ◌*◌, Bool, cond, not, ◌&&◌, get_or, leb, eqb}
use Rattle.basics.specs.Counts.{any}
use Rattle.places.specs.Limits.{chapter_paragraphs, chapter_pages, page_paragraphs}
use Rattle.switches.specs.Flips.{first_k}
use Rattle.tables.specs.Tables.{Tables}
use Rattle.plan.specs.Plan.{Chapter, Plan}
use Rattle.plan.specs.Valid.{allowed, may_flip}
use Rattle.plan.specs.Image.{size}

-- chapter x has flip entries that PAGE lines could have given
unfoldable pub has_entries : ℕ → (ℕ → ℕ) → Bool
has_entries x row = may_flip x && any chapter_pages (λ y. not (eqb (row y) 0))

-- the entry of a page that is not there, where the chapter's Locutus pages start at b: 8, or that of plain ROM beneath the pages
unfoldable pub absent : (ℕ → ℕ) → ℕ → ℕ
absent row b = cond (any chapter_pages (λ y. eqb (row y) 8)) 8 (page_paragraphs * b + 9)

-- plain ROM lies beneath the pages: its paragraph 8, which is in every flippable range, is named
unfoldable pub hidden : (ℕ → ℕ) → (ℕ → Bool) → ℕ → Bool
hidden row named b = not (eqb (absent row b) 8) && named (page_paragraphs * b + 8)

-- the kind that a permission shows at paragraph p; none where no line could give it
abbrev pub kind_shown : ℕ → ℕ → ℕ
kind_shown p n = cond (allowed p n) n 0

-- the chapter behind its permissions and its row of flip entries
unfoldable pub chapter_behind : ℕ → (ℕ → ℕ) → (ℕ → ℕ) → (ℕ → Bool) → ℕ → Chapter
chapter_behind x permission row named b =
    record {
      kind =
          λ k.
          cond (has_entries x row && leb (first_k x) k) (cond (hidden row named b) 1 0) (kind_shown (chapter_paragraphs * x + k) (permission k));
      page = λ y. has_entries x row && not (eqb (row y) (absent row b));
    }

-- of these tables, where these Locutus paragraphs are named: the chapters in order, each behind the Locutus pages of those before it
module _ (t : Tables) (named : ℕ → Bool) where
  abbrev pub behind_at : ℕ → ℕ → Chapter
  behind_at x b =
      chapter_behind x (λ k. get_or t.permissions (chapter_paragraphs * x + k) 0) (λ y. get_or t.flips (chapter_pages * x + y) 0) named b

  unfoldable pub base_behind : ℕ → ℕ
  base_behind zero = 0
  base_behind (suc x) = base_behind x + size (behind_at x (base_behind x))

  abbrev pub behind : Plan
  behind x = behind_at x (base_behind x)
