-- The flip entries, as the code makes them from the rows of answering pages.
use Prim.Native.Nat.{ℕ, ◌≤◌, ◌<◌, ◌/◌, ◌%◌, ◌+◌, ◌*◌}
use mathlib.Core.Bool.{Bool, true, false, cond}
use mathlib.Core.List.{List, []}
use mathlib.Core.Path.{◌≡◌, sym, ap, ◌∙◌}
use native.Mathlib.Omega.{arith}
use lib.ListN.{get_or}
use Rattle.std.proofs.Common.{Option, Some, None}
use Rattle.basics.specs.Laws.Tables.{get_d_table}
use Rattle.places.specs.Limits.{slots, layers, chapters, chapter_pages, flip_entries, page_paragraphs}
use Rattle.layout.specs.declared.found.Survey.{Survey}
use Rattle.layout.specs.Code.Survey.{is_used}
use Rattle.layout.specs.Code.Entries.{answer_in, row_in, rows_in, entry_of, flip_in}

few_by :
    (used : Bool) (page : ℕ) (under : Bool) (plain n : ℕ) → page ≤ slots → plain ≤ slots
    → cond used (Some page) (cond under (Some plain) None) ≡ Some n → n ≤ slots
few_by true page under plain n h l e = let q : page ≡ n = cc in rw q at h
few_by false page true plain n h l e = let q : plain ≡ n = cc in rw q at l
few_by false page false plain n h l e = cc

module _ (s : Survey) (rows : List (List (Option ℕ))) (n : ℕ) (h : n < flip_entries) (e : rows ≡ rows_in s) where
  abbrev answer : Option ℕ
  answer = get_or (get_or rows (n / chapter_pages) []) (n % chapter_pages) None

  -- row x has at place y the answer of chapter x for page y
  answers : answer ≡ answer_in s (n / chapter_pages) (n % chapter_pages)
  unfolding row_in
  answers =
      rw (e, get_d_table [] chapters (row_in s) (n / chapter_pages) (omega arith))
      (get_d_table None chapter_pages (answer_in s (n / chapter_pages)) (n % chapter_pages) (omega arith))

  pub few_at : (page : ℕ) → answer ≡ Some page → page ≤ slots
  few_at page q =
      few_by (is_used s.used (layers * (n / chapter_pages) + (n % chapter_pages + 1)))
      (get_or s.page (layers * (n / chapter_pages) + (n % chapter_pages + 1)) 0)
      (get_or s.under (n / chapter_pages) false) (get_or s.page (layers * (n / chapter_pages)) 0) page
      (s.small (layers * (n / chapter_pages) + (n % chapter_pages + 1)) (omega arith)) (s.small (layers * (n / chapter_pages)) (omega arith)) (sym answers ∙ q)

  pub entry_some : (page : ℕ) → get_or s.paged (n / chapter_pages) false ≡ true → answer ≡ Some page → page_paragraphs * page + 9 ≡ flip_in s n
  entry_some page p q = rw p (ap entry_of (sym q ∙ answers))

  pub entry_none : get_or s.paged (n / chapter_pages) false ≡ true → answer ≡ None → 8 ≡ flip_in s n
  entry_none p q = rw p (ap entry_of (sym q ∙ answers))
