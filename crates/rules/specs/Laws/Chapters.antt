-- Rule 28 by arrays: in lines that passed 25 and 26 the owners of a chapter's pages tell whether it has PAGE lines.
use Rattle.std.specs.Prelude.{ℕ, ◌<◌, ◌*◌, ◌+◌, ◌/◌, ◌%◌, suc, List, [], ◌∷◌, ◌≡◌, refl, Bool, true, false, cond, ◌&&◌, ◌||◌, eqb, ltb}
use Rattle.std.proofs.Math.Path.{sym, ap}
use Rattle.std.proofs.Common.{◌∙◌, arith, eqb-true, eq-eqb, ne_eqb}
use Rattle.std.proofs.Math.Bool.{not}
use Rattle.std.proofs.Math.Option.{some}
use Rattle.std.proofs.Math.ListN.{get_or}
use Rattle.basics.specs.Lists.{Each, none, also}
use Rattle.basics.specs.Options.{is_some}
use Rattle.basics.specs.Tables.{table}
use Rattle.basics.specs.Laws.Tests.{same_test, and_left, and_right, and_true}
use Rattle.basics.specs.Laws.Counts.{any_same, all_same}
use Rattle.basics.specs.Laws.Tables.{get_d_table}
use Rattle.places.specs.Limits.{paragraphs, paragraph_size, flip_entries, chapters, chapter_paragraphs, chapter_pages, chapter_size}
use Rattle.switches.specs.Flips.{first_k}
use Rattle.switches.specs.Laws.Flips.{first_small}
use Rattle.lines.specs.declared.Entry.{Entry}
use Rattle.lines.specs.declared.Line.{Line}
use Rattle.lines.specs.Kinds.{kind_by, kind_of}
use Rattle.lines.specs.Lines.{layer, first, last, holds}
use Rattle.lines.specs.Laws.Kinds.{kind_some}
use Rattle.lines.specs.Laws.Lines.{Within, within, holding}
use Rattle.lines.specs.Typed.{All, nil, cons}
use Rattle.owners.specs.Owners.{claims_page, claims_paragraph, only, or_else, first_has, page_owner}
use Rattle.rules.specs.Chapters.{line_in, uses, paged, kind_at, under, bare}
use Rattle.rules.specs.Rules.{breaks_plain}
use Rattle.rules.specs.Code.Shapes.{Fine, PageShape}
use Rattle.rules.specs.Code.Clashes.{Numbered, Allowed}
use Rattle.rules.specs.Code.Chapters.{paged_in, all_in, breaks_in}
use Rattle.rules.specs.Laws.Rules.{page_line_lem, chapter_of_lem, uses_page}

-- the kind of a paragraph is that of the first line that claims it
kind_by_lem : (b : Bool) (k n : ℕ) → eqb k 0 ≡ false → or_else (only b k) n ≡ cond b k n
kind_by_lem true k n e = rw e
kind_by_lem false k n e = refl

kind_cond : (b : Bool) (l : Line) (ls : List Line) (p : ℕ) → kind_of (cond b (some l) (line_in ls 0 p)) ≡ cond b (kind_by l.entry) (kind_at ls p)
kind_cond true l ls p = refl
kind_cond false l ls p = refl

pub kind_first : (lines : List Line) (p : ℕ) → first_has (λ l. kind_by l.entry) (claims_paragraph p) lines ≡ kind_at lines p
kind_first [] p = refl
kind_first (l ∷ ls) p =
    kind_by_lem (claims_paragraph p l.entry) (kind_by l.entry) (first_has (λ m. kind_by m.entry) (claims_paragraph p) ls) (kind_some l.entry)
    ∙ ap (cond (claims_paragraph p l.entry) (kind_by l.entry)) (kind_first ls p)
    ∙ sym (kind_cond (claims_paragraph p l.entry) l ls p)

module _ (x y : ℕ) (h : y < chapter_pages) where
  abbrev last_in : ℕ
  last_in = paragraph_size * (chapter_paragraphs * x + 15)

  -- a PAGE line claims page y of chapter x where it holds the chapter's last paragraph
  module _ (e : Entry) (f : Fine e) where
    held : layer e ≡ suc y → first e / chapter_size ≡ x → holds e last_in ≡ true
    held o c =
        let s : PageShape (first e) (last e) = page_line_lem f o in
        holding e last_in (record { from = omega (arith, s.start, first_small (first e / chapter_size)); to = omega (arith, s.end) })

    page_claimed : claims_page (chapter_pages * x + y) e ≡ eqb (layer e) (suc y) && holds e last_in
    page_claimed =
        let a : (chapter_pages * x + y) % chapter_pages ≡ y = omega arith in
        let b : (chapter_pages * x + y) / chapter_pages ≡ x = omega arith in
        rw (a, b)
        (same_test (eqb (layer e) (suc y) && eqb (first e / chapter_size) x) (eqb (layer e) (suc y) && holds e last_in)
        (λ q.
        let o : layer e ≡ suc y = eqb-true _ _ (and_left _ _ q) in
        and_true _ _ (eq-eqb _ _ o) (held o (eqb-true _ _ (and_right (eqb (layer e) (suc y)) _ q))))
        (λ q.
        let o : layer e ≡ suc y = eqb-true _ _ (and_left _ _ q) in
        let w : Within e last_in = within e last_in (and_right (eqb (layer e) (suc y)) _ q) in
        let c : last_in / chapter_size ≡ x = omega arith in
        and_true _ _ (eq-eqb _ _ o) (eq-eqb _ _ (chapter_of_lem (page_line_lem f o) last_in w ∙ c))))

  some_by : (b : Bool) (s n : ℕ) (l : Line) (ls : List Line) → 0 < s → not (eqb n 0) ≡ is_some (line_in ls (suc y) (chapter_paragraphs * x + 15))
      → not (eqb (or_else (only b s) n) 0) ≡ is_some (cond b (some l) (line_in ls (suc y) (chapter_paragraphs * x + 15)))
  some_by true s n l ls p e = rw (ne_eqb s 0 (omega arith), ne_eqb s 0 (omega arith))
  some_by false s n l ls p e = e

  owned_page : {lines : List Line} → All Fine lines → Each Numbered lines
      → not (eqb (page_owner lines (chapter_pages * x + y)) 0) ≡ is_some (line_in lines (suc y) (chapter_paragraphs * x + 15))
  owned_page nil none = refl
  owned_page (cons {l = l} {ls = ls} f fs) (also p ps) =
      rw (page_claimed l.entry f)
      (some_by (eqb (layer l.entry) (suc y) && holds l.entry last_in) l.source (page_owner ls (chapter_pages * x + y)) l ls p (owned_page fs ps))

module _ (lines : List Line) (a : Allowed lines) (pages kinds : List ℕ) (ep : pages ≡ table flip_entries (page_owner lines)) (ek : kinds ≡ table paragraphs (kind_at lines)) (x : ℕ) (h : x < chapters) where
  paged_in_lem : paged_in pages x ≡ paged lines x
  unfolding paged_in paged
  paged_in_lem =
      any_same chapter_pages (λ y. not (eqb (get_or pages (chapter_pages * x + y) 0) 0)) (λ y. uses lines x (suc y))
      (λ y l.
      let v : get_or pages (chapter_pages * x + y) 0 ≡ page_owner lines (chapter_pages * x + y) = rw ep (get_d_table 0 flip_entries (page_owner lines) (chapter_pages * x + y) (omega arith)) in
      ap (λ (i : ℕ). not (eqb i 0)) v ∙ owned_page x y l a.fine a.numbered ∙ sym (uses_page a.fine x y))

  kind_in_lem : (kind k : ℕ) → k < chapter_paragraphs → ltb k (first_k x) || eqb (get_or kinds (chapter_paragraphs * x + k) 0) kind ≡ ltb k (first_k x) || eqb (kind_at lines (chapter_paragraphs * x + k)) kind
  kind_in_lem kind k l =
      let v : get_or kinds (chapter_paragraphs * x + k) 0 ≡ kind_at lines (chapter_paragraphs * x + k) = rw ek (get_d_table 0 paragraphs (kind_at lines) (chapter_paragraphs * x + k) (omega arith)) in
      ap (λ (i : ℕ). ltb k (first_k x) || eqb i kind) v

  under_in_lem : all_in kinds x 1 ≡ under lines x
  unfolding all_in under
  under_in_lem = all_same chapter_paragraphs _ _ (kind_in_lem 1)

  bare_in : all_in kinds x 0 ≡ bare lines x
  unfolding all_in bare
  bare_in = all_same chapter_paragraphs _ _ (kind_in_lem 0)

  pub breaks_in_lem : breaks_in pages kinds x ≡ breaks_plain lines x
  unfolding breaks_in breaks_plain
  breaks_in_lem = rw (paged_in_lem, under_in_lem, bare_in)
