-- The tables of a survey are those of its lines.
use Rattle.std.specs.Prelude.{ℕ, ◌+◌, ◌*◌, ◌/◌, ◌%◌, ◌<◌, ◌≤◌, suc, List, ◌≡◌, Bool, false, ◌||◌, get_or, eqb, ltb}
use Rattle.std.proofs.Math.Path.{sym, ap}
use Rattle.std.proofs.Common.{◌∙◌, arith}
use Rattle.std.proofs.Math.Bool.{not}
use Rattle.basics.specs.Options.{is_some}
use Rattle.basics.specs.Counts.{count, nth}
use Rattle.basics.specs.Tables.{table}
use Rattle.basics.specs.Laws.Tables.{get_d_table, table_same}
use Rattle.basics.specs.Laws.Counts.{any_same, all_same, count_same, count_most}
use Rattle.basics.specs.Laws.Nth.{nth_same, nth_below}
use Rattle.places.specs.Limits.{chapters, chapter_paragraphs, chapter_pages, paragraphs, layers, slots}
use Rattle.switches.specs.Flips.{first_k}
use Rattle.lines.specs.declared.Line.{Line}
use Rattle.lines.specs.Kinds.{kind_of}
use Rattle.rules.specs.Chapters.{line_in, uses, paged, kind_at, under}
use Rattle.layout.specs.declared.pages.Numbered.{Numbered}
use Rattle.layout.specs.Layout.{used, pages, slot_of_page}
use Rattle.layout.specs.Code.Survey.{line_of, Cells, used_in, paged_in, kind_in, under_in, is_used, numbered_of, Surveyed}
use Rattle.layout.specs.Laws.Cells.{some_line}

module _ {all ls : List Line} {o : List ℕ} (w : Cells all ls o) where
  pub line_at_lem : (t p : ℕ) → t < layers → p < paragraphs → line_of all (get_or o (paragraphs * t + p) 0) ≡ line_in ls t p
  line_at_lem t p h l =
      let a : (paragraphs * t + p) / paragraphs ≡ t = omega arith in
      let b : (paragraphs * t + p) % paragraphs ≡ p = omega arith in
      w.line (paragraphs * t + p) (omega arith) ∙ rw (a, b)

  used_by : (s : ℕ) → s < slots → used_in o (s / layers) (s % layers) ≡ used ls s
  unfolding used_in used uses
  used_by s h =
      any_same chapter_paragraphs (λ k. not (eqb (get_or o (paragraphs * (s % layers) + (chapter_paragraphs * (s / layers) + k)) 0) 0)) _
      (λ k m.
      sym (some_line all (get_or o (paragraphs * (s % layers) + (chapter_paragraphs * (s / layers) + k)) 0))
      ∙ ap is_some (line_at_lem (s % layers) (chapter_paragraphs * (s / layers) + k) (omega arith) (omega arith)))

  kind_by_lem : (p : ℕ) → p < paragraphs → kind_in all o p ≡ kind_at ls p
  kind_by_lem p h = let z : paragraphs * 0 + p ≡ p = omega arith in ap kind_of (rw z at (line_at_lem 0 p (omega arith) h))

paged_by : (ls : List Line) (u : List Bool) → u ≡ table slots (used ls) → (x : ℕ) → x < chapters → paged_in u x ≡ paged ls x
unfolding paged_in paged used
paged_by ls u e x h =
    any_same chapter_pages (λ y. get_or u (layers * x + suc y) false) (λ y. uses ls x (suc y))
    (λ y l.
    let a : (layers * x + suc y) / layers ≡ x = omega arith in
    let b : (layers * x + suc y) % layers ≡ suc y = omega arith in
    rw e (get_d_table false slots (used ls) (layers * x + suc y) (omega arith) ∙ rw (a, b)))

under_by : (ls : List Line) (v : List ℕ) → v ≡ table paragraphs (kind_at ls) → (x : ℕ) → x < chapters → under_in v x ≡ under ls x
unfolding under_in under
under_by ls v e x h =
    all_same chapter_paragraphs (λ k. ltb k (first_k x) || eqb (get_or v (chapter_paragraphs * x + k) 0) 1) _
    (λ k l.
    let z : get_or v (chapter_paragraphs * x + k) 0 ≡ kind_at ls (chapter_paragraphs * x + k) =
    rw e (get_d_table 0 paragraphs (kind_at ls) (chapter_paragraphs * x + k) (omega arith)) in
    rw z)

-- the pages by number
module _ (ls : List Line) (u : List Bool) (e : u ≡ table slots (used ls)) where
  is_used_lem : (s : ℕ) → s < slots → is_used u s ≡ used ls s
  is_used_lem s h = rw e (get_d_table false slots (used ls) s h)

  page_by : (numbered_of u).page ≡ table slots (count (used ls))
  unfolding numbered_of
  page_by = table_same 0 slots (count (is_used u)) (count (used ls)) (λ s h. count_same (is_used u) (used ls) s (λ i l. is_used_lem i (omega arith)))

  slot_by : (numbered_of u).slot ≡ table slots (slot_of_page ls)
  unfolding numbered_of slot_of_page
  slot_by = table_same 0 slots (nth (is_used u) slots) _ (λ s h. nth_same (is_used u) (used ls) slots s is_used_lem)

  pages_by : (numbered_of u).pages ≡ pages ls
  unfolding numbered_of pages
  pages_by = count_same (is_used u) (used ls) slots is_used_lem

-- pages are at most as many as the slots; the slot of a page is one of them
module _ (u : List Bool) (r : Numbered) (e : r ≡ numbered_of u) where
  pub numbered_few : r.pages ≤ slots
  unfolding numbered_of
  numbered_few = rw e (count_most (is_used u) slots)

  pub numbered_small : (s : ℕ) → s < slots → get_or r.page s 0 ≤ slots
  unfolding numbered_of
  numbered_small s h = rw (e, get_d_table 0 slots (count (is_used u)) s h) (omega (arith, count_most (is_used u) s))

  pub numbered_within : (n : ℕ) → n < slots → get_or r.slot n 0 < slots
  unfolding numbered_of
  numbered_within n h = rw (e, get_d_table 0 slots (nth (is_used u) slots) n h) (nth_below (is_used u) slots slots n (omega arith) (omega arith))

-- as the code comes to it
pub surveyed :
    (all ls : List Line) (o v : List ℕ) (u p d : List Bool) (r : Numbered) → Cells all ls o → v ≡ table paragraphs (kind_in all o)
    → u ≡ table slots (λ s. used_in o (s / layers) (s % layers)) → p ≡ table chapters (paged_in u) → d ≡ table chapters (under_in v) → r ≡ numbered_of u
    → (few : r.pages ≤ slots) (small : (s : ℕ) → s < slots → get_or r.page s 0 ≤ slots) (within : (n : ℕ) → n < slots → get_or r.slot n 0 < slots)
    → Surveyed all ls
    (record { cells = o; kinds = v; used = u; paged = p; under = d; page = r.page; slot = r.slot; pages = r.pages; few = few; small = small; within = within })
surveyed all ls o v u p d r w ev eu ep ed er few small within =
    record {
      cells_are = w;
      kinds_are = kinds_are;
      used_are = used_are;
      paged_are = ep ∙ table_same false chapters (paged_in u) (paged ls) (λ x h. paged_by ls u used_are x h);
      under_are = ed ∙ table_same false chapters (under_in v) (under ls) (λ x h. under_by ls v kinds_are x h);
      page_are = ap (λ (q : Numbered). q.page) er ∙ page_by ls u used_are;
      slot_are = ap (λ (q : Numbered). q.slot) er ∙ slot_by ls u used_are;
      pages_are = ap (λ (q : Numbered). q.pages) er ∙ pages_by ls u used_are;
    }
  where
    kinds_are : v ≡ table paragraphs (kind_at ls)
    kinds_are = ev ∙ table_same 0 paragraphs (kind_in all o) (kind_at ls) (λ i h. kind_by_lem w i h)

    used_are : u ≡ table slots (used ls)
    used_are = eu ∙ table_same false slots (λ s. used_in o (s / layers) (s % layers)) (used ls) (λ s h. used_by w s h)

-- the same where only the arrays are told: what a survey's type asks for follows from the numbering
pub surveyed_alone :
    (all ls : List Line) (o v : List ℕ) (u p d : List Bool) (r : Numbered) → Cells all ls o → v ≡ table paragraphs (kind_in all o)
    → u ≡ table slots (λ s. used_in o (s / layers) (s % layers)) → p ≡ table chapters (paged_in u) → d ≡ table chapters (under_in v)
    → (e : r ≡ numbered_of u) → Surveyed all ls
    (record {
      cells = o;
      kinds = v;
      used = u;
      paged = p;
      under = d;
      page = r.page;
      slot = r.slot;
      pages = r.pages;
      few = numbered_few u r e;
      small = numbered_small u r e;
      within = numbered_within u r e;
    })
surveyed_alone all ls o v u p d r w ev eu ep ed e =
    surveyed all ls o v u p d r w ev eu ep ed e (numbered_few u r e) (numbered_small u r e) (numbered_within u r e)
