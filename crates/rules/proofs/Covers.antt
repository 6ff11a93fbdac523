-- Rule 28: the kinds of the paragraphs, line by line; a chapter's paragraphs, one by one; and the search for the lowest chapter.
use Prim.Native.Nat.{ℕ, suc, ◌≤◌, ◌<◌, ◌+◌, ◌-◌, ◌*◌}
use Rattle.std.specs.Prelude.{Ok, Err}
use mathlib.Core.List.{List}
use mathlib.Core.Bool.{Bool, true, false, cond, ◌||◌}
use mathlib.Core.Path.{◌≡◌, refl, sym, ap, ◌∙◌}
use mathlib.Core.Logic.{⊎_elim}
use native.Mathlib.Omega.{arith}
use native.Mathlib.Nat.{eq-or-lt_of_le}
use borrow.Author.Tests.{eq-eqb, ne_eqb, le-ltb, ltb-false}
use lib.Dec.{eqb, ltb}
use lib.ListN.{take, length, get_or, replicate}
use Rattle.basics.specs.declared.Refusal.{Refusal}
use Rattle.basics.specs.Rows.{Row}
use Rattle.basics.specs.Refusals.{refuse, no_refusal, first_refusal, passed}
use Rattle.basics.specs.Tables.{made, table}
use Rattle.basics.specs.Laws.Tables.{table_same}
use Rattle.places.specs.Limits.{chapters, paragraphs, chapter_paragraphs}
use Rattle.switches.specs.Flips.{first_k}
use Rattle.lines.specs.declared.Line.{Line}
use Rattle.lines.specs.Kinds.{kind_by}
use Rattle.owners.specs.Owners.{claims_paragraph, first_has, claimed_by}
use Rattle.owners.specs.Laws.Owners.{nobody, claimed_more}
use Rattle.rules.specs.Chapters.{kind_at}
use Rattle.rules.specs.Code.Chapters.{all_in}
use Rattle.rules.specs.Laws.Chapters.{kind_first}
use Rattle.basics.specs.Laws.Counts.{all_at, all_of}
use Rattle.basics.specs.Laws.Tests.{cases, true_is_not_false}
use Rattle.basics.specs.Counts.{all}
use Rattle.rules.proofs.Lists.{no_line, passed_line, all_lines}

-- the kinds that the first k lines give
abbrev kind_in : List Line → ℕ → ℕ
kind_in ls p = first_has (λ l. kind_by l.entry) (claims_paragraph p) ls

pub record Kinding (lines : List Line) (kinds : List ℕ) (k : ℕ) : Type 0 where
  pub up : k ≤ length lines
  pub is : kinds ≡ table paragraphs (kind_in (take k lines))

pub kinding_none : (lines : List Line) → Kinding lines (replicate 256 0) 0
kinding_none lines = record { up = omega arith; is = nobody paragraphs }

module _ (lines : List Line) (kinds : List ℕ) (k : ℕ) (c : Kinding lines kinds k) where
  pub kinding_more : k < length lines → (kind : ℕ) → kind ≡ kind_by (get_or lines k no_line).entry → (next : List ℕ)
      → next ≡ table paragraphs (claimed_by claims_paragraph kinds (get_or lines k no_line).entry kind) → Kinding lines next (k + 1)
  kinding_more h kind e next en =
      record {
        up = omega arith;
        is =
            en ∙ rw (e, passed_line lines k h)
            (claimed_more paragraphs (λ l. kind_by l.entry) claims_paragraph (take k lines) (get_or lines k no_line) kinds c.is);
      }

  pub kinding_all : length lines ≤ k → kinds ≡ table paragraphs (kind_at lines)
  kinding_all h =
      c.is ∙ ap (λ (ls : List Line). table paragraphs (kind_in ls)) (all_lines lines k c.up h)
      ∙ table_same 0 paragraphs (kind_in lines) (kind_at lines) (λ p l. kind_first lines p)

-- all of a kind
abbrev kind_or : List ℕ → ℕ → ℕ → ℕ → Bool
kind_or kinds x kind k = ltb k (first_k x) || eqb (get_or kinds (chapter_paragraphs * x + k) 0) kind

-- places from the first on that have passed
pub record Covering (kinds : List ℕ) (x kind first k : ℕ) : Type 0 where
  pub starts : first ≡ first_k x
  pub below : (i : ℕ) → first ≤ i → i < k → eqb (get_or kinds (chapter_paragraphs * x + i) 0) kind ≡ true

pub covering_none : (kinds : List ℕ) (x kind first : ℕ) → first ≡ first_k x → Covering kinds x kind first first
covering_none kinds x kind first e = record { starts = e; below = λ i l m. absurd (omega arith) }

module _ (kinds : List ℕ) (x kind first k : ℕ) (c : Covering kinds x kind first k) where
  pub covering_more : get_or kinds (chapter_paragraphs * x + k) 0 ≡ kind → Covering kinds x kind first (k + 1)
  covering_more e =
      record {
        starts = c.starts;
        below = λ i l m. ⊎_elim (λ q. eq-eqb _ kind (ap (λ (j : ℕ). get_or kinds (chapter_paragraphs * x + j) 0) q ∙ e)) (λ q. c.below i l q) (eq-or-lt_of_le {n = i} {m = k} (omega arith));
      }

  pub covering_miss : first ≤ k → k < chapter_paragraphs → (get_or kinds (chapter_paragraphs * x + k) 0 ≡ kind → ⊥) → false ≡ all_in kinds x kind
  unfolding all_in
  covering_miss l m h =
      sym
      (cases (all chapter_paragraphs (kind_or kinds x kind))
      (λ t.
      let q : kind_or kinds x kind k ≡ true = all_at chapter_paragraphs (kind_or kinds x kind) t k m in
      let n : kind_or kinds x kind k ≡ false = rw (← c.starts, le-ltb k first l, ne_eqb (get_or kinds (chapter_paragraphs * x + k) 0) kind h) in
      true_is_not_false q n)
      (λ t. t))

  pub covering_all : (first ≤ chapter_paragraphs → chapter_paragraphs ≤ k) → true ≡ all_in kinds x kind
  unfolding all_in
  covering_all h =
      sym
      (all_of chapter_paragraphs (kind_or kinds x kind)
      (λ i l.
      cases (ltb i (first_k x)) (λ t. rw t)
      (λ t.
      let n : first ≤ i = rw c.starts (ltb-false i (first_k x) t) in
      rw t (c.below i n (omega (arith, h)))))
      )

-- the lowest chapter
abbrev row : (ℕ → Bool) → ℕ → Row Refusal
row f x = (f x, refuse 28 x)

pub record Unbroken (f : ℕ → Bool) (x : ℕ) : Type 0 where
  pub up : x ≤ chapters
  pub same : first_refusal (table chapters (row f)) ≡ first_refusal (made x (chapters - x) (row f))

pub unbroken_none : (f : ℕ → Bool) → Unbroken f 0
unbroken_none f = record { up = omega arith; same = refl }

made_row : (f : ℕ → Bool) (x n m : ℕ) → m ≡ suc n → first_refusal (made x m (row f)) ≡ cond (f x) (refuse 28 x) (first_refusal (made (suc x) n (row f)))
unfolding made
made_row f x n m e = rw e

made_end : (f : ℕ → Bool) (x m : ℕ) → m ≡ 0 → first_refusal (made x m (row f)) ≡ no_refusal
unfolding made
made_end f x m e = rw e

module _ (f : ℕ → Bool) (x : ℕ) (c : Unbroken f x) where
  pub broken_here : x < chapters → (b : Bool) → b ≡ f x → b ≡ true → (r : Refusal) → r ≡ refuse 28 x → Err r ≡ passed (first_refusal (table chapters (row f)))
  broken_here h b e t r er =
      let q : first_refusal (table chapters (row f)) ≡ refuse 28 x = rw (c.same, made_row f x (chapters - (x + 1)) (chapters - x) (omega arith), ← e, t) in
      rw (er, q)

  pub unbroken_more : x < chapters → (b : Bool) → b ≡ f x → b ≡ false → Unbroken f (x + 1)
  unbroken_more h b e t =
      let z : suc x ≡ x + 1 = omega arith in
      record { up = omega arith; same = c.same ∙ made_row f x (chapters - (x + 1)) (chapters - x) (omega arith) ∙ rw (← e, t, z) }

  pub unbroken_all : chapters ≤ x → Ok tt ≡ passed (first_refusal (table chapters (row f)))
  unbroken_all h =
      let q : first_refusal (table chapters (row f)) ≡ no_refusal = rw (c.same, made_end f x (chapters - x) (omega arith)) in
      rw q
