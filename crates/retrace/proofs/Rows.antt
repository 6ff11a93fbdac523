-- A row of flip entries, entry by entry; and the kinds and pages of a chapter, counted.
use Prim.Native.Nat.{◌*◌, ◌+◌, ◌≤◌, ℕ}
use mathlib.Core.List.{List}
use mathlib.Core.Path.{◌∙◌, ◌≡◌}
use mathlib.Core.Bool.{Bool, ◌&&◌, cond, false, not, true}
use native.Mathlib.Omega.{arith}
use lib.Dec.{eqb, leb}
use lib.ListN.{get_or}
use Rattle.basics.specs.Counts.{any, count}
use Rattle.basics.specs.Laws.Counts.{count_most}
use Rattle.places.specs.Limits.{chapter_pages, layers}
use Rattle.switches.specs.Flips.{first_k}
use Rattle.plan.specs.Image.{size}
use Rattle.plan.specs.Plan.{Chapter, has_plain}
use Rattle.plan.specs.Valid.{allowed, may_flip}
use Rattle.behind.specs.Behind.{absent, has_entries, hidden, kind_shown}
use Rattle.retrace.specs.Code.Shown.{chapter_of, row_in, shown_at}
use Rattle.retrace.specs.declared.row.Shown.{Shown}

-- by whether a kind is allowed
pub shown_on : (p n : ℕ) (a : Bool) → a ≡ allowed p n → a ≡ true → n ≡ kind_shown p n
shown_on p n a e h = rw (← e, h)

pub shown_off : (p n : ℕ) (a : Bool) → a ≡ allowed p n → a ≡ false → 0 ≡ kind_shown p n
shown_off p n a e h = rw (← e, h)

-- the row's tests
module _ (fs : List ℕ) (x : ℕ) where
  pub paged_is : (a r : Bool) → a ≡ may_flip x → a ≡ true → r ≡ any chapter_pages (λ y. not (eqb (row_in fs x y) 0)) → r ≡ has_entries x (row_in fs x)
  unfolding has_entries
  paged_is a r ea e er = er ∙ rw (← ea, e)

  pub unpaged : (a : Bool) → a ≡ may_flip x → a ≡ false → false ≡ has_entries x (row_in fs x)
  unfolding has_entries
  unpaged a ea e = rw (← ea, e)

  pub empty_eight : (e : Bool) (b : ℕ) → e ≡ any chapter_pages (λ y. eqb (row_in fs x y) 8) → e ≡ true → 8 ≡ absent (row_in fs x) b
  unfolding absent
  empty_eight e b ee h = rw (← ee, h)

  pub empty_plain : (e : Bool) (b : ℕ) → e ≡ any chapter_pages (λ y. eqb (row_in fs x y) 8) → e ≡ false → 16 * b + 9 ≡ absent (row_in fs x) b
  unfolding absent
  empty_plain e b ee h = rw (← ee, h)

  pub shown_is : (ms : List Bool) (b : ℕ) (p : Bool) (e : ℕ) (u : Bool) → p ≡ has_entries x (row_in fs x) → e ≡ absent (row_in fs x) b
      → u ≡ (not (eqb e 8) && get_or ms (16 * b + 8) false) → ◌≡◌ {A = Shown} (record { paged = p; empty = e; under = u }) (shown_at fs ms x b)
  unfolding hidden
  shown_is ms b p e u ep ee eu = rw (ep, eu, ee)

-- the kind of a paragraph
module _ (ps fs : List ℕ) (s : Shown) (x k : ℕ) where
  pub kind_paged : (t : Bool) (f v : ℕ) → f ≡ first_k x → t ≡ (s.paged && leb f k) → t ≡ true → v ≡ cond s.under 1 0 → v ≡ (chapter_of ps fs s x).kind k
  kind_paged t f v ef et h ev = ev ∙ rw (← ef, ← et, h)

  pub kind_plain : (t : Bool) (f v : ℕ) → f ≡ first_k x → t ≡ (s.paged && leb f k) → t ≡ false → v ≡ kind_shown (16 * x + k) (get_or ps (16 * x + k) 0)
      → v ≡ (chapter_of ps fs s x).kind k
  kind_plain t f v ef et h ev = ev ∙ rw (← ef, ← et, h)

-- one Locutus page for all plain paragraphs, and one for each page
pub sized : (c : Chapter) (plain : Bool) (n a : ℕ) → plain ≡ any 16 (λ i. not (eqb (c.kind i) 0)) → n ≡ count c.page 16 → a ≡ cond plain 1 0
    → (a + n ≡ size c) × (a + n ≤ layers)
unfolding size has_plain
sized c plain n a p q ea = (rw (ea, p, q), by plain ea)
  where
    by : (b : Bool) → a ≡ cond b 1 0 → a + n ≤ layers
    by true e = omega (arith, count_most c.page 16)
    by false e = omega (arith, count_most c.page 16)
