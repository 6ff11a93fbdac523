-- The rows of all chapters, and the two arrays, filled place by place; and marks.
use Prim.Native.Nat.{◌%◌, ◌*◌, ◌+◌, ◌/◌, ◌<◌, ◌≤◌, ℕ}
use mathlib.Core.List.{List, []}
use mathlib.Core.Path.{◌∙◌, ◌≡◌, ap, refl}
use mathlib.Core.Bool.{Bool, ◌&&◌, false, true}
use native.Mathlib.Omega.{arith}
use native.Mathlib.Numerals.{add-one}
use lib.Dec.{eqb}
use lib.ListN.{get_or, length, length-replicate, replicate, set}
use Rattle.basics.specs.Counts.{all}
use Rattle.basics.specs.Laws.Counts.{all_more, all_none}
use Rattle.basics.specs.Laws.Tables.{Filled, filled_all, filled_more, filled_none, get_d_table}
use Rattle.basics.specs.Tables.{table}
use Rattle.places.specs.Limits.{chapters, flip_entries, layers, paragraphs, slots}
use Rattle.tables.specs.Tables.{tables}
use Rattle.plan.specs.Image.{size}
use Rattle.plan.specs.Plan.{Chapter, has_page, kinds}
use Rattle.behind.specs.Behind.{base_behind}
use Rattle.retrace.specs.Code.Named.{named_in, word_named}
use Rattle.retrace.specs.Code.Shown.{chapter_of, marked_in, plan_from, shown_at, shown_behind, sketch_of}
use Rattle.retrace.specs.Laws.Behind.{chapter_behind_lem}
use Rattle.retrace.specs.declared.row.Shown.{Shown}
use Rattle.ledger.specs.declared.Sketch.{Sketch}

abbrev pub blank_row : Shown
blank_row = record { paged = false; empty = 0; under = false }

module _ (ps fs : List ℕ) (ms : List Bool) where
  abbrev base : ℕ → ℕ
  base x = base_behind (tables [] ps fs) (marked_in ms) x

  -- the rows of the first x chapters, which have b Locutus pages
  pub record Rows (rows : List Shown) (b x : ℕ) : Type 0 where
    pub up : x ≤ chapters
    pub few : b ≤ layers * x
    pub is : b ≡ base x
    pub filled : Filled blank_row chapters (shown_behind ps fs ms) x rows

  pub rows_none : (rows : List Shown) → rows ≡ replicate chapters blank_row → Rows rows 0 0
  unfolding base_behind
  rows_none rows e =
      record {
        up = omega arith;
        few = omega arith;
        is = refl;
        filled = filled_none blank_row chapters (shown_behind ps fs ms) rows (ap length e ∙ length-replicate chapters blank_row);
      }

  pub rows_more : (rows : List Shown) (b x : ℕ) (s : Shown) (n : ℕ) → Rows rows b x → x < chapters → s ≡ shown_at fs ms x b → n ≡ size (chapter_of ps fs s x) → n ≤ layers
      → Rows (set rows x s) (b + n) (x + 1)
  unfolding base_behind
  rows_more rows b x s n c h es en l =
      let z : s ≡ shown_behind ps fs ms x = es ∙ ap (shown_at fs ms x) c.is in
      record {
        up = omega arith;
        few = omega (arith, c.few);
        is = rw (add-one, en, z, chapter_behind_lem ps fs ms x (base x), c.is);
        filled = filled_more blank_row chapters (shown_behind ps fs ms) x s rows c.filled h z;
      }

  pub rows_all : (rows : List Shown) (b x : ℕ) → Rows rows b x → chapters ≤ x → rows ≡ table chapters (shown_behind ps fs ms)
  rows_all rows b x c h = filled_all blank_row chapters (shown_behind ps fs ms) x rows c.filled h

  pub rows_low : (rows : List Shown) (b x : ℕ) → Rows rows b x → b ≤ slots
  rows_low rows b x c = omega (arith, c.few, c.up)

  -- a row of them
  row_at : (rows : List Shown) (x : ℕ) → rows ≡ table chapters (shown_behind ps fs ms) → x < 16 → get_or rows x blank_row ≡ shown_behind ps fs ms x
  row_at rows x e h = rw e (get_d_table blank_row chapters (shown_behind ps fs ms) x h)

  pub kinds_at : (rows : List Shown) (p v : ℕ) → rows ≡ table chapters (shown_behind ps fs ms) → p < paragraphs
      → v ≡ (chapter_of ps ps (get_or rows (p / 16) blank_row) (p / 16)).kind (p % 16) → v ≡ kinds (plan_from ps fs ms) p
  kinds_at rows p v er h ev =
      ev ∙ rw (row_at rows (p / 16) er (omega arith)) (ap (λ (d : Chapter). d.kind (p % 16)) (chapter_behind_lem ps fs ms (p / 16) (base (p / 16))))

  pub pages_at : (rows : List Shown) (n : ℕ) (v : Bool) → rows ≡ table chapters (shown_behind ps fs ms) → n < flip_entries
      → v ≡ (chapter_of fs fs (get_or rows (n / 16) blank_row) (n / 16)).page (n % 16) → v ≡ has_page (plan_from ps fs ms) n
  pages_at rows n v er h ev =
      ev ∙ rw (row_at rows (n / 16) er (omega arith)) (ap (λ (d : Chapter). d.page (n % 16)) (chapter_behind_lem ps fs ms (n / 16) (base (n / 16))))

  pub sketch_is : (ks : List ℕ) (gs : List Bool) → ks ≡ table paragraphs (kinds (plan_from ps fs ms)) → gs ≡ table flip_entries (has_page (plan_from ps fs ms))
      → ◌≡◌ {A = Sketch} (record { kinds = ks; pages = gs }) (sketch_of (plan_from ps fs ms))
  sketch_is ks gs ek eg = rw (ek, eg)

-- the words of a paragraph, of which the first i were looked at
module _ (zs os : List ℕ) where
  pub record Words (p : ℕ) (r : Bool) (i : ℕ) : Type 0 where
    pub up : i ≤ 256
    pub is : r ≡ all i (λ j. word_named zs os (256 * p + j))

  pub words_none : (p : ℕ) → Words p true 0
  words_none p = record { up = omega arith; is = all_none (λ j. word_named zs os (256 * p + j)) }

  pub words_more : (p : ℕ) (r : Bool) (i : ℕ) (v : Bool) (a b : ℕ) → Words p r i → i < 256 → a ≡ get_or zs (256 * p + i) 0 → b ≡ get_or os (256 * p + i) 0
      → v ≡ (eqb a b && r) → Words p v (i + 1)
  words_more p r i v a b c h ea eb ev =
      record { up = omega arith; is = all_more (λ j. word_named zs os (256 * p + j)) i (eqb a b) r v c.is (rw (ea, eb)) ev }

  pub words_all : (p : ℕ) (r : Bool) (i : ℕ) → Words p r i → 256 ≤ i → r ≡ named_in zs os p
  words_all p r i c h = let z : i ≡ 256 = omega (arith, c.up) in c.is ∙ ap (λ (m : ℕ). all m (λ j. word_named zs os (256 * p + j))) z
