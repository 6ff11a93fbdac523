-- The drawing and the words by a survey of some lines are those of the lines.
use Prim.Native.Nat.{ℕ, ◌+◌, ◌*◌, ◌-◌, ◌/◌, ◌%◌, ◌<◌, ◌≤◌, suc, min}
use Rattle.std.specs.Prelude.{List, refl, Bool, not, length, eqb, ltb, Some, None}
use Rattle.std.proofs.Math.Path.{◌≡◌, ap}
use Rattle.std.proofs.Common.{sym, ◌∙◌, ne_eqb}
use Rattle.std.proofs.Math.Bool.{true, false, cond}
use Rattle.std.proofs.Math.Option.{Option, none, some}
use native.Mathlib.Omega.{arith}
use Rattle.std.proofs.Math.ListN.{get_or}
use Rattle.basics.specs.Options.{is_some}
use Rattle.basics.specs.Counts.{count}
use Rattle.basics.specs.Tables.{table}
use Rattle.basics.specs.Laws.Nth.{nth_below}
use Rattle.basics.specs.Laws.Lists.{laid_same}
use Rattle.basics.specs.Laws.Tables.{get_d_table, table_same}
use Rattle.basics.specs.Laws.Tests.{cases, not_cond}
use Rattle.places.specs.Limits.{chapters, chapter_paragraphs, chapter_pages, flip_entries, paragraphs, paragraph_size, layers, slots, cells, page_paragraphs, locutus_paragraphs}
use Rattle.switches.specs.Flips.{flip_mapping}
use Rattle.lines.specs.declared.Line.{Line}
use Rattle.lines.specs.declared.Entry.{Entry}
use Rattle.lines.specs.declared.Entry.TheVariants.{Rom, Paged, Ram}
use Rattle.lines.specs.declared.Width.TheVariants.{Sixteen, Eight}
use Rattle.lines.specs.Lines.{first}
use Rattle.lines.specs.Laws.Lines.{within}
use Rattle.lines.specs.Kinds.{kind_by, kind_of}
use Rattle.rules.specs.Chapters.{line_in, uses, paged, kind_at, under}
use Rattle.layout.specs.declared.found.Survey.{Survey}
use Rattle.layout.specs.declared.Drawing.{Drawing}
use Rattle.layout.specs.Layout.{used, page_of, pages, slot_of_page, answering, entry_for, flip_entry, flip_table, flippable, mapping_at, mapping_table, permissions_at, permissions_table, layer_held, paragraph_held, line_held, covered}
use Rattle.layout.specs.Drawing.{drawing_of, ram_of, word_at}
use Rattle.layout.specs.Code.Survey.{no_line, line_of, Surveyed}
use Rattle.layout.specs.Code.Entries.{answer_in, entry_of, flip_in, flips_by, flippable_in, mapping_in, permissions_in, slot_in, paragraph_in, held_in, mark_in, drawn_by}
use Rattle.layout.specs.Code.Pour.{written_in, Begins, poured_by}
use Rattle.layout.specs.Laws.Cells.{some_line, line_here}
use Rattle.layout.specs.Laws.Survey.{line_at_lem}

-- an entry by the answering page
entry_by_lem : (a : Bool) (b : ℕ) (c : Bool) (d : ℕ) → entry_of (cond a (Some b) (cond c (Some d) None)) ≡ entry_for (cond a (some b) (cond c (some d) none))
entry_by_lem true b c d = refl
entry_by_lem false b true d = refl
entry_by_lem false b false d = refl

-- a line has a kind
kind_entry : (e : Entry) → eqb (kind_by e) 0 ≡ false
kind_entry (Rom lo hi at) = refl
kind_entry (Paged lo hi at y) = refl
kind_entry (Ram lo hi Sixteen) = refl
kind_entry (Ram lo hi Eight) = refl

kind_none : (o : Option Line) → not (is_some o) ≡ eqb (kind_of o) 0
kind_none none = refl
kind_none (some l) = sym (kind_entry l.entry)

module _ (all ls : List Line) (s : Survey) (v : Surveyed all ls s) where
  -- each table at its places
  used_at : (i : ℕ) → i < slots → get_or s.used i false ≡ used ls i
  used_at i h = rw v.used_are (get_d_table false slots (used ls) i h)

  page_at_lem : (x t : ℕ) → x < chapters → t < layers → get_or s.page (layers * x + t) 0 ≡ page_of ls x t
  unfolding page_of
  page_at_lem x t h l = rw v.page_are (get_d_table 0 slots (count (used ls)) (layers * x + t) (omega arith))

  plain_page : (x : ℕ) → x < chapters → get_or s.page (layers * x) 0 ≡ page_of ls x 0
  plain_page x h = let z : layers * x + 0 ≡ layers * x = omega arith in rw z at (page_at_lem x 0 h (omega arith))

  paged_at : (x : ℕ) → x < chapters → get_or s.paged x false ≡ paged ls x
  paged_at x h = rw v.paged_are (get_d_table false chapters (paged ls) x h)

  under_at : (x : ℕ) → x < chapters → get_or s.under x false ≡ under ls x
  under_at x h = rw v.under_are (get_d_table false chapters (under ls) x h)

  kind_at_lem : (p : ℕ) → p < paragraphs → get_or s.kinds p 0 ≡ kind_at ls p
  kind_at_lem p h = rw v.kinds_are (get_d_table 0 paragraphs (kind_at ls) p h)

  slot_at : (i : ℕ) → i < slots → get_or s.slot i 0 ≡ slot_of_page ls i
  slot_at i h = rw v.slot_are (get_d_table 0 slots (slot_of_page ls) i h)

  -- flip entries
  uses_at : (x y : ℕ) → x < chapters → y < chapter_pages → get_or s.used (layers * x + (y + 1)) false ≡ uses ls x (suc y)
  unfolding used
  uses_at x y h l =
      let a : (layers * x + (y + 1)) / layers ≡ x = omega arith in
      let b : (layers * x + (y + 1)) % layers ≡ suc y = omega arith in
      used_at (layers * x + (y + 1)) (omega arith) ∙ rw (a, b)

  entry_at : (n : ℕ) → n < flip_entries → flip_in s n ≡ flip_entry ls (n / chapter_pages) (n % chapter_pages)
  unfolding flip_entry answering
  entry_at n h = by (n / chapter_pages) (n % chapter_pages) (omega arith) (omega arith)
    where
      by : (x y : ℕ) → x < chapters → y < chapter_pages
          → cond (get_or s.paged x false) (entry_of (answer_in s x y)) 0
          ≡ cond (paged ls x) (entry_for (cond (uses ls x (suc y)) (some (page_of ls x (suc y))) (cond (under ls x) (some (page_of ls x 0)) none))) 0
      by x y h l =
          let z : y + 1 ≡ suc y = omega arith in
          let p : get_or s.page (layers * x + (y + 1)) 0 ≡ page_of ls x (suc y) = page_at_lem x (y + 1) h (omega arith) ∙ ap (page_of ls x) z in
          rw (paged_at x h, uses_at x y h l, p, under_at x h, plain_page x h)
          (ap (λ (n : ℕ). cond (paged ls x) n 0) (entry_by_lem (uses ls x (suc y)) (page_of ls x (suc y)) (under ls x) (page_of ls x 0)))

  flips_are : flips_by s ≡ flip_table ls
  unfolding flips_by
  flips_are = table_same 0 flip_entries _ (λ n. flip_entry ls (n / chapter_pages) (n % chapter_pages)) entry_at

  -- the two tables of a paragraph
  first_flip : (p : ℕ) → p < paragraphs → get_or (flips_by s) (chapter_pages * (p / chapter_paragraphs)) 0 ≡ flip_entry ls (p / chapter_paragraphs) 0
  first_flip p h =
      let a : chapter_pages * (p / chapter_paragraphs) / chapter_pages ≡ p / chapter_paragraphs = omega arith in
      let b : chapter_pages * (p / chapter_paragraphs) % chapter_pages ≡ 0 = omega arith in
      rw flips_are
      (get_d_table 0 flip_entries (λ n. flip_entry ls (n / chapter_pages) (n % chapter_pages)) (chapter_pages * (p / chapter_paragraphs)) (omega arith) ∙ rw (a, b))

  flippable_at : (p : ℕ) → p < paragraphs → flippable_in s p ≡ flippable ls p
  unfolding flippable
  flippable_at p h = rw (paged_at (p / chapter_paragraphs) (omega arith))

  mapping_are : table paragraphs (mapping_in s (flips_by s)) ≡ mapping_table ls
  unfolding mapping_at
  mapping_are =
      table_same 0 paragraphs _ (mapping_at ls 0)
      (λ p h.
      rw (flippable_at p h, first_flip p h, kind_at_lem p h, plain_page (p / chapter_paragraphs) (omega arith), ← kind_none (line_in ls 0 p))
      (ap (cond (flippable ls p) (flip_mapping (flip_entry ls (p / chapter_paragraphs) 0) (p % chapter_paragraphs)))
      (sym (not_cond (is_some (line_in ls 0 p)) (page_paragraphs * page_of ls (p / chapter_paragraphs) 0 + p % chapter_paragraphs) 0))))

  permissions_are : table paragraphs (permissions_in s (flips_by s)) ≡ permissions_table ls
  unfolding permissions_at
  permissions_are =
      table_same 0 paragraphs _ (permissions_at ls 0) (λ p h. rw (flippable_at p h, first_flip p h, kind_at_lem p h))

  -- the line behind a Locutus paragraph
  slot_below : (i : ℕ) → slot_of_page ls i < slots
  unfolding slot_of_page
  slot_below i = nth_below (used ls) slots slots i (omega arith) (omega arith)

  paragraph_at : (p : ℕ) → p < cells → paragraph_in s p ≡ paragraph_held ls p
  paragraph_at p h = rw (slot_at (p / page_paragraphs) (omega arith))

  line_cond : (b : Bool) (n : ℕ) → line_of all (cond b n 0) ≡ cond b (line_of all n) none
  line_cond true n = refl
  line_cond false n = refl

  line_held_lem : (p : ℕ) → p < cells → line_of all (held_in s p) ≡ line_held ls p
  unfolding held_in line_held
  line_held_lem p h =
      let b : slot_of_page ls (p / page_paragraphs) < slots = slot_below (p / page_paragraphs) in
      rw (slot_at (p / page_paragraphs) (omega arith), v.pages_are)
      (line_cond (ltb (p / page_paragraphs) (pages ls)) (get_or s.cells (paragraphs * layer_held ls p + paragraph_held ls p) 0)
      ∙ ap (λ (o : Option Line). cond (ltb (p / page_paragraphs) (pages ls)) o none) (line_at_lem v.cells_are (layer_held ls p) (paragraph_held ls p) (omega arith) (omega arith)))

  marks_are : table locutus_paragraphs (mark_in s) ≡ table locutus_paragraphs (covered ls)
  marks_are =
      table_same false locutus_paragraphs _ (covered ls)
      (λ p h. sym (some_line all (held_in s p)) ∙ ap is_some (line_held_lem p (omega arith)))

  drawn_is : drawn_by s ≡ drawing_of ls
  unfolding drawn_by drawing_of
  drawn_is = rw (mapping_are, permissions_are, flips_are, marks_are, v.pages_are)

  pub draws : (d : Drawing) → d ≡ drawn_by s → d ≡ drawing_of ls
  draws d e = e ∙ drawn_is

  -- its words
  held_few : (p : ℕ) → p < cells → held_in s p ≤ length all
  unfolding held_in
  held_few p h =
      let b : slot_in s p < slots = s.within (p / page_paragraphs) (omega arith) in
      by (ltb (p / page_paragraphs) s.pages) (v.cells_are.few.each (paragraphs * (slot_in s p % layers) + paragraph_in s p) (omega arith))
    where
      by : (b : Bool) {n : ℕ} → n ≤ length all → cond b n 0 ≤ length all
      by true l = l
      by false l = omega arith

  held_starts : (p : ℕ) → p < cells → (held_in s p ≡ 0 → ⊥)
      → first (get_or all (held_in s p - 1) no_line).entry ≤ paragraph_size * paragraph_in s p
  unfolding line_held
  held_starts p h d =
      let l : line_of all (held_in s p) ≡ line_held ls p = line_held_lem p h in
      let e : some (get_or all (held_in s p - 1) no_line) ≡ line_held ls p = rw (ne_eqb _ _ d) at l in
      rw (paragraph_at p h)
      (cases (ltb (p / page_paragraphs) (pages ls))
      (λ q. (within _ (paragraph_size * paragraph_held ls p) (line_here ls (layer_held ls p) (paragraph_size * paragraph_held ls p) _ (sym (rw q at e)))).from)
      (λ q. let f : some (get_or all (held_in s p - 1) no_line) ≡ none = rw q at e in let z : ◌≡◌ {A = ℕ} 0 1 = cc in absurd (omega arith)))

  pub begins : Begins all s
  begins = record { few = held_few; start = held_starts }

  poured_is : (bin ram : List ℕ) → poured_by bin all s ram ≡ ram_of bin ls ram
  unfolding poured_by ram_of written_in
  poured_is bin ram =
      laid_same 0 (paragraph_size * min (page_paragraphs * s.pages) (length ram / paragraph_size)) (written_in bin all s) (word_at bin ls) ram
      (λ i h. let b : i / paragraph_size < cells = omega (arith, s.few) in rw (line_held_lem (i / paragraph_size) b, paragraph_at (i / paragraph_size) b))
      ∙ rw v.pages_are

  pub pours : (bin ram after : List ℕ) → after ≡ poured_by bin all s ram → after ≡ ram_of bin ls ram
  pours bin ram after e = e ∙ poured_is bin ram
