-- The three tables, entry by entry: what a load asks of them (01, refusal 10), and that their entries are small.
use Rattle.std.specs.Prelude.{ℕ, ◌<◌, ◌/◌, ◌%◌, List, ◌≡◌, Bool, cond, true, false, get_or}
use Rattle.std.proofs.Math.Option.{Option, none, some}
use Rattle.std.proofs.Common.{arith, ne_eqb}
use Rattle.basics.specs.Laws.Tables.{get_d_table}
use Rattle.basics.specs.Laws.Tests.{cases}
use Rattle.places.specs.Limits.{chapter_paragraphs, chapter_pages, flip_entries, paragraphs}
use Rattle.switches.specs.Banks.{BANKSW}
use Rattle.lines.specs.declared.Line.{Line}
use Rattle.lines.specs.declared.Entry.{Entry}
use Rattle.lines.specs.declared.Entry.TheVariants.{Rom, Paged, Ram}
use Rattle.lines.specs.declared.Width.TheVariants.{Sixteen, Eight}
use Rattle.lines.specs.Kinds.{kind_by, kind_of}
use Rattle.rules.specs.Chapters.{line_in, paged}
use Rattle.rules.specs.Laws.Rules.{Good, paged_above}
use Rattle.layout.specs.Layout.{mapping_table, mapping_at, permissions_table, permissions_at, flip_table, flip_entry, flippable}

module _ (lines : List Line) where
  pub mapping_entry : (p : ℕ) → p < paragraphs → get_or (mapping_table lines) p 0 ≡ mapping_at lines 0 p
  mapping_entry p h = get_d_table 0 paragraphs (mapping_at lines 0) p h

  pub permissions_entry : (p : ℕ) → p < paragraphs → get_or (permissions_table lines) p 0 ≡ permissions_at lines 0 p
  permissions_entry p h = get_d_table 0 paragraphs (permissions_at lines 0) p h

  pub flip_entry_lem : (n : ℕ) → n < flip_entries → get_or (flip_table lines) n 0 ≡ flip_entry lines (n / chapter_pages) (n % chapter_pages)
  flip_entry_lem n h = get_d_table 0 flip_entries (λ i. flip_entry lines (i / chapter_pages) (i % chapter_pages)) n h

-- no permissions have BANKSW, on whatever page
entry_below : (e : Entry) → kind_by e < 8
entry_below (Rom lo hi at) = omega arith
entry_below (Paged lo hi at y) = omega arith
entry_below (Ram lo hi Sixteen) = omega arith
entry_below (Ram lo hi Eight) = omega arith

line_below : (o : Option Line) → kind_of o < 8
line_below none = omega arith
line_below (some l) = entry_below l.entry

below_by : (b : Bool) (n : ℕ) (o : Option Line) → cond b (n % 8) (kind_of o) < 8
below_by true n o = omega arith
below_by false n o = line_below o

pub permissions_below : (lines : List Line) (y p : ℕ) → permissions_at lines y p < 8
unfolding permissions_at
permissions_below lines y p = below_by (flippable lines p) (flip_entry lines (p / chapter_paragraphs) y) (line_in lines 0 p)

pub unbanked : (lines : List Line) (y p : ℕ) → BANKSW (permissions_at lines y p) ≡ false
unbanked lines y p = ne_eqb (permissions_at lines y p / 8 % 2) 1 (λ e. omega (arith, permissions_below lines y p))

-- no entry of chapters 0 and 1 is set
pub unflipped : {lines : List Line} → Good lines → (x y : ℕ) → x < 2 → flip_entry lines x y ≡ 0
unfolding flip_entry
unflipped {lines} g x y h = cases (paged lines x) (λ e. absurd (omega (arith, paged_above g.fine x e))) (λ e. rw e)
