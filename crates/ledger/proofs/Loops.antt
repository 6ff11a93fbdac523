-- Where runs start, how far they reach, and the offsets, paragraph by paragraph and page by page.
use Prim.Native.Nat.{◌*◌, ◌+◌, ◌-◌, ◌/◌, ◌<◌, ◌≤◌, suc, zero, ℕ}
use mathlib.Core.List.{List}
use mathlib.Core.Path.{◌∙◌, ◌≡◌, refl, sym}
use mathlib.Core.Bool.{Bool, false, not, true}
use native.Mathlib.Omega.{arith}
use native.Mathlib.Numerals.{add-one}
use lib.Dec.{eqb}
use lib.ListN.{get_or}
use borrow.Author.Tests.{eq-eqb, ne_eqb}
use Rattle.basics.specs.Counts.{count}
use Rattle.basics.specs.Laws.Counts.{count_most}
use Rattle.places.specs.Limits.{chapter_size, flip_entries, paragraphs, paragraph_size}
use Rattle.plan.specs.Fewest.{starts}
use Rattle.plan.specs.Plan.{Plan, has_page, kinds}
use Rattle.canon.specs.Canonical.{is_rom, page_offset, page_words, reach, rom_offset, run_at}
use Rattle.ledger.specs.Held.{plan_in}
use Rattle.ledger.specs.Laws.Held.{kind_in_lem, page_in_lem}

module _ (ks : List ℕ) (ps : List Bool) (p : ℕ) where
  abbrev q : Plan
  q = plan_in ks ps

  pub starts_none : get_or ks p 0 ≡ 0 → false ≡ starts (kinds q) p
  unfolding starts
  starts_none e = rw (kind_in_lem ks ps p, e)

  module _ (h : get_or ks p 0 ≡ 0 → ⊥) where
    pub starts_first : p ≡ 0 → true ≡ starts (kinds q) p
    unfolding starts
    starts_first e = rw (kind_in_lem ks ps p, ne_eqb (get_or ks p 0) 0 h, eq-eqb p 0 e)

    pub starts_later : (p ≡ 0 → ⊥) → not (eqb (get_or ks (p - 1) 0) (get_or ks p 0)) ≡ starts (kinds q) p
    unfolding starts
    starts_later n = rw (kind_in_lem ks ps p, kind_in_lem ks ps (p - 1), ne_eqb (get_or ks p 0) 0 h, ne_eqb p 0 n)

  -- how far a run reaches
  pub reach_none : reach (kinds q) p 0 ≡ 0
  unfolding reach
  reach_none = refl

  module _ (n : ℕ) (c : reach (kinds q) p n ≡ n) where
    pub reach_more : get_or ks (p + n) 0 ≡ get_or ks p 0 → reach (kinds q) p (n + 1) ≡ n + 1
    unfolding reach
    reach_more e =
        rw (add-one, c, eq-eqb n n refl, kind_in_lem ks ps (p + n), kind_in_lem ks ps p, eq-eqb (get_or ks (p + n) 0) (get_or ks p 0) e)

    module _ (h : get_or ks (p + n) 0 ≡ get_or ks p 0 → ⊥) where
      -- and no farther
      ends : (d : ℕ) → reach (kinds q) p (suc (n + d)) ≡ n
      unfolding reach
      ends zero =
          let z : n + 0 ≡ n = omega arith in
          rw (z, c, eq-eqb n n refl, kind_in_lem ks ps (p + n), kind_in_lem ks ps p, ne_eqb (get_or ks (p + n) 0) (get_or ks p 0) h)
      ends (suc d) =
          let z : n + suc d ≡ suc (n + d) = omega arith in
          rw (z, ends d, ne_eqb n (suc (n + d)) (omega arith))

      pub reach_ends : n < paragraphs - p → n ≡ run_at q p
      reach_ends l =
          let d : ℕ = paragraphs - p - suc n in
          let z : suc (n + d) ≡ paragraphs - p = omega arith in
          let w : reach (kinds q) p (suc (n + d)) ≡ n = ends d in
          sym (rw z at w)

-- a paragraph of ROM, and how many there are
module _ (ks : List ℕ) (ps : List Bool) (p : ℕ) where
  pub rom_at : (b : Bool) → b ≡ eqb (get_or ks p 0) 1 → b ≡ is_rom (plan_in ks ps) p
  rom_at b e = e ∙ rw (kind_in_lem ks ps p)

  pub roms_all : (n : ℕ) → n ≡ count (is_rom (plan_in ks ps)) p → (paragraph_size * n ≡ rom_offset (plan_in ks ps) p) × (paragraph_size * n ≤ paragraph_size * p)
  roms_all n e = (rw e, omega (arith, e, count_most (is_rom (plan_in ks ps)) p))

-- one page more
page_on : (q : Plan) (i : ℕ) → has_page q i ≡ true → page_offset q (suc i) ≡ page_offset q i + page_words (i / 16)
unfolding page_offset
page_on q i g = rw g

page_off : (q : Plan) (i : ℕ) → has_page q i ≡ false → page_offset q (suc i) ≡ page_offset q i
unfolding page_offset
page_off q i g = rw g

-- the offset behind the words of the pages below i
pub record Offsets (ks : List ℕ) (ps : List Bool) (n o i : ℕ) : Type 0 where
  pub up : i ≤ n
  pub below : n ≤ flip_entries
  pub few : o ≤ paragraph_size * paragraphs + chapter_size * i
  pub is : o ≡ page_offset (plan_in ks ps) i

module _ (ks : List ℕ) (ps : List Bool) (n : ℕ) where
  pub offsets_none : (o : ℕ) → n ≤ flip_entries → o ≡ rom_offset (plan_in ks ps) paragraphs → o ≤ paragraph_size * paragraphs → Offsets ks ps n o 0
  unfolding page_offset
  offsets_none o h e m = record { up = omega arith; below = h; few = omega arith; is = e }

  module _ (o i : ℕ) (c : Offsets ks ps n o i) where
    pub offsets_more : (v w : ℕ) → i < n → get_or ps i false ≡ true → v ≡ page_words (i / 16) → v ≤ chapter_size → w ≡ o + v → Offsets ks ps n w (i + 1)
    offsets_more v w h t e m ew =
        record {
          up = omega arith;
          below = c.below;
          few = omega (arith, c.few);
          is = ew ∙ rw (add-one, e, c.is) (sym (page_on (plan_in ks ps) i (page_in_lem ks ps i ∙ t)));
        }

    pub offsets_off : (w : ℕ) → i < n → get_or ps i false ≡ false → w ≡ o → Offsets ks ps n w (i + 1)
    offsets_off w h t ew =
        record {
          up = omega arith;
          below = c.below;
          few = omega (arith, c.few);
          is = ew ∙ rw (add-one, c.is) (sym (page_off (plan_in ks ps) i (page_in_lem ks ps i ∙ t)));
        }
