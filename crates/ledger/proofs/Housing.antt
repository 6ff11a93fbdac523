-- The Locutus pages of a plan's chapters, counted.
use Prim.Native.Nat.{◌%◌, ◌*◌, ◌+◌, ◌/◌, ◌<◌, ◌≤◌, ℕ}
use mathlib.Core.List.{List}
use mathlib.Core.Path.{◌∙◌, ◌≡◌, ap, refl, sym}
use mathlib.Core.Bool.{Bool, ◌&&◌, cond, false, not, true}
use mir.Val.{bool_byte}
use native.Mathlib.Omega.{arith}
use native.Mathlib.Numerals.{add-one}
use lib.Dec.{eqb}
use lib.ListN.{get_or}
use Rattle.basics.specs.Counts.{count}
use Rattle.basics.specs.Laws.Counts.{count_last}
use Rattle.basics.specs.Laws.Joined.{Somewhere, somewhere_all}
use Rattle.places.specs.Limits.{chapter_pages, chapter_paragraphs, chapters, layers, page_paragraphs, paragraph_size}
use Rattle.switches.specs.Flips.{first_k}
use Rattle.plan.specs.Image.{base, holds_ram, page_at, ram_covered_of, size}
use Rattle.plan.specs.Plan.{has_plain}
use Rattle.plan.specs.Valid.{is_ram_kind}
use Rattle.canon.specs.Bin.{page_place, plain_place}
use Rattle.ledger.specs.Held.{plan_in}

-- plain paragraphs among the first k
abbrev pub plain : List ℕ → ℕ → ℕ → Bool
plain ks x i = not (eqb (get_or ks (chapter_paragraphs * x + i) 0) 0)

pub plains_all : (ks : List ℕ) (ps : List Bool) (x : ℕ) (r : Bool) (k : ℕ) → Somewhere chapter_paragraphs (plain ks x) k r → chapter_paragraphs ≤ k
    → r ≡ has_plain (plan_in ks ps x)
unfolding has_plain
plains_all ks ps x r k c h = somewhere_all chapter_paragraphs (plain ks x) k r c h

-- a flag as a number
byte_is : (b : Bool) → (bool_byte b ≡ cond b 1 0) × (bool_byte b ≤ 1)
byte_is true = (refl, omega arith)
byte_is false = (refl, omega arith)

-- pages among the first i
pub record Below (ks : List ℕ) (ps : List Bool) (x y n i : ℕ) : Type 0 where
  pub up : i ≤ y
  pub most : y ≤ chapter_pages
  pub few : n ≤ i
  pub is : n ≡ count (plan_in ks ps x).page i

module _ (ks : List ℕ) (ps : List Bool) (x y : ℕ) where
  pub below_none : y ≤ chapter_pages → Below ks ps x y 0 0
  unfolding count
  below_none h = record { up = omega arith; most = h; few = omega arith; is = refl }

  module _ (n i : ℕ) (c : Below ks ps x y n i) where
    pub below_more : (v : ℕ) → i < y → v ≡ bool_byte (get_or ps (chapter_pages * x + i) false) → Below ks ps x y (n + v) (i + 1)
    below_more v h e =
        record {
          up = omega arith;
          most = c.most;
          few = omega (arith, c.few, e, (byte_is (get_or ps (chapter_pages * x + i) false)).1);
          is = rw add-one (rw (e, (byte_is (get_or ps (chapter_pages * x + i) false)).0, c.is) (sym (count_last (plan_in ks ps x).page i)));
        }

    pub below_all : y ≤ i → n ≡ count (plan_in ks ps x).page y
    below_all h = let z : i ≡ y = omega (arith, c.up) in c.is ∙ ap (count (plan_in ks ps x).page) z

    pub below_few : n ≤ y
    below_few = omega (arith, c.up, c.few)

-- a chapter
pub size_is : (ks : List ℕ) (ps : List Bool) (x a n : ℕ) (b : Bool) → b ≡ has_plain (plan_in ks ps x) → a ≡ cond b 1 0 → n ≡ count (plan_in ks ps x).page chapter_pages
    → a + n ≡ size (plan_in ks ps x)
unfolding size
size_is ks ps x a n b eb ea en = rw (ea, eb, en)

-- those before it
pub record Based (ks : List ℕ) (ps : List Bool) (x b i : ℕ) : Type 0 where
  pub up : i ≤ x
  pub most : x ≤ chapters
  pub few : b ≤ layers * i
  pub is : b ≡ base (plan_in ks ps) i

module _ (ks : List ℕ) (ps : List Bool) (x : ℕ) where
  pub based_none : x ≤ chapters → Based ks ps x 0 0
  unfolding base
  based_none h = record { up = omega arith; most = h; few = omega arith; is = refl }

  module _ (b i : ℕ) (c : Based ks ps x b i) where
    pub based_more : (v : ℕ) → i < x → v ≡ size (plan_in ks ps i) → v ≤ layers → Based ks ps x (b + v) (i + 1)
    unfolding base
    based_more v h e m = record { up = omega arith; most = c.most; few = omega (arith, c.few); is = rw (add-one, e, c.is) }

-- the places
module _ (ks : List ℕ) (ps : List Bool) (p : ℕ) where
  pub page_place_lem : (b a n k : ℕ) (h : Bool) → b ≡ base (plan_in ks ps) (p / chapter_pages) → h ≡ has_plain (plan_in ks ps (p / chapter_pages)) → a ≡ cond h 1 0
      → n ≡ count (plan_in ks ps (p / chapter_pages)).page (p % chapter_pages) → k ≡ first_k (p / chapter_pages)
      → paragraph_size * (page_paragraphs * (b + a + n) + k) ≡ page_place (plan_in ks ps) p
  unfolding page_at
  page_place_lem b a n k h eb eh ea en ek = rw (ea, eh, en, ek, eb)

-- RAM of a chapter
module _ (ks : List ℕ) (ps : List Bool) (p : ℕ) where
  abbrev pub ram_in : ℕ → Bool
  ram_in x = holds_ram (plan_in ks ps x) (base (plan_in ks ps) x) p

  pub ram_in_lem : (x b : ℕ) (k r : Bool) → b ≡ base (plan_in ks ps) x → k ≡ is_ram_kind (get_or ks (16 * x + p % 16) 0) → r ≡ (eqb (p / 16) b && k)
      → r ≡ ram_in x
  unfolding holds_ram
  ram_in_lem x b k r eb ek er = er ∙ rw (eb, ek)

  pub rams_all : (r : Bool) (x : ℕ) → Somewhere chapters ram_in x r → chapters ≤ x → r ≡ ram_covered_of (plan_in ks ps) p
  rams_all r x c h = somewhere_all chapters ram_in x r c h
