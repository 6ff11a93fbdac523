-- The cells, line by line and paragraph by paragraph: what is so after some of them.
use Prim.Native.Nat.{ℕ, ◌≤◌, ◌<◌, ◌+◌, ◌*◌, suc}
use mathlib.Core.List.{List, ◌∷◌, [], ◌++◌}
use mathlib.Core.Path.{◌≡◌, refl, sym, ap, ◌∙◌}
use mathlib.Core.Bool.{Bool, true, false, ◌&&◌}
use mathlib.Core.Logic.{inr}
use native.Mathlib.Omega.{arith}
use native.Mathlib.Numerals.{add-one}
use lib.ListN.{length, get_or, set, take, replicate, length-set}
use Rattle.std.proofs.lemmas.List.{set-get_or}
use Rattle.std.proofs.Common.{take_all}
use lib.Dec.{eqb}
use lib.Seq.{take-suc}
use borrow.Author.Tests.{le-ltb, lt-ltb, ne_eqb}
use Rattle.basics.specs.Laws.Tests.{and_false}
use Rattle.basics.specs.Lists.{laid}
use Rattle.basics.specs.Laws.Lists.{laid_none, laid_more, laid_out}
use Rattle.places.specs.Limits.{cells, layers, paragraphs, paragraph_size}
use Rattle.lines.specs.declared.Line.{Line}
use Rattle.lines.specs.declared.Entry.{Entry}
use Rattle.lines.specs.Lines.{layer, holds}
use Rattle.layout.specs.Code.Survey.{no_line, takes, claimed, Cells}
use Rattle.layout.specs.Laws.Cells.{cells_none, cells_more}

-- the cells of a line's layer, p of them
abbrev word : Entry → ℕ → List ℕ → ℕ → ℕ → ℕ
word e number o t p = takes (holds e (paragraph_size * p)) number (get_or o (paragraphs * t + p) 0)

pub record Claiming (e : Entry) (number t : ℕ) (o₀ : List ℕ) (p : ℕ) (o : List ℕ) : Type 0 where
  pub up : p ≤ paragraphs
  pub on : t ≡ layer e
  pub below : t < layers
  pub long : length o ≡ length o₀
  pub is : o ≡ laid (paragraphs * t) p (word e number o₀ t) o₀

pub claiming_not : (e : Entry) (number t : ℕ) (o : List ℕ) → t ≡ layer e → layers ≤ t → o ≡ claimed e number o
unfolding claimed
claiming_not e number t o q h = rw (← q, le-ltb t layers h)

module _ (e : Entry) (number t : ℕ) (o₀ : List ℕ) where
  pub claiming_none : t ≡ layer e → t < layers → Claiming e number t o₀ 0 o₀
  claiming_none q h =
      record { up = omega arith; on = q; below = h; long = refl; is = sym (laid_none (paragraphs * t) (word e number o₀ t) o₀) }

  module _ (p : ℕ) (o : List ℕ) (c : Claiming e number t o₀ p o) where
    claiming_by : (held : Bool) (i v : ℕ) → p < paragraphs → held ≡ holds e (paragraph_size * p) → i ≡ paragraphs * t + p → v ≡ takes held number (get_or o i 0)
        → Claiming e number t o₀ (p + 1) (set o i v)
    claiming_by held i v h eh ei ev =
        let r : get_or o (paragraphs * t + p) 0 ≡ get_or o₀ (paragraphs * t + p) 0 =
        ap (λ (l : List ℕ). get_or l (paragraphs * t + p) 0) c.is ∙ laid_out (paragraphs * t) (word e number o₀ t) o₀ p (paragraphs * t + p) (inr (omega arith)) in
        record {
          up = omega arith;
          on = c.on;
          below = c.below;
          long = length-set o i v ∙ c.long;
          is = rw ei (laid_more (paragraphs * t) (word e number o₀ t) o₀ p o v c.is (ev ∙ rw (eh, ei, r)));
        }

    -- a cell that is taken, and one that is left
    pub claiming_takes : (held : Bool) (m : List ℕ) → p < paragraphs → get_or o (paragraphs * t + p) 0 ≡ 0 → held ≡ holds e (paragraph_size * p) → held ≡ true
        → m ≡ set o (paragraphs * t + p) number → Claiming e number t o₀ (p + 1) m
    claiming_takes held m h free eh on em = rw em (claiming_by held (paragraphs * t + p) number h eh refl (rw (free, on)))

    leaves_by : (b : Bool) (v : ℕ) → b && eqb v 0 ≡ false → v ≡ takes b number v
    leaves_by b v e = rw e

    claiming_leaves : (m : List ℕ) → p < paragraphs → holds e (paragraph_size * p) && eqb (get_or o (paragraphs * t + p) 0) 0 ≡ false → m ≡ o → Claiming e number t o₀ (p + 1) m
    claiming_leaves m h off em =
        rw (em, ← set-get_or o (paragraphs * t + p) 0)
        (claiming_by (holds e (paragraph_size * p)) (paragraphs * t + p) (get_or o (paragraphs * t + p) 0) h refl refl (leaves_by (holds e (paragraph_size * p)) _ off))

    pub claiming_owned : (m : List ℕ) → p < paragraphs → (get_or o (paragraphs * t + p) 0 ≡ 0 → ⊥) → m ≡ o → Claiming e number t o₀ (p + 1) m
    claiming_owned m h n = claiming_leaves m h (and_false (holds e (paragraph_size * p)) _ (ne_eqb _ 0 n))

    pub claiming_past : (held : Bool) (m : List ℕ) → p < paragraphs → held ≡ holds e (paragraph_size * p) → held ≡ false → m ≡ o → Claiming e number t o₀ (p + 1) m
    claiming_past held m h eh off = claiming_leaves m h (rw (← eh, off))

    pub claiming_all : paragraphs ≤ p → o ≡ claimed e number o₀
    unfolding claimed
    claiming_all h =
        let z : p ≡ paragraphs = omega (arith, c.up) in
        let l : layer e < layers = rw c.on at c.below in
        rw (lt-ltb (layer e) layers l, ← c.on) (rw z at c.is)

-- the cells of the first k lines
pub record Numbers (all : List Line) (k : ℕ) (o : List ℕ) : Type 0 where
  pub up : k ≤ length all
  pub are : Cells all (take k all) o

module _ (all : List Line) where
  pub numbers_none : Numbers all 0 (replicate cells 0)
  numbers_none = record { up = omega arith; are = cells_none all }

  pub numbers_more : (k number : ℕ) (o o' : List ℕ) → Numbers all k o → k < length all → number ≡ k + 1 → o' ≡ claimed (get_or all k no_line).entry number o
      → Numbers all (k + 1) o'
  numbers_more k number o o' c h q e =
      let s : number ≡ suc k = omega arith in
      let t : take (k + 1) all ≡ take k all ++ (get_or all k no_line ∷ []) = rw add-one (take-suc all k no_line h) in
      record { up = omega arith; are = rw (t, e, s) (cells_more all (take k all) o c.are (get_or all k no_line) k (omega arith) refl) }

  pub numbers_all : (k : ℕ) (o : List ℕ) → Numbers all k o → length all ≤ k → Cells all all o
  numbers_all k o c h = rw (take_all k all h) at c.are
