-- The words of a paragraph, compared one after the other: the first i of them were looked at.
use Prim.Native.Nat.{◌*◌, ◌+◌, ◌<◌, ◌≤◌, ℕ}
use mathlib.Core.List.{List}
use mathlib.Core.Path.{◌≡◌}
use mathlib.Core.Bool.{Bool, ◌&&◌, not, true}
use lib.Dec.{eqb}
use lib.ListN.{get_or}
use Rattle.basics.specs.Laws.Joined.{Everywhere, everywhere_none, everywhere_by, everywhere_all}
use Rattle.places.specs.Limits.{paragraph_size}
use Rattle.retrace.specs.Code.Named.{word_named}
use Rattle.rebuild.specs.Code.Retraced.{unnamed_in}

module _ (zs os : List ℕ) where
  pub record Unnamed (p : ℕ) (r : Bool) (i : ℕ) : Type 0 where
    pub is : Everywhere paragraph_size (λ j. not (word_named zs os (paragraph_size * p + j))) i r

  pub unnamed_none : (p : ℕ) → Unnamed p true 0
  unnamed_none p = record { is = everywhere_none paragraph_size (λ j. not (word_named zs os (paragraph_size * p + j))) }

  pub unnamed_more : (p : ℕ) (r : Bool) (i : ℕ) (v : Bool) (a b : ℕ) → Unnamed p r i → i < paragraph_size → a ≡ get_or zs (paragraph_size * p + i) 0
      → b ≡ get_or os (paragraph_size * p + i) 0 → v ≡ (not (eqb a b) && r) → Unnamed p v (i + 1)
  unnamed_more p r i v a b c h ea eb ev =
      record { is = everywhere_by paragraph_size (λ j. not (word_named zs os (paragraph_size * p + j))) i r (not (eqb a b)) v c.is h (rw (ea, eb)) ev }

  pub unnamed_all : (p : ℕ) (r : Bool) (i : ℕ) → Unnamed p r i → paragraph_size ≤ i → r ≡ unnamed_in zs os p
  unnamed_all p r i c h = everywhere_all paragraph_size (λ j. not (word_named zs os (paragraph_size * p + j))) i r c.is h

pub blank_is : (a x : ℕ) → a ≡ x → eqb a 0 ≡ eqb x 0
blank_is a x e = rw e
