-- Notes of blocks: of none, of one block more, and the note of a block read back.
use Prim.Native.Nat.{ℕ, ◌<◌}
use mathlib.Core.Path.{◌≡◌, refl, sym, ap, ◌∙◌}
use mathlib.Core.List.{List, [], ◌∷◌, ◌++◌, map, map-append, append_assoc}
use mathlib.Core.Bool.{Bool, false}
use native.Mathlib.Omega.{arith}
use lib.ListN.{length, get_or, set, length-append, length-map}
use lib.Seq.{set_at, get_or_at}
use Rattle.recovery.specs.Salvage.{left_out}
use Rattle.recovery.specs.Code.Passes.{Noted}

pub noted_none : (notes : List Bool) → Noted [] notes
noted_none notes = record { rest = notes; is = refl }

-- one block more, where there is room for its note
pub noted_more : (xs : List (List ℕ)) (x : List ℕ) (notes : List Bool) (n : ℕ) (b : Bool) → Noted xs notes → n ≡ length xs → n < length notes → b ≡ left_out x → Noted (xs ++ (x ∷ [])) (set notes n b)
noted_more xs x notes n b c en room eb = go c.rest c.is
  where
    go : (r : List Bool) → notes ≡ map left_out xs ++ r → Noted (xs ++ (x ∷ [])) (set notes n b)
    go [] e = absurd (omega (arith, ap length e, length-append (map left_out xs) [], length-map xs left_out))
    go (y ∷ ys) e =
        record {
          rest = ys;
          is =
              ap (λ (l : List Bool). set l n b) e ∙ set_at (map left_out xs) y ys b n (length-map xs left_out ∙ sym en)
              ∙ ap (λ (z : Bool). map left_out xs ++ (z ∷ ys)) eb ∙ sym (append_assoc (map left_out xs) (left_out x ∷ []) ys)
              ∙ ap (λ (l : List Bool). l ++ ys) (sym (map-append left_out xs (x ∷ [])));
        }

-- the note of a block among others
module _ (xs rest : List (List ℕ)) (x : List ℕ) (notes : List Bool) (n : ℕ) (c : Noted (xs ++ (x ∷ rest)) notes) (en : n ≡ length xs) where
  split : notes ≡ map left_out xs ++ (left_out x ∷ (map left_out rest ++ c.rest))
  split = c.is ∙ ap (λ (l : List Bool). l ++ c.rest) (map-append left_out xs (x ∷ rest)) ∙ append_assoc (map left_out xs) (left_out x ∷ map left_out rest) c.rest

  pub note_is : get_or notes n false ≡ left_out x
  note_is = ap (λ (l : List Bool). get_or l n false) split ∙ get_or_at (map left_out xs) (left_out x) _ false n (length-map xs left_out ∙ sym en)

  pub note_within : n < length notes
  note_within = omega (arith, ap length split, length-append (map left_out xs) (left_out x ∷ (map left_out rest ++ c.rest)), length-map xs left_out)
