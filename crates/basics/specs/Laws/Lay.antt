-- A list of words stored at a place and on: which places then hold what.
use Rattle.std.specs.Prelude.{ℕ, ◌+◌, ◌≤◌, ◌<◌, List, ◌++◌, ◌≡◌, ◌⊎◌, length, get_or}
use Rattle.std.proofs.Common.{ap, ◌∙◌, length-append, get_or-append-add}
use Rattle.std.proofs.Math.ListN.{get_or-append}
use Rattle.basics.specs.Lists.{lay, laid}
use Rattle.basics.specs.Laws.Lists.{length_laid, laid_in, laid_out, laid_add, laid_same}
use Rattle.basics.specs.Tables.{table}
use Rattle.basics.specs.Laws.Tables.{length_table, get_d_table}

-- words that lie within the first m words, or are none
abbrev pub Inside : ℕ → List ℕ → ℕ → Type 0
Inside a ws m = (length ws ≡ 0) ⊎ (a + length ws ≤ m)

module _ (a : ℕ) (ws ram : List ℕ) where
  pub length_lay : length (lay a ws ram) ≡ length ram
  length_lay = length_laid a (λ i. get_or ws i 0) ram (length ws)

  -- a place that is named holds its word, and any other place what it held
  pub lay_in : (i : ℕ) → i < length ws → a + i < length ram → get_or (lay a ws ram) (a + i) 0 ≡ get_or ws i 0
  lay_in i h s = laid_in a (λ j. get_or ws j 0) ram (length ws) i h s

  pub lay_out : (p : ℕ) → (p < a) ⊎ (a + length ws ≤ p) → get_or (lay a ws ram) p 0 ≡ get_or ram p 0
  lay_out p h = laid_out a (λ j. get_or ws j 0) ram (length ws) p h

-- words laid in two goes
pub lay_append : (a : ℕ) (xs ys ram : List ℕ) → lay a (xs ++ ys) ram ≡ lay (a + length xs) ys (lay a xs ram)
lay_append a xs ys ram =
    ap (λ (n : ℕ). laid a n (λ i. get_or (xs ++ ys) i 0) ram) (length-append xs ys)
    ∙ laid_add a (length xs) (length ys) (λ i. get_or (xs ++ ys) i 0) ram
    ∙ laid_same (a + length xs) (length ys) (λ i. get_or (xs ++ ys) (length xs + i) 0) (λ i. get_or ys i 0) _ (λ i h. get_or-append-add xs ys i 0)
    ∙ ap (λ (m : List ℕ). lay (a + length xs) ys m) (laid_same a (length xs) (λ i. get_or (xs ++ ys) i 0) (λ i. get_or xs i 0) ram (λ i h. get_or-append xs ys 0 i h))

-- the words of a table
pub lay_table : (a n : ℕ) (w : ℕ → ℕ) (ram : List ℕ) → lay a (table n w) ram ≡ laid a n w ram
lay_table a n w ram =
    ap (λ (k : ℕ). laid a k (λ i. get_or (table n w) i 0) ram) (length_table n w)
    ∙ laid_same a n (λ i. get_or (table n w) i 0) w ram (λ i h. get_d_table 0 n w i h)
