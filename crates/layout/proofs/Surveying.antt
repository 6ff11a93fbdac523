-- The tables of a survey, place by place.
use Prim.Native.Nat.{ℕ, ◌≤◌, ◌<◌, ◌+◌, ◌*◌}
use mathlib.Core.List.{List}
use mathlib.Core.Path.{◌≡◌, refl, sym, ap, ◌∙◌}
use mathlib.Core.Bool.{Bool, true, false, ◌||◌}
use native.Mathlib.Omega.{arith}
use lib.ListN.{get_or}
use lib.Dec.{eqb, ltb}
use borrow.Author.Tests.{eq-eqb, ne_eqb, lt-ltb, le-ltb}
use Rattle.basics.specs.Counts.{all}
use Rattle.basics.specs.Laws.Counts.{all_at, all_of, all_more}
use Rattle.basics.specs.Laws.Tests.{cases, true_is_not_false, or_left, or_right}
use Rattle.places.specs.Limits.{chapter_paragraphs}
use Rattle.switches.specs.Flips.{first_k}
use Rattle.layout.specs.Code.Survey.{under_in}

-- plain ROM throughout, k paragraphs of a chapter
abbrev pub rom_at : List ℕ → ℕ → ℕ → Bool
rom_at kinds x k = ltb k (first_k x) || eqb (get_or kinds (chapter_paragraphs * x + k) 0) 1

module _ (kinds : List ℕ) (x : ℕ) where
  pub rom_none : (first : ℕ) → first ≡ first_k x → all first (rom_at kinds x) ≡ true
  rom_none first e = all_of first (rom_at kinds x) (λ i l. or_left (ltb i (first_k x)) _ (lt-ltb i (first_k x) (rw e at l)))

  pub rom_more : (k : ℕ) → all k (rom_at kinds x) ≡ true → get_or kinds (chapter_paragraphs * x + k) 0 ≡ 1 → all (k + 1) (rom_at kinds x) ≡ true
  rom_more k h e = sym (all_more (rom_at kinds x) k true true true (sym h) (sym (or_right (ltb k (first_k x)) _ (eq-eqb _ 1 e))) refl)

  pub rom_fails : (k first : ℕ) → first ≡ first_k x → first ≤ k → k < chapter_paragraphs → (get_or kinds (chapter_paragraphs * x + k) 0 ≡ 1 → ⊥) → false ≡ under_in kinds x
  unfolding under_in
  rom_fails k first e f h n =
      let z : first_k x ≤ k = rw e at f in
      cases (all chapter_paragraphs (rom_at kinds x))
      (λ q. true_is_not_false (all_at chapter_paragraphs (rom_at kinds x) q k h) (rw (le-ltb k (first_k x) z, ne_eqb _ 1 n)))
      (λ q. sym q)

  pub rom_all : (k : ℕ) → k ≤ chapter_paragraphs → chapter_paragraphs ≤ k → all k (rom_at kinds x) ≡ true → true ≡ under_in kinds x
  unfolding under_in
  rom_all k l h e = let z : k ≡ chapter_paragraphs = omega arith in sym e ∙ ap (λ (m : ℕ). all m (rom_at kinds x)) z
