-- Laws of flips: the loop that makes one, and what each paragraph of a table then holds.
use Rattle.std.specs.Prelude.{◌≡◌, ℕ, ◌+◌, ◌-◌, ◌*◌, ◌/◌, ◌%◌, ◌<◌, ◌≤◌, Bool, true, false, cond, ◌&&◌, ◌⊎◌, List, length, ◌==◌, nat_le, slice_index, slice_set}
use Rattle.std.proofs.Math.Path.{ap}
use Rattle.std.proofs.Common.{◌∙◌, eqb-true, leb-true, leb-false}
use Rattle.std.proofs.Math.Logic.{inl, inr}
use native.Mathlib.Omega.{arith}
use Rattle.std.proofs.lemmas.Bool.{eqb-false}
use Rattle.basics.specs.Lists.{laid}
use Rattle.basics.specs.Laws.Lists.{laid_none, laid_more, length_laid, laid_out, laid_in}
use Rattle.basics.specs.Laws.Tests.{compare, cases}
use Rattle.places.specs.Limits.{chapter_paragraphs}
use Rattle.switches.specs.Flips.{first_k, turned}

first_of : (b : Bool) → cond b 8 0 ≤ 8
first_of true = omega arith
first_of false = omega arith

pub first_small : (x : ℕ) → first_k x ≤ 8
first_small x = first_of (x == 4)

module _ (x : ℕ) (f : ℕ → ℕ) (m : List ℕ) where
  -- where a flip in chapter x begins, how many paragraphs it changes, and what the j-th of them takes
  abbrev from : ℕ
  from = chapter_paragraphs * x + first_k x

  abbrev size : ℕ
  size = chapter_paragraphs - first_k x

  abbrev put : ℕ → ℕ
  put j = f (first_k x + j)

  -- the flip's loop has come to paragraph k
  unfoldable pub turning : ℕ → List ℕ
  turning k = laid from (k - first_k x) put m

  pub turning_none : (k : ℕ) → k ≡ first_k x → m ≡ turning k
  unfolding turning
  turning_none k e = let z : k - first_k x ≡ 0 = omega arith in rw (z, laid_none)

  pub turning_more : (k v : ℕ) (t : List ℕ) → first_k x ≤ k → t ≡ turning k → v ≡ f k → slice_set t (chapter_paragraphs * x + k) v ≡ turning (k + 1)
  unfolding turning
  turning_more k v t l e g =
      let a : chapter_paragraphs * x + k ≡ from + (k - first_k x) = omega arith in
      let j : first_k x + (k - first_k x) ≡ k = omega arith in
      let n : k + 1 - first_k x ≡ k - first_k x + 1 = omega arith in
      rw (a, n) (laid_more from put m (k - first_k x) t v e (rw j g))

  pub turning_done : (k : ℕ) (t : List ℕ) → k ≤ chapter_paragraphs → chapter_paragraphs ≤ k → t ≡ turning k → t ≡ turned x f m
  unfolding turning turned
  turning_done k t a b e = let d : k ≡ chapter_paragraphs = omega arith in rw d at e

  pub length_turned : length (turned x f m) ≡ length m
  unfolding turned
  length_turned = length_laid from put m size

  -- by its rule: paragraph p, number k of its chapter, takes f's entry or keeps its own
  module _ (p : ℕ) where
    abbrev chapter : ℕ
    chapter = p / chapter_paragraphs

    abbrev k : ℕ
    k = p % chapter_paragraphs

    pub turned_out : (chapter ≡ x → k < first_k x) → slice_index (turned x f m) p ≡ slice_index m p
    unfolding turned
    turned_out h = laid_out from put m size p (side (compare chapter x))
      where
        side : (chapter ≡ x) ⊎ ((chapter < x) ⊎ (x < chapter)) → (p < from) ⊎ (from + size ≤ p)
        side (inl e) = inl (omega (arith, h e))
        side (inr (inl l)) = inl (omega arith)
        side (inr (inr l)) = inr (omega (arith, first_small x))

    pub turned_in : p < length m → chapter ≡ x → first_k x ≤ k → slice_index (turned x f m) p ≡ f k
    unfolding turned
    turned_in s e l =
        let i : p ≡ from + (k - first_k x) = omega arith in
        let j : first_k x + (k - first_k x) ≡ k = omega arith in
        ap (λ (q : ℕ). slice_index (laid from size put m) q) i ∙ laid_in from put m size (k - first_k x) (omega arith) (omega arith) ∙ ap f j

    pub turned_at : p < length m → slice_index (turned x f m) p ≡ cond (chapter == x && nat_le (first_k x) k) (f k) (slice_index m p)
    turned_at s =
        cases (chapter == x)
        (λ e.
        cases (nat_le (first_k x) k) (λ l. rw (e, l) (turned_in s (eqb-true _ _ e) (leb-true _ _ l))) (λ l. rw (e, l) (turned_out (λ q. leb-false _ _ l))))
        (λ e. rw e (turned_out (λ q. absurd (eqb-false _ _ e q))))
