-- Chosen paragraphs laid over a RAM: each of their words is as given, and every other word is kept.
use Prim.Native.Nat.{ℕ, ◌*◌, ◌+◌, ◌/◌, ◌≤◌, zero, suc, ◌<◌, ◌%◌}
use mathlib.Core.List.{List, [], ◌∷◌}
use Rattle.std.specs.Prelude.{◌≡◌, Bool, false, true, ◌⊎◌, length, get_or, ltb, eqb}
use Rattle.std.proofs.Math.Path.{refl, ap, sym}
use Rattle.std.proofs.Common.{◌∙◌, arith, add-one, ltb-true, ltb-false, eqb-true}
use Rattle.std.proofs.Math.Logic.{inl, inr}
use Rattle.std.proofs.lemmas.Bool.{eqb-false}
use Rattle.basics.specs.Listed.{listed}
use Rattle.basics.specs.Lists.{lay}
use Rattle.basics.specs.Laws.Lay.{lay_out, lay_in}
use Rattle.basics.specs.Laws.Tests.{cases, true_is_not_false}
use Rattle.places.specs.Limits.{locutus_paragraphs}
use Rattle.hunk.specs.Hunk.{Hunk}
use Rattle.blocks.specs.Images.{overlay}
use Rattle.blocks.specs.Laws.Images.{overlay_more}
use Rattle.load.proofs.Theorems.Ram.{length_overlay}
use Rattle.save.specs.Chosen.{paragraph_hunk, chosen}
use Rattle.save.specs.Laws.Chosen.{chosen_off, chosen_on, Lies}
use Rattle.trip.specs.Trip.{Overlaid}

-- each chosen paragraph below p has its words, and they lie in n words
abbrev pub EachLies : ℕ → ℕ → (ℕ → Bool) → (ℕ → List ℕ) → Type 0
EachLies n p on words = (q : ℕ) → q < p → on q ≡ true → Lies n (paragraph_hunk q (words q))

module _ (on : ℕ → Bool) (words : ℕ → List ℕ) (ram : List ℕ) where
  -- the chosen paragraphs below p, laid
  over : ℕ → List ℕ
  over p = overlay (chosen p on words) ram

  over_long : (p : ℕ) → length (over p) ≡ length ram
  unfolding over
  over_long p = length_overlay (chosen p on words) ram

  over_off : (p : ℕ) → on p ≡ false → over (p + 1) ≡ over p
  unfolding over
  over_off p e = ap (λ (hs : List Hunk). overlay hs ram) (chosen_off on words p e)

  over_on : (p : ℕ) → on p ≡ true → over (p + 1) ≡ lay (256 * p) (words p) (over p)
  unfolding over overlay
  over_on p e = ap (λ (hs : List Hunk). overlay hs ram) (chosen_on on words p e) ∙ overlay_more (chosen p on words) (paragraph_hunk p (words p) ∷ []) ram

  -- word k lies in another paragraph than p
  past : (p k : ℕ) → length (words p) ≡ 256 → (k / 256 ≡ p → ⊥) → get_or (lay (256 * p) (words p) (over p)) k 0 ≡ get_or (over p) k 0
  past p k l n =
      lay_out (256 * p) (words p) (over p) k
      (cases (ltb (k / 256) p) (λ c. inl (omega (arith, ltb-true (k / 256) p c))) (λ c. inr (omega (arith, ltb-false (k / 256) p c, n))))

  at : {x y : List ℕ} → x ≡ y → (k : ℕ) → get_or x k 0 ≡ get_or y k 0
  at e k = ap (λ (l : List ℕ). get_or l k 0) e

  module _ (n : ℕ) where
    over_out : (p k : ℕ) → EachLies n p on words → (on (k / 256) ≡ false) ⊎ (p ≤ k / 256) → get_or (over p) k 0 ≡ get_or ram k 0
    unfolding over listed overlay
    over_out zero k c h = refl
    over_out (suc p) k c h =
        let one : suc p ≡ p + 1 = sym (add-one p) in
        at (ap over one) k
        ∙ cases (on p)
        (λ e. at (over_on p e) k ∙ past p k (c p (omega arith) e).whole (λ q. other h e q) ∙ over_out p k (λ q l m. c q (omega arith) m) (lower h))
        (λ e. at (over_off p e) k ∙ over_out p k (λ q l m. c q (omega arith) m) (lower h))
      where
        lower : (on (k / 256) ≡ false) ⊎ (suc p ≤ k / 256) → (on (k / 256) ≡ false) ⊎ (p ≤ k / 256)
        lower (inl a) = inl a
        lower (inr a) = inr (omega arith)

        other : (on (k / 256) ≡ false) ⊎ (suc p ≤ k / 256) → on p ≡ true → k / 256 ≡ p → ⊥
        other (inl a) e q = true_is_not_false e (ap on (sym q) ∙ a)
        other (inr a) e q = omega arith

    over_in :
        (p k : ℕ) → n ≤ length ram → EachLies n p on words → k / 256 < p → on (k / 256) ≡ true → get_or (over p) k 0 ≡ get_or (words (k / 256)) (k % 256) 0
    over_in zero k s c h m = absurd (omega arith)
    over_in (suc p) k s c h m =
        let one : suc p ≡ p + 1 = sym (add-one p) in
        at (ap over one) k
        ∙ cases (eqb (k / 256) p)
        (λ d.
        let q : k / 256 ≡ p = eqb-true _ _ d in
        let e : on p ≡ true = ap on (sym q) ∙ m in
        let l : length (words p) ≡ 256 = (c p (omega arith) e).whole in
        let b : 256 * p + 256 ≤ n = (c p (omega arith) e).within in
        let o : length (over p) ≡ length ram = over_long p in
        let i : k ≡ 256 * p + k % 256 = omega arith in
        at (over_on p e) k ∙ ap (λ (j : ℕ). get_or (lay (256 * p) (words p) (over p)) j 0) i
        ∙ lay_in (256 * p) (words p) (over p) (k % 256) (omega arith) (omega arith) ∙ ap (λ (j : ℕ). get_or (words j) (k % 256) 0) (sym q))
        (λ d.
        let q : k / 256 ≡ p → ⊥ = eqb-false _ _ d in
        let j : k / 256 < p = omega (arith, q) in
        cases (on p)
        (λ e. at (over_on p e) k ∙ past p k (c p (omega arith) e).whole q ∙ over_in p k s (λ i l o. c i (omega arith) o) j m)
        (λ e. at (over_off p e) k ∙ over_in p k s (λ i l o. c i (omega arith) o) j m))

    pub laid_back : n ≤ length ram → EachLies n locutus_paragraphs on words → Overlaid on words ram (overlay (chosen locutus_paragraphs on words) ram)
    unfolding over
    laid_back s c =
        record {
          same = over_long locutus_paragraphs;
          given = λ k h m. over_in locutus_paragraphs k s c h m;
          kept = λ k h. over_out locutus_paragraphs k c h;
        }
