-- Rules 25 and 26 of one line, as facts: its addresses in order, and its shape.
use Rattle.std.specs.Prelude.{ℕ, ◌<◌, ◌%◌, ◌/◌, ◌-◌, ◌+◌, ◌≤◌, suc, zero, ◌≡◌, refl, false, true, ◌&&◌, not, ◌||◌, cond, ◌⊎◌, leb, eqb, ltb}
use Rattle.std.proofs.Common.{sym, ◌∙◌, inl, inr, ⊎_elim, arith, leb-false, eqb-true, eq-eqb, ne_eqb, leb-true, ltb-false}
use Rattle.basics.specs.Laws.Tests.{cases, and_right, not-true, or_false_right, and_left, or_false_left, or_cases, not-false}
use Rattle.places.specs.Limits.{paragraph_size, chapter_size, half_size, half_start, chapter_pages}
use Rattle.switches.specs.Flips.{first_k}
use Rattle.lines.specs.declared.Entry.{Entry}
use Rattle.lines.specs.declared.Entry.TheVariants.{Rom, Paged, Ram}
use Rattle.lines.specs.Lines.{layer, first, last}
use Rattle.rules.specs.Rules.{meets, plain_shape, touches_silent, whole_page, half_page, page_shape, backwards, past_bin, out_of_range, misshapen}
use Rattle.rules.specs.Code.Shapes.{PlainShape, PageShape, PlainLine, PageLine, Fine}

-- ranges that do not meet
clear : (a b c d : ℕ) → meets a b c d ≡ false → (b < c) ⊎ (d < a)
clear a b c d e =
    cases (leb a d) (λ f. inl (leb-false c b (sym (simp f) ∙ e))) (λ f. inr (leb-false a d f))

plain_of : (a b : ℕ) → plain_shape a b ≡ true → PlainShape a b
unfolding plain_shape touches_silent
plain_of a b e =
    let r : eqb (b % paragraph_size) 255 && not (touches_silent a b) ≡ true = and_right (eqb (a % paragraph_size) 0) _ e in
    let s : touches_silent a b ≡ false = not-true _ (and_right (eqb (b % paragraph_size) 255) _ r) in
    let t : meets a b 0x1000 0x1FFF || meets a b 0x3000 0x3FFF ≡ false = or_false_right (meets a b 0 0x4FF) _ s in
    record {
      start = eqb-true (a % paragraph_size) 0 (and_left _ _ e);
      end = eqb-true (b % paragraph_size) 255 (and_left _ _ r);
      above = ⊎_elim (λ h. absurd (omega arith)) (λ h. omega arith) (clear a b 0 0x4FF (or_false_left _ _ s));
      one = ⊎_elim (λ h. inl h) (λ h. inr (omega arith)) (clear a b 0x1000 0x1FFF (or_false_left _ _ t));
      three = ⊎_elim (λ h. inl h) (λ h. inr (omega arith)) (clear a b 0x3000 0x3FFF (or_false_right (meets a b 0x1000 0x1FFF) _ t));
    }

-- where a flip changes the paragraphs
first_four : (x : ℕ) → x ≡ 4 → first_k x ≡ 8
first_four x e = simp (eq-eqb x 4 e)

first_other : (x : ℕ) → (x ≡ 4 → ⊥) → first_k x ≡ 0
first_other x e = simp (ne_eqb x 4 e)

whole_of : (a b : ℕ) → whole_page a b ≡ true → PageShape a b
whole_of a b e =
    let r : eqb (a % chapter_size) 0 && (eqb (a / chapter_size) 2 || leb 5 (a / chapter_size)) ≡ true = and_right (eqb (b - a + 1) chapter_size) _ e in
    let n : b - a + 1 ≡ chapter_size = eqb-true (b - a + 1) chapter_size (and_left _ _ e) in
    let s : a % chapter_size ≡ 0 = eqb-true (a % chapter_size) 0 (and_left _ _ r) in
    let c : (a / chapter_size ≡ 2) ⊎ (5 ≤ a / chapter_size) =
    ⊎_elim (λ h. inl (eqb-true (a / chapter_size) 2 h)) (λ h. inr (leb-true 5 (a / chapter_size) h))
    (or_cases (eqb (a / chapter_size) 2) (leb 5 (a / chapter_size)) (and_right (eqb (a % chapter_size) 0) _ r)) in
    let four : a / chapter_size ≡ 4 → ⊥ = λ q. ⊎_elim (λ h. omega arith) (λ h. omega arith) c in
    let k : first_k (a / chapter_size) ≡ 0 = first_other (a / chapter_size) four in
    record {
      start = omega arith;
      end = omega arith;
      above = ⊎_elim (λ h. omega arith) (λ h. omega arith) c;
      not_three = λ q. ⊎_elim (λ h. omega arith) (λ h. omega arith) c;
    }

half_of : (a b : ℕ) → half_page a b ≡ true → PageShape a b
half_of a b e =
    let n : b - a + 1 ≡ half_size = eqb-true (b - a + 1) half_size (and_left _ _ e) in
    let s : a ≡ half_start = eqb-true a half_start (and_right (eqb (b - a + 1) half_size) _ e) in
    let k : first_k (a / chapter_size) ≡ 8 = first_four (a / chapter_size) (omega arith) in
    record { start = omega arith; end = omega arith; above = omega arith; not_three = omega arith }

page_of : (a b : ℕ) → page_shape a b ≡ true → PageShape a b
unfolding page_shape
page_of a b e = ⊎_elim (whole_of a b) (half_of a b) (or_cases (whole_page a b) (half_page a b) e)

-- 25: lo is not above hi, so the first address is not above the last
in_order : (e : Entry) → backwards e ≡ false → first e ≤ last e
in_order (Rom lo hi at) r = omega arith
in_order (Paged lo hi at y) r = omega arith
in_order (Ram lo hi w) r = ltb-false hi.0 lo.0 r

-- 26: by the layer
shaped : (e : Entry) (t : ℕ) → layer e ≡ t → cond (eqb t 0) (not (plain_shape (first e) (last e))) (ltb chapter_pages t || not (page_shape (first e) (last e))) ≡ false
    → (PlainLine e) ⊎ (PageLine e)
shaped e zero o s = inl (record { on = o; shape = plain_of (first e) (last e) (not-false _ s) })
shaped e (suc y) o s =
    let r : ltb chapter_pages (suc y) || not (page_shape (first e) (last e)) ≡ false = simp (ne_eqb (suc y) 0 (omega arith)) at s in
    inr
    (record {
      page = y;
      on = o;
      digit = omega (arith, ltb-false chapter_pages (suc y) (or_false_left _ _ r));
      shape = page_of (first e) (last e) (not-false _ (or_false_right (ltb chapter_pages (suc y)) _ r));
    })

pub fine_of : (words : ℕ) (e : Entry) → out_of_range words e ≡ false → misshapen e ≡ false → Fine e
fine_of words e r s =
    let q : past_bin words e || ltb 0xFFFF (last e) ≡ false = or_false_right (backwards e) _ r in
    record {
      ordered = in_order e (or_false_left _ _ r);
      ends = omega (arith, ltb-false 0xFFFF (last e) (or_false_right (past_bin words e) _ q));
      shape = shaped e (layer e) refl s;
    }

-- a line holds all of a paragraph or nothing of it
pub record Aligned (e : Entry) : Type 0 where
  pub start : first e % paragraph_size ≡ 0
  pub end : last e % paragraph_size ≡ 255

pub aligned : {e : Entry} → Fine e → Aligned e
aligned {e} f = by f.shape
  where
    by : (PlainLine e) ⊎ (PageLine e) → Aligned e
    by (inl p) = record { start = p.shape.start; end = p.shape.end }
    by (inr p) = record { start = omega (arith, p.shape.start); end = omega (arith, p.shape.end) }
