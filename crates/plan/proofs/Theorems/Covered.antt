-- The Locutus paragraphs that some lines cover, and those of them that are RAM, are those of their plan.
use Prim.Native.Nat.{ℕ, zero, suc, ◌+◌, ◌*◌, ◌/◌, ◌%◌, ◌<◌}
use Rattle.std.specs.Prelude.{◌≡◌, List, Bool, ◌&&◌, ◌||◌, leb, ltb}
use Rattle.std.proofs.Math.Path.{refl, sym, ap, ap₂}
use Rattle.std.proofs.Common.{◌∙◌, ⊎_elim, arith}
use Rattle.std.proofs.Math.Bool.{true, false, cond, not}
use Rattle.std.proofs.Math.Option.{Option, none, some}
use Rattle.std.proofs.Math.Dec.{eqb}
use borrow.Author.Tests.{eq-eqb, lt-ltb, eqb-true, ltb-true}
use Rattle.basics.specs.Counts.{count}
use Rattle.basics.specs.Options.{is_some}
use Rattle.basics.specs.Laws.Counts.{any_of, any_at, Place, count_more}
use Rattle.basics.specs.Laws.Nth.{Nth, nth_is, nth_count}
use Rattle.basics.specs.Laws.Tests.{cases, true_is_not_false, same_test, and_left, and_right, and_true, or_left, or_right, or_cases}
use Rattle.switches.specs.Flips.{first_k}
use Rattle.lines.specs.declared.Entry.{Entry}
use Rattle.lines.specs.declared.Entry.TheVariants.{Rom, Paged, Ram}
use Rattle.lines.specs.declared.Line.{Line}
use Rattle.lines.specs.Typed.{All}
use Rattle.lines.specs.Lines.{layer, line_at}
use Rattle.lines.specs.Kinds.{kind_by, kind_of}
use Rattle.lines.specs.Laws.Lines.{found}
use Rattle.lines.specs.Laws.Kinds.{some_by}
use Rattle.rules.specs.Chapters.{line_in, uses, kind_at}
use Rattle.rules.specs.Code.Shapes.{Fine}
use Rattle.rules.specs.Laws.Rules.{page_in_lem, uses_page}
use Rattle.layout.specs.Layout.{used, page_of, pages, slot_of_page, line_held, covered}
use Rattle.plan.specs.Valid.{is_ram_kind}
use Rattle.plan.specs.Image.{page_at, base, holds_plain, holds_page, holds_ram, covered_of, ram_covered_of}
use Rattle.plan.specs.OfLines.{plan_of}
use Rattle.plan.proofs.Theorems.Tables.{used_is, base_is, plain_page, page_page}

-- the line behind a paragraph, by the slot of its page
module _ (lines : List Line) (p s : ℕ) (below : s < 272) (on : used lines s ≡ true) (page : count (used lines) s ≡ p / 16) where
  held_at : line_held lines p ≡ line_in lines (s % 17) (16 * (s / 17) + p % 16)
  unfolding line_held slot_of_page pages
  held_at =
      let e : slot_of_page lines (p / 16) ≡ s = ap (λ (n : ℕ). slot_of_page lines n) (sym page) ∙ nth_count (used lines) 272 s on below in
      let l : p / 16 < count (used lines) 272 = omega (arith, count_more (used lines) s 272 on below) in
      rw (lt-ltb (p / 16) (count (used lines) 272) l) (ap (λ (n : ℕ). line_in lines (n % 17) (16 * (n / 17) + p % 16)) e)

-- a paragraph that is covered has a slot
pub record Slot (lines : List Line) (p : ℕ) : Type 0 where
  pub chapter : ℕ
  pub layer : ℕ
  pub below : chapter < 16
  pub few : layer < 17
  pub page : count (used lines) (17 * chapter + layer) ≡ p / 16
  pub held : line_held lines p ≡ line_in lines layer (16 * chapter + p % 16)

slot_of : (lines : List Line) (p : ℕ) → covered lines p ≡ true → Slot lines p
unfolding line_held slot_of_page pages
slot_of lines p e =
    cases (ltb (p / 16) (count (used lines) 272))
    (λ l.
    let n : Nth (used lines) 272 (p / 16) (slot_of_page lines (p / 16)) = nth_is (used lines) 272 (p / 16) (ltb-true (p / 16) _ l) in
    let c : 17 * (slot_of_page lines (p / 16) / 17) + slot_of_page lines (p / 16) % 17 ≡ slot_of_page lines (p / 16) = omega arith in
    record {
      chapter = slot_of_page lines (p / 16) / 17;
      layer = slot_of_page lines (p / 16) % 17;
      below = omega (arith, n.below);
      few = omega arith;
      page = ap (count (used lines)) c ∙ n.before;
      held = held_at lines p (slot_of_page lines (p / 16)) n.below n.passes n.before;
    })
    (λ l. true_is_not_false e (rw l))

ram_some : (n : ℕ) → is_ram_kind n ≡ true → not (eqb n 0) ≡ true
ram_some n e = cases (eqb n 0) (λ z. let q : n ≡ 0 = eqb-true n 0 z in true_is_not_false e (rw q)) (λ z. rw z)

module _ {lines : List Line} (fine : All Fine lines) (p : ℕ) where
  -- a slot that holds words of the paragraph
  slot_held : (x t : ℕ) → x < 16 → t < 17 → is_some (line_in lines t (16 * x + p % 16)) ≡ true → page_of lines x t ≡ p / 16 →
      line_held lines p ≡ line_in lines t (16 * x + p % 16)
  unfolding page_of uses
  slot_held x t h l e f =
      let u : uses lines x t ≡ true = any_of 16 (λ k. is_some (line_in lines t (16 * x + k))) (p % 16) (omega arith) e in
      held_at lines p (17 * x + t) (omega arith) (used_is lines x t l ∙ u) f
      ∙ ap₂ (λ (a b : ℕ). line_in lines a (16 * b + p % 16)) (omega arith) (omega arith)

  plain_held : (x : ℕ) → x < 16 → p / 16 ≡ base (plan_of lines) x → not (eqb (kind_at lines (16 * x + p % 16)) 0) ≡ true →
      line_held lines p ≡ line_in lines 0 (16 * x + p % 16)
  plain_held x h e f =
      slot_held x 0 h (omega arith) (some_by (line_in lines 0 (16 * x + p % 16)) ∙ f) (sym (plain_page lines x) ∙ sym e)

  page_some : (x y : ℕ) → uses lines x (suc y) ≡ true → leb (first_k x) (p % 16) ≡ true → is_some (line_in lines (suc y) (16 * x + p % 16)) ≡ true
  page_some x y e f = rw (page_in_lem fine x y (p % 16) (omega arith), f) (sym (uses_page fine x y) ∙ e)

  module _ (x : ℕ) (h : x < 16) where
    by_plain : holds_plain (plan_of lines x) (base (plan_of lines) x) p ≡ true → covered lines p ≡ true
    unfolding holds_plain
    by_plain e =
        let k : not (eqb (kind_at lines (16 * x + p % 16)) 0) ≡ true = and_right (eqb (p / 16) (base (plan_of lines) x)) _ e in
        ap is_some (plain_held x h (eqb-true (p / 16) (base (plan_of lines) x) (and_left _ _ e)) k) ∙ some_by (line_in lines 0 (16 * x + p % 16)) ∙ k

    by_page : holds_page x (plan_of lines x) (base (plan_of lines) x) p ≡ true → covered lines p ≡ true
    unfolding holds_page
    by_page e =
        let w : Place 16 (λ y. uses lines x (suc y) && eqb (p / 16) (page_at (plan_of lines x) (base (plan_of lines) x) y)) =
        any_at 16 _ (and_right (leb (first_k x) (p % 16)) _ e) in
        let u : is_some (line_in lines (suc w.at) (16 * x + p % 16)) ≡ true =
        page_some x w.at (and_left (uses lines x (suc w.at)) _ w.passes) (and_left (leb (first_k x) (p % 16)) _ e) in
        let f : p / 16 ≡ page_at (plan_of lines x) (base (plan_of lines) x) w.at = eqb-true (p / 16) _ (and_right (uses lines x (suc w.at)) _ w.passes) in
        ap is_some (slot_held x (suc w.at) h (omega (arith, w.below)) u (sym (page_page lines x w.at w.below) ∙ sym f)) ∙ u

  -- and the other way round
  slot_some : (x t : ℕ) → t < 17 → count (used lines) (17 * x + t) ≡ p / 16 → is_some (line_in lines t (16 * x + p % 16)) ≡ true →
      holds_plain (plan_of lines x) (base (plan_of lines) x) p || holds_page x (plan_of lines x) (base (plan_of lines) x) p ≡ true
  unfolding holds_page holds_plain page_of
  slot_some x zero h f e =
      or_left (holds_plain (plan_of lines x) (base (plan_of lines) x) p) _
      (and_true (eqb (p / 16) (base (plan_of lines) x)) _ (eq-eqb (p / 16) _ (sym (plain_page lines x ∙ f))) (sym (some_by (line_in lines 0 (16 * x + p % 16))) ∙ e))
  slot_some x (suc y) h f e =
      let r : cond (leb (first_k x) (p % 16)) (is_some (line_in lines (suc y) (16 * x + 15))) false ≡ true =
      sym (some_cond (leb (first_k x) (p % 16)) (line_in lines (suc y) (16 * x + 15))) ∙ (rw (page_in_lem fine x y (p % 16) (omega arith)) at e) in
      let k : (leb (first_k x) (p % 16) ≡ true) × (is_some (line_in lines (suc y) (16 * x + 15)) ≡ true) = both (leb (first_k x) (p % 16)) _ r in
      or_right (holds_plain (plan_of lines x) (base (plan_of lines) x) p) _
      (and_true (leb (first_k x) (p % 16)) _ k.0
      (any_of 16 (λ i. uses lines x (suc i) && eqb (p / 16) (page_at (plan_of lines x) (base (plan_of lines) x) i)) y (omega arith)
      (and_true (uses lines x (suc y)) _ (uses_page fine x y ∙ k.1) (eq-eqb (p / 16) _ (sym (page_page lines x y (omega arith) ∙ f))))))
    where
      some_cond : (b : Bool) (o : Option Line) → is_some (cond b o none) ≡ cond b (is_some o) false
      some_cond true o = refl
      some_cond false o = refl

      both : (a b : Bool) → cond a b false ≡ true → (a ≡ true) × (b ≡ true)
      both true b q = (refl, q)
      both false b q = true_is_not_false q refl

  pub covered_is : covered lines p ≡ covered_of (plan_of lines) p
  covered_is =
      same_test (covered lines p) (covered_of (plan_of lines) p)
      (λ e.
      let s : Slot lines p = slot_of lines p e in
      any_of 16 (λ i. holds_plain (plan_of lines i) (base (plan_of lines) i) p || holds_page i (plan_of lines i) (base (plan_of lines) i) p) s.chapter s.below
      (slot_some s.chapter s.layer s.few s.page (sym (ap is_some s.held) ∙ e)))
      (λ e.
      let w : Place 16 (λ x. holds_plain (plan_of lines x) (base (plan_of lines) x) p || holds_page x (plan_of lines x) (base (plan_of lines) x) p) = any_at 16 _ e in
      ⊎_elim (by_plain w.at w.below) (by_page w.at w.below) (or_cases (holds_plain (plan_of lines w.at) (base (plan_of lines) w.at) p) _ w.passes))

  -- RAM is plain
  ram_layer : (t a : ℕ) (o : Option Line) → line_at lines t a ≡ o → is_ram_kind (kind_of o) ≡ true → t ≡ 0
  ram_layer t a none f e = true_is_not_false e refl
  ram_layer t a (some l) f e = sym (found fine t a l f).on ∙ by l.entry e
    where
      by : (e : Entry) → is_ram_kind (kind_by e) ≡ true → layer e ≡ 0
      by (Rom lo hi at) h = refl
      by (Paged lo hi at y) h = true_is_not_false h refl
      by (Ram lo hi w) h = refl

  ram_there : ram_covered_of (plan_of lines) p ≡ true → is_ram_kind (kind_of (line_held lines p)) ≡ true
  unfolding holds_ram
  ram_there e =
      let w : Place 16 (λ x. eqb (p / 16) (base (plan_of lines) x) && is_ram_kind (kind_at lines (16 * x + p % 16))) = any_at 16 _ e in
      let k : is_ram_kind (kind_at lines (16 * w.at + p % 16)) ≡ true = and_right (eqb (p / 16) (base (plan_of lines) w.at)) _ w.passes in
      ap (λ (o : Option Line). is_ram_kind (kind_of o))
      (plain_held w.at w.below (eqb-true (p / 16) (base (plan_of lines) w.at) (and_left _ _ w.passes)) (ram_some (kind_at lines (16 * w.at + p % 16)) k))
      ∙ k

  ram_back : is_ram_kind (kind_of (line_held lines p)) ≡ true → ram_covered_of (plan_of lines) p ≡ true
  unfolding holds_ram
  ram_back e =
      let s : Slot lines p = slot_of lines p (some_by (line_held lines p) ∙ ram_some (kind_of (line_held lines p)) e) in
      let r : is_ram_kind (kind_of (line_in lines s.layer (16 * s.chapter + p % 16))) ≡ true = rw s.held at e in
      let z : s.layer ≡ 0 = ram_layer s.layer (256 * (16 * s.chapter + p % 16)) (line_in lines s.layer (16 * s.chapter + p % 16)) refl r in
      let b : base (plan_of lines) s.chapter ≡ p / 16 = base_is lines s.chapter ∙ ap (count (used lines)) (omega arith) ∙ s.page in
      any_of 16 (λ x. eqb (p / 16) (base (plan_of lines) x) && is_ram_kind (kind_at lines (16 * x + p % 16))) s.chapter s.below
      (and_true (eqb (p / 16) (base (plan_of lines) s.chapter)) _ (eq-eqb (p / 16) _ (sym b)) (rw z at r))

  pub ram_is : is_ram_kind (kind_of (line_held lines p)) ≡ ram_covered_of (plan_of lines) p
  ram_is = same_test _ _ ram_back ram_there
