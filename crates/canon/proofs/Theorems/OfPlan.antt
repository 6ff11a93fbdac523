-- The canonical lines of a valid plan are of that plan (W-213, Lemma 1 (b)).
use Rattle.std.specs.Prelude.{◌%◌, ◌*◌, ◌+◌, ◌-◌, ◌/◌, ◌<◌, ◌≤◌, suc, ℕ, ◌≡◌, refl, false, not, true, ◌⊎◌, eqb}
use Rattle.std.proofs.Common.{◌∙◌, ap, ap₂, inl, inr, arith, eq-eqb, eqb-true}
use Rattle.std.proofs.Math.Path.{sym}
use Rattle.std.proofs.Math.Option.{Option, none, some}
use Rattle.std.proofs.Math.Logic.{⊎_elim}
use Rattle.std.proofs.lemmas.Bool.{eqb-false}
use Rattle.basics.specs.Laws.Counts.{Place, any_at, any_of}
use Rattle.basics.specs.Laws.Tests.{and_left, and_right, and_true, cases, not-true, or_cases, or_left, or_right, same_test, true_is_not_false}
use Rattle.basics.specs.Options.{is_some}
use Rattle.places.specs.declared.Console.{Console}
use Rattle.switches.specs.Flips.{first_k}
use Rattle.switches.specs.Laws.Flips.{first_small}
use Rattle.lines.specs.Kinds.{kind_by, kind_of}
use Rattle.lines.specs.Laws.Lines.{Found, found, holding}
use Rattle.lines.specs.Lines.{first, last, layer, line_at}
use Rattle.lines.specs.Typed.{All}
use Rattle.lines.specs.declared.Entry.{Entry}
use Rattle.lines.specs.declared.Entry.TheVariants.{Ram}
use Rattle.lines.specs.declared.Line.{Line}
use Rattle.rules.specs.Chapters.{line_in, uses}
use Rattle.rules.specs.Laws.Rules.{Is, is_some_lem}
use Rattle.plan.specs.Fewest.{starts}
use Rattle.plan.specs.Laws.Runs.{Starts, starts_is, starts_of}
use Rattle.plan.specs.OfLines.{plan_of}
use Rattle.plan.specs.Plan.{Plan, has_page, kinds}
use Rattle.plan.specs.Valid.{Valid, allowed, is_ram_kind, quiet}
use Rattle.behind.proofs.Theorems.Fewer.{kind_at_lem, page_at_lem}
use Rattle.behind.specs.Laws.Star.{Same}
use Rattle.canon.specs.Canonical.{ram_width, run_at, starts_ram, starts_rom}
use Rattle.canon.specs.Laws.Lines.{all_append, all_listed, canonical_lines, listed_some, page_line, ram_line, rom_line, some_append}
use Rattle.canon.specs.Laws.Runs.{Run, reach_far, reach_most, reach_same, run_of}
use Rattle.basics.specs.Listed.{listed}

-- a line of a run; a line of a page
pub record OfRun (q : Plan) (e : Entry) : Type 0 where
  pub at : ℕ
  pub size : ℕ
  pub on : layer e ≡ 0
  pub from : first e ≡ 256 * at
  pub to : suc (last e) ≡ 256 * (at + size)
  pub some : 1 ≤ size
  pub below : at + size ≤ 256
  pub start : Starts (kinds q) at
  pub same : (p : ℕ) → at ≤ p → p < at + size → kinds q p ≡ kind_by e

pub record OfPage (q : Plan) (e : Entry) : Type 0 where
  pub chapter : ℕ
  pub number : ℕ
  pub on : layer e ≡ suc number
  pub digit : number < 16
  pub below : chapter < 16
  pub from : first e ≡ 4096 * chapter + 256 * first_k chapter
  pub to : last e ≡ 4096 * chapter + 4095
  pub there : (q chapter).page number ≡ true

abbrev pub Of : Plan → Entry → Type 0
Of q e = (OfRun q e) ⊎ (OfPage q e)

-- a kind that is allowed: none, ROM, RAM 16 or RAM 8; it is at no silent paragraph
ram_kinds : (n : ℕ) → is_ram_kind n ≡ true → (n ≡ 3) ⊎ (n ≡ 7)
ram_kinds n e = ⊎_elim (λ u. inl (eqb-true n 3 u)) (λ u. inr (eqb-true n 7 u)) (or_cases (eqb n 3) (eqb n 7) e)

pub ram_above : (n : ℕ) → is_ram_kind n ≡ true → 3 ≤ n
ram_above n e = ⊎_elim (λ u. omega arith) (λ u. omega arith) (ram_kinds n e)

pub kind_some : (p n : ℕ) → allowed p n ≡ true → (n ≡ 0 → ⊥) → (n ≡ 1) ⊎ (is_ram_kind n ≡ true)
unfolding allowed
kind_some p n a h =
    ⊎_elim (λ z. absurd (h (eqb-true n 0 z)))
    (λ z. ⊎_elim (λ w. inl (eqb-true n 1 w)) (λ w. inr w) (or_cases (eqb n 1) _ (and_right (not (quiet p)) _ z)))
    (or_cases (eqb n 0) _ a)

pub kind_loud : (p n : ℕ) → allowed p n ≡ true → (n ≡ 0 → ⊥) → quiet p ≡ false
unfolding allowed
kind_loud p n a h =
    ⊎_elim (λ z. absurd (h (eqb-true n 0 z))) (λ z. not-true (quiet p) (and_left _ _ z)) (or_cases (eqb n 0) _ a)

width_is : (lo hi : Console) (n : ℕ) → (n ≡ 3) ⊎ (n ≡ 7) → kind_by (Ram lo hi (ram_width n)) ≡ n
width_is lo hi n (inl e) = rw e
width_is lo hi n (inr e) = rw e

module _ (q : Plan) (v : Valid q) where
  pub kind_allowed : (p : ℕ) → p < 256 → allowed p (kinds q p) ≡ true
  kind_allowed p h =
      let e : 16 * (p / 16) + p % 16 ≡ p = omega arith in
      ap (λ (n : ℕ). allowed n (kinds q p)) (sym e) ∙ (v (p / 16) (omega arith)).kinds (p % 16) (omega arith)

  run_some : (p : ℕ) → p < 256 → 1 ≤ run_at q p
  run_some p h = reach_far (kinds q) p (256 - p) 1 (omega arith) (λ i l. ap (kinds q) (omega arith))

  run_in : (p j : ℕ) → p ≤ j → j < p + run_at q p → kinds q j ≡ kinds q p
  run_in p j a b =
      let e : p + (j - p) ≡ j = omega arith in
      ap (kinds q) (sym e) ∙ reach_same (kinds q) p (256 - p) (j - p) (omega arith)

  pub rom_of_lem : (p : ℕ) → p < 256 → starts_rom q p ≡ true → OfRun q (rom_line q p).entry
  rom_of_lem p h e =
      let s : 1 ≤ run_at q p = run_some p h in
      let m : run_at q p ≤ 256 - p = reach_most (kinds q) p (256 - p) in
      let k : kinds q p ≡ 1 = eqb-true (kinds q p) 1 (and_right (starts (kinds q) p) _ e) in
      record {
        at = p;
        size = run_at q p;
        on = refl;
        from = refl;
        to = omega arith;
        some = s;
        below = omega arith;
        start = starts_is (kinds q) p (and_left (starts (kinds q) p) _ e);
        same = λ j a b. run_in p j a b ∙ k;
      }

  pub ram_of_lem : (p : ℕ) → p < 256 → starts_ram q p ≡ true → OfRun q (ram_line q p).entry
  ram_of_lem p h e =
      let s : 1 ≤ run_at q p = run_some p h in
      let m : run_at q p ≤ 256 - p = reach_most (kinds q) p (256 - p) in
      let k : is_ram_kind (kinds q p) ≡ true = and_right (starts (kinds q) p) _ e in
      record {
        at = p;
        size = run_at q p;
        on = refl;
        from = refl;
        to = omega arith;
        some = s;
        below = omega arith;
        start = starts_is (kinds q) p (and_left (starts (kinds q) p) _ e);
        same = λ j a b. run_in p j a b ∙ sym (width_is (record { 0 = 256 * p }) (record { 0 = 256 * p + (256 * run_at q p - 1) }) (kinds q p) (ram_kinds (kinds q p) k));
      }

  pub page_of : (n : ℕ) → n < 256 → has_page q n ≡ true → OfPage q (page_line q n).entry
  page_of n h e =
      let f : first_k (n / 16) ≤ 8 = first_small (n / 16) in
      record {
        chapter = n / 16;
        number = n % 16;
        on = refl;
        digit = omega arith;
        below = omega arith;
        from = refl;
        to = omega arith;
        there = e;
      }

  pub each_of : All (Of q) (canonical_lines q)
  each_of =
      all_append (all_listed 256 (starts_rom q) (rom_line q) (λ j b e. inl (rom_of_lem j (omega arith) e)))
      (all_append (all_listed 256 (has_page q) (page_line q) (λ j b e. inr (page_of j (omega arith) e)))
      (all_listed 256 (starts_ram q) (ram_line q) (λ j b e. inl (ram_of_lem j (omega arith) e))))

  -- every plain paragraph and every page has a line
  covers : (p s : ℕ) → p < 256 → s ≤ p → ((j : ℕ) → s ≤ j → j ≤ p → kinds q j ≡ kinds q s) → p < s + run_at q s
  covers p s h a same =
      let r : p - s + 1 ≤ run_at q s = reach_far (kinds q) s (256 - s) (p - s + 1) (omega arith) (λ i l. same (s + i) (omega arith) (omega arith)) in
      omega arith

  kind_there : (p : ℕ) → p < 256 → (kinds q p ≡ 0 → ⊥) → is_some (line_in (canonical_lines q) 0 p) ≡ true
  kind_there p h k =
      let r : Run (kinds q) p = run_of (kinds q) p k in
      let w : p < r.at + run_at q r.at = covers p r.at h r.below r.same in
      let b : r.at < 256 = omega (arith, r.below) in
      let o : starts (kinds q) r.at ≡ true = starts_of (kinds q) r.at r.start in
      some_append (listed 256 (starts_rom q) (rom_line q)) _ 0 (256 * p)
      ∙ ⊎_elim
      (λ e.
      or_left _ _
      (listed_some 256 (starts_rom q) (rom_line q) 0 (256 * p) r.at (omega arith) (and_true _ _ o (eq-eqb (kinds q r.at) 1 e)) refl
      (holding (rom_line q r.at).entry (256 * p) (record { from = omega (arith, r.below); to = omega arith }))))
      (λ e.
      or_right (is_some (line_at (listed 256 (starts_rom q) (rom_line q)) 0 (256 * p))) _
      (some_append (listed 256 (has_page q) (page_line q)) _ 0 (256 * p)
      ∙ or_right (is_some (line_at (listed 256 (has_page q) (page_line q)) 0 (256 * p))) _
      (listed_some 256 (starts_ram q) (ram_line q) 0 (256 * p) r.at (omega arith) (and_true (starts (kinds q) r.at) _ o e) refl
      (holding (ram_line q r.at).entry (256 * p) (record { from = omega (arith, r.below); to = omega arith })))))
      (kind_some r.at (kinds q r.at) (kind_allowed r.at b) r.start.some)

  page_there : (x y : ℕ) → x < 16 → y < 16 → (q x).page y ≡ true → is_some (line_in (canonical_lines q) (suc y) (16 * x + 15)) ≡ true
  page_there x y h l e =
      let a : (16 * x + y) / 16 ≡ x = omega arith in
      let b : (16 * x + y) % 16 ≡ y = omega arith in
      let f : first_k ((16 * x + y) / 16) ≤ 8 = first_small ((16 * x + y) / 16) in
      some_append (listed 256 (starts_rom q) (rom_line q)) _ (suc y) (256 * (16 * x + 15))
      ∙ or_right (is_some (line_at (listed 256 (starts_rom q) (rom_line q)) (suc y) (256 * (16 * x + 15)))) _
      (some_append (listed 256 (has_page q) (page_line q)) _ (suc y) (256 * (16 * x + 15))
      ∙ or_left _ _
      (listed_some 256 (has_page q) (page_line q) (suc y) (256 * (16 * x + 15)) (16 * x + y) (omega arith) (page_at_lem q (16 * x + y) x y a b ∙ e) (ap suc b)
      (holding (page_line q (16 * x + y)).entry (256 * (16 * x + 15)) (record { from = omega arith; to = omega arith }))))

  -- so the lines are of this plan
  line_kind : (p : ℕ) → p < 256 → kind_of (line_in (canonical_lines q) 0 p) ≡ kinds q p
  line_kind p h = by (line_in (canonical_lines q) 0 p) refl
    where
      by : (o : Option Line) → line_in (canonical_lines q) 0 p ≡ o → kind_of o ≡ kinds q p
      by none e =
          cases (eqb (kinds q p) 0) (λ z. sym (eqb-true (kinds q p) 0 z))
          (λ z. true_is_not_false (kind_there p h (eqb-false (kinds q p) 0 z)) (ap is_some e))
      by (some l) e =
          let f : Found (Of q) 0 (256 * p) l = found each_of 0 (256 * p) l e in
          ⊎_elim (λ r. sym (r.same p (omega (arith, r.from, f.here.from)) (omega (arith, r.to, f.here.to))))
          (λ r. absurd (omega (arith, r.on, f.on)))
          f.is

  line_page : (x y : ℕ) → x < 16 → y < 16 → uses (canonical_lines q) x (suc y) ≡ (q x).page y
  unfolding uses
  line_page x y h l =
      same_test (uses (canonical_lines q) x (suc y)) ((q x).page y)
      (λ e.
      let w : Place 16 (λ k. is_some (line_in (canonical_lines q) (suc y) (16 * x + k))) = any_at 16 _ e in
      let i : Is (line_in (canonical_lines q) (suc y) (16 * x + w.at)) = is_some_lem _ w.passes in
      let f : Found (Of q) (suc y) (256 * (16 * x + w.at)) i.value = found each_of (suc y) (256 * (16 * x + w.at)) i.value i.found in
      ⊎_elim (λ r. absurd (omega (arith, r.on, f.on)))
      (λ r.
      let c : r.chapter ≡ x = omega (arith, r.from, r.to, f.here.from, f.here.to, w.below) in
      let n : r.number ≡ y = omega (arith, r.on, f.on) in
      sym (ap₂ (λ (a b : ℕ). (q a).page b) c n) ∙ r.there)
      f.is)
      (λ e. any_of 16 (λ k. is_some (line_in (canonical_lines q) (suc y) (16 * x + k))) 15 (omega arith) (page_there x y h l e))

  pub plan_of_lines : (x : ℕ) → x < 16 → Same (plan_of (canonical_lines q) x) (q x)
  plan_of_lines x h =
      record {
        kinds = λ k l. line_kind (16 * x + k) (omega arith) ∙ kind_at_lem q (16 * x + k) x k (omega arith) (omega arith);
        pages = λ y l. line_page x y h l;
      }
