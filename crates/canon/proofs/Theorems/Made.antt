-- Some BIN and lines build an image exactly when the plan behind it does: sources are plans, the plan behind builds what any of them builds, and
-- the canonical lines and BIN of a plan build what it builds (W-213, Theorem).
use Prim.Native.Nat.{◌%◌, ◌*◌, ◌+◌, ◌/◌, ◌<◌, ◌≤◌, suc, zero, ℕ}
use Rattle.std.proofs.Common.{◌∙◌}
use Rattle.std.specs.Prelude.{◌≡◌, refl, List, [], ◌∷◌, Bool, ◌&&◌, ◌↔◌, ltb, length}
use Rattle.std.proofs.Math.Path.{ap, ap₂, sym}
use Rattle.std.proofs.Math.Bool.{true}
use Rattle.std.proofs.Math.Option.{Option, none, some}
use native.Mathlib.Omega.{arith}
use Rattle.std.proofs.Math.Dec.{eqb}
use borrow.Author.Tests.{eq-eqb, eqb-true, ltb-true}
use Rattle.basics.specs.Counts.{count}
use Rattle.basics.specs.Laws.Counts.{all_at, all_of, any_of}
use Rattle.basics.specs.Laws.Nth.{Nth, nth_is}
use Rattle.basics.specs.Laws.Tests.{and_right, and_true, cases, true_is_not_false}
use Rattle.basics.specs.Options.{is_some}
use Rattle.places.specs.Limits.{line_limit}
use Rattle.places.specs.Places.{console}
use Rattle.places.specs.declared.Console.{Console}
use Rattle.tables.specs.Tables.{Tables}
use Rattle.lines.specs.Bin.{bin_words}
use Rattle.lines.specs.Kinds.{kind_by, kind_of}
use Rattle.lines.specs.Laws.Lines.{Found, found}
use Rattle.lines.specs.Lines.{layer, line_at}
use Rattle.lines.specs.Typed.{All}
use Rattle.lines.specs.declared.Entry.{Entry}
use Rattle.lines.specs.declared.Entry.TheVariants.{Paged, Ram, Rom}
use Rattle.lines.specs.declared.Line.{Line}
use Rattle.rules.specs.Accepted.{Accepted}
use Rattle.rules.specs.Chapters.{line_in}
use Rattle.rules.specs.Code.Shapes.{Fine}
use Rattle.rules.specs.Laws.Refusals.{exactly as rules-exactly}
use Rattle.rules.specs.Laws.Rules.{Good, Is, good, is_some_lem, same_paragraph}
use Rattle.layout.specs.Drawing.{word_at}
use Rattle.layout.specs.Layout.{covered, layer_held, line_held, page_of, pages, paragraph_held, slot_of_page, used, written_by, written_of}
use Rattle.plan.specs.Fewest.{fewest, starts}
use Rattle.plan.specs.Image.{base, holds_ram, page_at, ram_covered_of}
use Rattle.plan.proofs.Theorems.Planned.{planned}
use Rattle.plan.proofs.Theorems.Tables.{page_page, plain_page}
use Rattle.plan.specs.OfLines.{plan_of}
use Rattle.plan.specs.Plan.{Plan, kinds}
use Rattle.plan.specs.Planned.{Planned}
use Rattle.plan.specs.Valid.{Valid, is_ram_kind}
use Rattle.behind.specs.Behind.{behind}
use Rattle.behind.specs.Builds.{Builds}
use Rattle.behind.proofs.Theorems.Alike.{Alike, base_alike, covered_alike, page_same, same_alike, tables_alike}
use Rattle.behind.proofs.Theorems.Behind.{behind_valid}
use Rattle.behind.proofs.Theorems.Exactly.{exactly}
use Rattle.behind.proofs.Theorems.Fewer.{kind_at_lem}
use Rattle.canon.specs.Bin.{canonical_bin}
use Rattle.canon.specs.Canonical.{ram_entry, run_at, starts_ram}
use Rattle.canon.proofs.Theorems.Bin.{Wants, all_in, all_typed, all_wants, bin_words_lem, layer_page}
use Rattle.canon.proofs.Theorems.Good.{good_lines, length_lines}
use Rattle.canon.specs.Laws.Judged.{judged_silent}
use Rattle.canon.specs.Laws.Lines.{canonical_numbered, canonical_lines}
use Rattle.canon.proofs.Theorems.OfPlan.{OfRun, plan_of_lines, ram_of_lem}
use Rattle.canon.specs.Laws.Some.{plan_some}
use Rattle.canon.specs.Made.{Made, blank_in}

-- a word by its paragraph
word_in : (bin : List ℕ) (ls : List Line) (p i : ℕ) → i < 256 → word_at bin ls (256 * p + i) ≡ written_of bin (line_held ls p) (console (256 * paragraph_held ls p + i))
word_in bin ls p i h =
    ap₂ (λ (a b : ℕ). written_of bin (line_held ls a) (console (256 * paragraph_held ls a + b))) (omega arith) (omega arith)

-- RAM is written as zeros
ram_word_lem : (bin : List ℕ) (o : Option Line) (a : Console) → is_ram_kind (kind_of o) ≡ true → written_of bin o a ≡ 0
ram_word_lem bin none a h = refl
ram_word_lem bin (some l) a h = by l.entry h
  where
    by : (e : Entry) → is_ram_kind (kind_by e) ≡ true → written_by bin e a ≡ 0
    by (Rom lo hi at) q = true_is_not_false q refl
    by (Paged lo hi at y) q = true_is_not_false q refl
    by (Ram lo hi v) q = refl

pub ram_some : (o : Option Line) → is_ram_kind (kind_of o) ≡ true → is_some o ≡ true
ram_some none e = true_is_not_false e refl
ram_some (some l) e = refl

-- a paragraph that is covered, by the slot of its page
module _ (ls : List Line) (p : ℕ) (e : covered ls p ≡ true) where
  inside : ltb (p / 16) (pages ls) ≡ true
  unfolding line_held
  inside = cases (ltb (p / 16) (pages ls)) (λ l. l) (λ l. true_is_not_false e (rw l))

  slot_is : Nth (used ls) 272 (p / 16) (slot_of_page ls (p / 16))
  unfolding slot_of_page pages
  slot_is = nth_is (used ls) 272 (p / 16) (ltb-true (p / 16) _ inside)

  line_held_lem : line_held ls p ≡ line_in ls (layer_held ls p) (paragraph_held ls p)
  unfolding line_held
  line_held_lem = rw inside

some_line : (ls : List Line) → Good ls → 1 ≤ length ls → 1 ≤ fewest (plan_of ls)
some_line [] g h = absurd (omega arith)
some_line (l ∷ ls) g h = plan_some l ls g

-- the canonical lines of few enough are accepted with their BIN, whatever its words
pub canonical_accepted : (q : Plan) (w : ℕ → ℕ) → Valid q → fewest q ≤ line_limit → Accepted (canonical_bin q w) (canonical_lines q)
canonical_accepted q w v h =
    let g : Good (canonical_lines q) = good_lines q v h in
    record {
      few = g.few;
      typed = all_typed q w v;
      judged =
          (rules-exactly (bin_words (canonical_bin q w)) (canonical_lines q)).accepts.1
          (judged_silent (bin_words (canonical_bin q w)) (canonical_lines q) g (canonical_numbered q) (rw (bin_words_lem q w) (all_in q w v)));
    }

module _ (t : Tables) (named : ℕ → Bool) (w : ℕ → ℕ) where
  -- lines build what their plan builds
  pub lines_build : (bin : List ℕ) (ls : List Line) → Made t named w bin ls → Builds t named (blank_in w) (plan_of ls)
  lines_build bin ls m =
      let pl : Planned ls = planned m.accepted in
      record {
        tables = cc (pl.mapping, pl.permissions, pl.flips, m.tables);
        names = λ p. sym (pl.covered p) ∙ m.names p;
        zeros =
            λ p e.
            let r : is_ram_kind (kind_of (line_held ls p)) ≡ true = pl.ram p ∙ e in
            let n : named p ≡ true = sym (m.names p) ∙ ram_some (line_held ls p) r in
            all_of 256 (λ i. eqb (w (256 * p + i)) 0)
            (λ i h. eq-eqb (w (256 * p + i)) 0 (sym (m.words p i n h) ∙ word_in bin ls p i h ∙ ram_word_lem bin (line_held ls p) _ r));
        some = some_line ls (good m.accepted) m.some;
        few = omega (arith, pl.fewest, m.accepted.few);
      }

  -- and the canonical BIN and lines of a plan build what it builds
  module _ (q : Plan) (v : Valid q) (b : Builds t named (blank_in w) q) where
    abbrev ls : List Line
    ls = canonical_lines q

    abbrev bin : List ℕ
    bin = canonical_bin q w

    accepts : Accepted bin ls
    accepts = canonical_accepted q w v b.few

    pl : Planned ls
    pl = planned accepts

    fine : All Fine ls
    fine = (good accepts).fine

    alike : (x : ℕ) → x < 16 → Alike x (plan_of ls x) (q x)
    alike x h = same_alike (plan_of_lines q v x h) x

    names_back : (p : ℕ) → covered ls p ≡ named p
    names_back p = pl.covered p ∙ covered_alike (plan_of ls) q alike p ∙ b.names p

    ram_blank : (s : ℕ) → s < 256 → starts_ram q s ≡ true → (a : ℕ) → s ≤ a / 256 → a / 256 < s + run_at q s → w (4096 * base q (a / 4096) + a % 4096) ≡ 0
    unfolding holds_ram
    ram_blank s h e a l m =
        let r : OfRun q (ram_entry q s) = ram_of_lem q v s h e in
        let k : kinds q (a / 256) ≡ kinds q s =
        r.same (a / 256) (omega (arith, r.from)) (omega (arith, r.from, r.to)) ∙ sym (r.same s (omega (arith, r.from)) (omega (arith, r.from, r.to))) in
        let n : is_ram_kind (kinds q s) ≡ true = and_right (starts (kinds q) s) _ e in
        let x : a / 256 / 16 ≡ a / 4096 = omega arith in
        let p : ℕ = 16 * base q (a / 4096) + a / 256 % 16 in
        let c : p / 16 ≡ base q (a / 4096) = omega arith in
        let d : p % 16 ≡ a / 256 % 16 = omega arith in
        let f : (q (a / 4096)).kind (p % 16) ≡ kinds q (a / 256) = sym (kind_at_lem q (a / 256) (a / 4096) (p % 16) x (sym d)) in
        let o : ram_covered_of q p ≡ true =
        any_of 16 (λ i. eqb (p / 16) (base q i) && is_ram_kind ((q i).kind (p % 16))) (a / 4096) (omega (arith, r.below, r.from, r.to))
        (and_true (eqb (p / 16) (base q (a / 4096))) _ (eq-eqb (p / 16) _ c) (ap is_ram_kind (f ∙ k) ∙ n)) in
        let z : 256 * p + a % 256 ≡ 4096 * base q (a / 4096) + a % 4096 = omega arith in
        ap w (sym z) ∙ eqb-true (w (256 * p + a % 256)) 0 (all_at 256 (λ i. eqb (w (256 * p + i)) 0) (b.zeros p o) (a % 256) (omega arith))

    layer_page_lem : (x u : ℕ) → x < 16 → u < 17 → layer_page q x u ≡ page_of ls x u
    layer_page_lem x zero h l = sym (base_alike (plan_of ls) q alike x (omega arith)) ∙ plain_page ls x
    layer_page_lem x (suc y) h l =
        sym (page_same (plan_of_lines q v x h) (base q x) y (omega arith))
        ∙ ap (λ (n : ℕ). page_at (plan_of ls x) n y) (sym (base_alike (plan_of ls) q alike x (omega arith)))
        ∙ page_page ls x y (omega arith)

    canonical_word : (p i : ℕ) → covered ls p ≡ true → i < 256 → word_at bin ls (256 * p + i) ≡ w (256 * p + i)
    unfolding page_of
    canonical_word p i e h =
        let n : Nth (used ls) 272 (p / 16) (slot_of_page ls (p / 16)) = slot_is ls p e in
        let x : ℕ = slot_of_page ls (p / 16) / 17 in
        let u : ℕ = slot_of_page ls (p / 16) % 17 in
        let a : ℕ = 256 * (16 * x + p % 16) + i in
        let j : Is (line_held ls p) = is_some_lem (line_held ls p) e in
        let k : line_at ls u a ≡ some j.value = same_paragraph fine u a (256 * (16 * x + p % 16)) (omega arith) ∙ sym (line_held_lem ls p e) ∙ j.found in
        let f : Found (Wants q w) u a j.value = found (all_wants q w v ram_blank) u a j.value k in
        let c : 17 * x + u ≡ slot_of_page ls (p / 16) = omega arith in
        let d : layer_page q (a / 4096) (layer j.value.entry) ≡ p / 16 =
        ap₂ (λ (m o : ℕ). layer_page q m o) (omega arith) f.on ∙ layer_page_lem x u (omega (arith, n.below)) (omega arith) ∙ ap (count (used ls)) c ∙ n.before in
        word_in bin ls p i h ∙ ap (λ (o : Option Line). written_of bin o (console a)) j.found ∙ f.is a f.here ∙ ap w (omega arith)

    pub plan_made : Made t named w bin ls
    plan_made =
        record {
          accepted = accepts;
          some = omega (arith, length_lines q v, b.some);
          tables = cc (pl.mapping, pl.permissions, pl.flips, tables_alike (plan_of ls) q alike, b.tables);
          names = names_back;
          words = λ p i e h. canonical_word p i (names_back p ∙ e) h;
        }

  pub exactly_made : ((bin : List ℕ) × (lines : List Line) × Made t named w bin lines) ↔ Builds t named (blank_in w) (behind t named)
  exactly_made = (
    (λ m. (exactly (blank_in w) t named).0 (plan_of m.1, (planned m.2.accepted).valid, lines_build m.0 m.1 m.2)),
    (λ b. (canonical_bin (behind t named) w, canonical_lines (behind t named), plan_made (behind t named) (behind_valid t named) b)),
  )
