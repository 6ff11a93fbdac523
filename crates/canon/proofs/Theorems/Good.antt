-- The canonical lines of a valid plan are as many as the plan takes, and good where they are few enough (W-213, Lemma 1 (b)).
use Prim.Native.Nat.{◌%◌, ◌*◌, ◌+◌, ◌-◌, ◌/◌, ◌<◌, ◌≤◌, suc, zero, ℕ}
use Rattle.std.proofs.Common.{◌∙◌, append-nil}
use Rattle.std.specs.Prelude.{◌≡◌, List, ◌++◌, Bool, ◌&&◌, ◌||◌, false, not, ◌⊎◌, leb, ltb, length}
use Rattle.std.proofs.Math.Path.{ap, refl, sym}
use Rattle.std.proofs.Math.Bool.{cond, true}
use Rattle.std.proofs.Math.Logic.{inl, inr, ⊎_elim}
use native.Mathlib.Omega.{arith}
use Rattle.std.proofs.Math.Dec.{eqb}
use Rattle.std.proofs.Math.ListN.{length-append}
use borrow.Author.Tests.{eq-eqb, eqb-false, eqb-true, leb-false, leb-true, ltb-false, ne_eqb}
use Rattle.basics.specs.Counts.{count}
use Rattle.basics.specs.Laws.Tests.{and_left, and_right, cases, compare, or_cases, or_false_left, or_false_right}
use Rattle.places.specs.Limits.{line_limit}
use Rattle.switches.specs.Flips.{first_k}
use Rattle.switches.specs.Laws.Flips.{first_small}
use Rattle.cart.specs.Reads.{silent}
use Rattle.lines.specs.Kinds.{kind_by}
use Rattle.lines.specs.Lines.{first, last, layer}
use Rattle.lines.specs.Typed.{All, cons, nil}
use Rattle.lines.specs.declared.Entry.{Entry}
use Rattle.lines.specs.declared.Line.{Line}
use Rattle.rules.specs.Chapters.{bare, paged, under}
use Rattle.rules.specs.Code.Shapes.{Fine, PageShape, PlainShape}
use Rattle.rules.specs.Laws.Rules.{Good, Separate, done, next}
use Rattle.rules.specs.Rules.{breaks_plain, meets, shares}
use Rattle.plan.specs.Fewest.{fewest, starts}
use Rattle.plan.specs.Laws.Runs.{starts_is}
use Rattle.plan.proofs.Theorems.Tables.{pages_are, range_is_lem}
use Rattle.plan.specs.OfLines.{plan_of}
use Rattle.plan.specs.Plan.{Plan, has_page, has_pages, is_bare, kinds, range_is}
use Rattle.plan.specs.Valid.{Valid, is_ram_kind, may_flip, quiet}
use Rattle.behind.proofs.Theorems.Alike.{paged_same, range_same}
use Rattle.behind.proofs.Theorems.Chapter.{has_pages_lem}
use Rattle.behind.specs.Laws.Star.{Same}
use Rattle.canon.specs.Canonical.{is_rom, starts_ram, starts_rom}
use Rattle.canon.specs.Laws.Lines.{all_append, all_listed, canonical_lines, page_line, ram_line, rom_line}
use Rattle.basics.specs.Laws.Listed.{length_listed}
use Rattle.canon.proofs.Theorems.OfPlan.{Of, OfPage, OfRun, each_of, kind_allowed, kind_loud, kind_some, page_of, plan_of_lines, ram_above, ram_of_lem, rom_of_lem}
use Rattle.basics.specs.Listed.{listed}

-- shapes
pub record Loud (p : ℕ) : Type 0 where
  pub above : 5 ≤ p
  pub not_one : p / 16 ≡ 1 → ⊥
  pub not_three : p / 16 ≡ 3 → ⊥

loud : (p : ℕ) → quiet p ≡ false → Loud p
unfolding quiet silent
loud p e =
    let c : 256 * p / 4096 ≡ p / 16 = omega arith in
    let f : ltb (256 * p) 0x500 || eqb (256 * p / 0x1000) 1 ≡ false = or_false_left _ _ e in
    record {
      above = omega (arith, ltb-false (256 * p) 0x500 (or_false_left _ _ f));
      not_one = λ z. eqb-false (256 * p / 0x1000) 1 (or_false_right (ltb (256 * p) 0x500) _ f) (c ∙ z);
      not_three = λ z. eqb-false (256 * p / 0x1000) 3 (or_false_right (ltb (256 * p) 0x500 || eqb (256 * p / 0x1000) 1) _ e) (c ∙ z);
    }

gap : (a n c : ℕ) → ((p : ℕ) → a ≤ p → p < a + n → p / 16 ≡ c → ⊥) → 1 ≤ n → (a + n ≤ 16 * c) ⊎ (16 * c + 16 ≤ a)
gap a n c h s =
    cases (leb (a + n) (16 * c)) (λ e. inl (leb-true (a + n) (16 * c) e))
    (λ e.
    cases (leb (16 * c + 16) a) (λ f. inr (leb-true (16 * c + 16) a f))
    (λ f.
    let l : 16 * c < a + n = leb-false (a + n) (16 * c) e in
    let m : a < 16 * c + 16 = leb-false (16 * c + 16) a f in
    cases (leb (16 * c) a) (λ g. absurd (h a (omega arith) (omega arith) (omega (arith, leb-true (16 * c) a g))))
    (λ g. absurd (h (16 * c) (omega (arith, leb-false (16 * c) a g)) l (omega arith)))))

module _ (q : Plan) (v : Valid q) where
  module _ (e : Entry) (r : OfRun q e) where
    run_kind : (p : ℕ) → r.at ≤ p → p < r.at + r.size → kinds q p ≡ 0 → ⊥
    run_kind p a b z =
        let s : kinds q r.at ≡ kind_by e = r.same r.at (omega arith) (omega (arith, r.some)) in
        r.start.some (s ∙ sym (r.same p a b) ∙ z)

    run_loud : (p : ℕ) → r.at ≤ p → p < r.at + r.size → Loud p
    run_loud p a b = loud p (kind_loud p (kinds q p) (kind_allowed q v p (omega (arith, r.below))) (run_kind p a b))

    run_shape : PlainShape (first e) (last e)
    run_shape =
        record {
          start = omega (arith, r.from);
          end = omega (arith, r.to);
          above = omega (arith, r.from, (run_loud r.at (omega arith) (omega (arith, r.some))).above);
          one =
              ⊎_elim (λ z. inl (omega (arith, r.to))) (λ z. inr (omega (arith, r.from)))
              (gap r.at r.size 1 (λ p a b. (run_loud p a b).not_one) r.some);
          three =
              ⊎_elim (λ z. inl (omega (arith, r.to))) (λ z. inr (omega (arith, r.from)))
              (gap r.at r.size 3 (λ p a b. (run_loud p a b).not_three) r.some);
        }

    run_fine : Fine e
    run_fine =
        record {
          ordered = omega (arith, r.from, r.to, r.some);
          ends = omega (arith, r.to, r.below);
          shape = inl (record { on = r.on; shape = run_shape });
        }

  flips_above : (x : ℕ) → may_flip x ≡ true → (x ≡ 2) ⊎ (4 ≤ x)
  unfolding may_flip
  flips_above x e = ⊎_elim (λ z. inl (eqb-true x 2 z)) (λ z. inr (leb-true 4 x z)) (or_cases (eqb x 2) (leb 4 x) e)

  module _ (e : Entry) (r : OfPage q e) where
    chapter_is : first e / 4096 ≡ r.chapter
    chapter_is = omega (arith, r.from, first_small r.chapter)

    flips : (r.chapter ≡ 2) ⊎ (4 ≤ r.chapter)
    flips = flips_above r.chapter ((v r.chapter r.below).pages (has_pages_lem (q r.chapter) r.number r.digit r.there))

    page_shape_lem : PageShape (first e) (last e)
    page_shape_lem =
        let k : first_k (first e / 4096) ≡ first_k r.chapter = ap first_k chapter_is in
        record {
          start = omega (arith, r.from, chapter_is);
          end = omega (arith, r.to, chapter_is);
          above = ⊎_elim (λ z. omega (arith, chapter_is)) (λ z. omega (arith, chapter_is)) flips;
          not_three = λ w. ⊎_elim (λ z. omega (arith, chapter_is)) (λ z. omega (arith, chapter_is)) flips;
        }

    page_fine : Fine e
    page_fine =
        record {
          ordered = omega (arith, r.from, r.to, first_small r.chapter);
          ends = omega (arith, r.to, r.below);
          shape = inr (record { page = r.number; on = r.on; digit = r.digit; shape = page_shape_lem });
        }

  fine_lines : {ls : List Line} → All (Of q) ls → All Fine ls
  fine_lines nil = nil
  fine_lines (cons {l = l} o os) = cons (⊎_elim (run_fine l.entry) (page_fine l.entry) o) (fine_lines os)

  -- entries that share have one layer and one first address, and, plain, one kind
  record One (e f : Entry) : Type 0 where
    layers : layer e ≡ layer f
    firsts : first e ≡ first f
    kinds : layer e ≡ 0 → kind_by e ≡ kind_by f

  runs_one : (e f : Entry) → OfRun q e → OfRun q f → first e ≤ last f → first f ≤ last e → One e f
  runs_one e f r s a b =
      let m : r.at < s.at + s.size = omega (arith, r.from, s.to) in
      let n : s.at < r.at + r.size = omega (arith, s.from, r.to) in
      let z : r.at ≡ s.at =
      ⊎_elim (λ z. z)
      (λ d.
      ⊎_elim
      (λ l.
      absurd (s.start.edge (λ w. omega arith) (r.same (s.at - 1) (omega arith) (omega arith) ∙ sym (r.same s.at (omega arith) n))))
      (λ l.
      absurd (r.start.edge (λ w. omega arith) (s.same (r.at - 1) (omega arith) (omega arith) ∙ sym (s.same r.at (omega arith) m))))
      d)
      (compare r.at s.at) in
      record {
        layers = r.on ∙ sym s.on;
        firsts = omega (arith, r.from, s.from);
        kinds = λ o. sym (r.same r.at (omega arith) (omega (arith, r.some))) ∙ s.same r.at (omega arith) m;
      }

  shared_one : (e f : Entry) → Of q e → Of q f → shares e f ≡ true → One e f
  unfolding shares
  shared_one e f oe of h =
      let p : layer e ≡ layer f = eqb-true (layer e) (layer f) (and_left _ _ h) in
      let r : cond (eqb (layer e) 0) (meets (first e) (last e) (first f) (last f)) (eqb (first e / 4096) (first f / 4096)) ≡ true =
      and_right (eqb (layer e) (layer f)) _ h in
      by oe of p r
    where
      by : Of q e → Of q f → layer e ≡ layer f → cond (eqb (layer e) 0) (meets (first e) (last e) (first f) (last f)) (eqb (first e / 4096) (first f / 4096)) ≡ true → One e f
      by (inl a) (inl b) p r =
          let m : meets (first e) (last e) (first f) (last f) ≡ true = rw (eq-eqb (layer e) 0 a.on) at r in
          runs_one e f a b (leb-true (first e) (last f) (and_left _ _ m)) (leb-true (first f) (last e) (and_right (leb (first e) (last f)) _ m))
      by (inl a) (inr b) p r = absurd (omega (arith, a.on, b.on))
      by (inr a) (inl b) p r = absurd (omega (arith, a.on, b.on))
      by (inr a) (inr b) p r =
          let m : eqb (first e / 4096) (first f / 4096) ≡ true = rw (ne_eqb (layer e) 0 (λ z. omega (arith, a.on))) at r in
          let c : a.chapter ≡ b.chapter = sym (chapter_is e a) ∙ eqb-true (first e / 4096) (first f / 4096) m ∙ chapter_is f b in
          record {
            layers = p;
            firsts = a.from ∙ ap (λ (x : ℕ). 4096 * x + 256 * first_k x) c ∙ sym b.from;
            kinds = λ z. absurd (omega (arith, a.on));
          }

  apart_by : (e f : Entry) → Of q e → Of q f → (One e f → ⊥) → shares e f ≡ false
  apart_by e f oe of h = cases (shares e f) (λ s. absurd (h (shared_one e f oe of s))) (λ s. s)

  -- lists of lines, each apart from those behind it
  abbrev Clear : List Line → List Line → Type 0
  Clear ls ms = All (λ e. All (λ f. shares e f ≡ false) ms) ls

  separate_append : {ls ms : List Line} → Separate ls → Separate ms → Clear ls ms → Separate (ls ++ ms)
  separate_append done p nil = p
  separate_append (next a ps) p (cons c cs) = next (all_append a c) (separate_append ps p cs)

  separate_listed : (n : ℕ) (on : ℕ → Bool) (f : ℕ → Line)
      → ((j k : ℕ) → j < k → k < n → on j ≡ true → on k ≡ true → shares (f j).entry (f k).entry ≡ false) → Separate (listed n on f)
  unfolding listed
  separate_listed zero on f h = done
  separate_listed (suc n) on f h =
      let r : Separate (listed n on f) = separate_listed n on f (λ j k b c. h j k b (omega arith)) in
      cases (on n)
      (λ e.
      rw e (separate_append r (next nil done) (all_listed n on f (λ j l d. cons (h j n l (omega arith) d e) nil))))
      (λ e. rw (e, append-nil) r)

  rom_one : (j k : ℕ) → j < k → One (rom_line q j).entry (rom_line q k).entry → ⊥
  rom_one j k h o = omega (arith, o.firsts)

  ram_one : (j k : ℕ) → j < k → One (ram_line q j).entry (ram_line q k).entry → ⊥
  ram_one j k h o = omega (arith, o.firsts)

  page_one : (j k : ℕ) → j < k → One (page_line q j).entry (page_line q k).entry → ⊥
  page_one j k h o =
      let m : suc (j % 16) ≡ suc (k % 16) = o.layers in
      let n : 4096 * (j / 16) + 256 * first_k (j / 16) ≡ 4096 * (k / 16) + 256 * first_k (k / 16) = o.firsts in
      let a : first_k (j / 16) ≤ 8 = first_small (j / 16) in
      let b : first_k (k / 16) ≤ 8 = first_small (k / 16) in
      let c : j / 16 ≡ k / 16 = omega arith in
      omega arith

  rom_page : (j k : ℕ) → One (rom_line q j).entry (page_line q k).entry → ⊥
  rom_page j k o = let z : ◌≡◌ {A = ℕ} 0 (suc (k % 16)) = o.layers in omega arith

  page_ram : (j k : ℕ) → One (page_line q j).entry (ram_line q k).entry → ⊥
  page_ram j k o = let z : ◌≡◌ {A = ℕ} (suc (j % 16)) 0 = o.layers in omega arith

  rom_ram : (j k : ℕ) → k < 256 → starts_ram q k ≡ true → One (rom_line q j).entry (ram_line q k).entry → ⊥
  rom_ram j k h e o =
      let r : OfRun q (ram_line q k).entry = ram_of_lem q v k h e in
      let s : kinds q k ≡ kind_by (ram_line q k).entry = r.same k (omega arith) (omega (arith, r.some)) in
      let l : 3 ≤ kinds q k = ram_above (kinds q k) (and_right (starts (kinds q) k) _ e) in
      let z : 1 ≡ kind_by (ram_line q k).entry = o.kinds refl in
      omega arith

  separate_lines : Separate (canonical_lines q)
  separate_lines =
      separate_append
      (separate_listed 256 (starts_rom q) (rom_line q)
      (λ j k b c e f. apart_by _ _ (inl (rom_of_lem q v j (omega arith) e)) (inl (rom_of_lem q v k (omega arith) f)) (rom_one j k b)))
      (separate_append
      (separate_listed 256 (has_page q) (page_line q)
      (λ j k b c e f. apart_by _ _ (inr (page_of q v j (omega arith) e)) (inr (page_of q v k (omega arith) f)) (page_one j k b)))
      (separate_listed 256 (starts_ram q) (ram_line q)
      (λ j k b c e f. apart_by _ _ (inl (ram_of_lem q v j (omega arith) e)) (inl (ram_of_lem q v k (omega arith) f)) (ram_one j k b)))
      (all_listed 256 (has_page q) (page_line q)
      (λ j h e.
      all_listed 256 (starts_ram q) (ram_line q)
      (λ k b f. apart_by _ _ (inr (page_of q v j h e)) (inl (ram_of_lem q v k b f)) (page_ram j k)))))
      (all_listed 256 (starts_rom q) (rom_line q)
      (λ j h e.
      all_append
      (all_listed 256 (has_page q) (page_line q)
      (λ k b f. apart_by _ _ (inl (rom_of_lem q v j h e)) (inr (page_of q v k b f)) (rom_page j k)))
      (all_listed 256 (starts_ram q) (ram_line q)
      (λ k b f. apart_by _ _ (inl (rom_of_lem q v j h e)) (inl (ram_of_lem q v k b f)) (rom_ram j k b f)))))

  -- 28
  module _ (x : ℕ) (h : x < 16) where
    same : Same (plan_of (canonical_lines q) x) (q x)
    same = plan_of_lines q v x h

    bare_is : is_bare x (plan_of (canonical_lines q) x) ≡ bare (canonical_lines q) x
    unfolding range_is bare
    bare_is = refl

    range_kept : paged (canonical_lines q) x ≡ true → under (canonical_lines q) x || bare (canonical_lines q) x ≡ true
    range_kept e =
        let p : has_pages (q x) ≡ true = sym (paged_same same) ∙ pages_are (canonical_lines q) x ∙ e in
        rw (← range_is_lem (canonical_lines q) x, ← bare_is, range_same same x 1, range_same same x 0) ((v x h).range p)

    breaks_none : breaks_plain (canonical_lines q) x ≡ false
    unfolding breaks_plain
    breaks_none = cases (paged (canonical_lines q) x) (λ e. rw (e, range_kept e)) (λ e. rw e)

  -- as many lines as the plan has
  split : (s r w : Bool) (m n k : ℕ) → (s ≡ true → w ≡ not r) → m ≡ n + k → cond s (suc m) m ≡ cond (s && r) (suc n) n + cond (s && w) (suc k) k
  split true true w m n k h e = rw (h refl) (omega arith)
  split true false w m n k h e = rw (h refl) (omega arith)
  split false r w m n k h e = e

  count_split : (f g w : ℕ → Bool) (n : ℕ) → ((i : ℕ) → i < n → f i ≡ true → w i ≡ not (g i)) → count f n ≡ count (λ i. f i && g i) n + count (λ i. f i && w i) n
  unfolding count
  count_split f g w zero h = refl
  count_split f g w (suc n) h =
      split (f n) (g n) (w n) (count f n) (count (λ i. f i && g i) n) (count (λ i. f i && w i) n) (h n (omega arith)) (count_split f g w n (λ i l. h i (omega arith)))

  rom_or_ram : (p : ℕ) → p < 256 → starts (kinds q) p ≡ true → is_ram_kind (kinds q p) ≡ not (is_rom q p)
  rom_or_ram p h e =
      ⊎_elim (λ z. rw z)
      (λ z. rw (z, ne_eqb (kinds q p) 1 (λ w. omega (arith, ram_above (kinds q p) z))))
      (kind_some p (kinds q p) (kind_allowed q v p h) (starts_is (kinds q) p e).some)

  pub length_lines : length (canonical_lines q) ≡ fewest q
  unfolding fewest
  length_lines =
      omega (
        arith,
        length-append (listed 256 (starts_rom q) (rom_line q)) (listed 256 (has_page q) (page_line q) ++ listed 256 (starts_ram q) (ram_line q)),
        length-append (listed 256 (has_page q) (page_line q)) (listed 256 (starts_ram q) (ram_line q)),
        length_listed 256 (starts_rom q) (rom_line q),
        length_listed 256 (has_page q) (page_line q),
        length_listed 256 (starts_ram q) (ram_line q),
        count_split (starts (kinds q)) (is_rom q) (λ p. is_ram_kind (kinds q p)) 256 rom_or_ram,
      )

  pub good_lines : fewest q ≤ line_limit → Good (canonical_lines q)
  good_lines h =
      record {
        few = omega (arith, length_lines);
        fine = fine_lines (each_of q v);
        separate = separate_lines;
        plain = λ x l. breaks_none x l;
      }
