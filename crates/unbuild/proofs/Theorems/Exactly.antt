-- 31 is exact (02, W-213): an image that loads is unbuildable exactly when no BIN and CFG, size of the BIN apart, builds to its tables, named
-- words and JLP field; and where one does, the canonical BIN and CFG do.
use Prim.Native.Nat.{◌%◌, ◌*◌, ◌+◌, ◌/◌, ◌<◌, ◌≤◌, max, ℕ}
use Rattle.std.proofs.Common.{◌∙◌, ap, subst, sym, arith, ext_get_or}
use Rattle.std.specs.Prelude.{◌≡◌, refl, List, [], ◌++◌, ◌∷◌, Bool, ◌&&◌, ◌||◌, cond, not, ◌↔◌, ltb, get_or}
use Rattle.std.proofs.Math.Bool.{false, true}
use Rattle.std.proofs.Math.Dec.{eqb, leb}
use Rattle.std.proofs.Math.ListN.{length}
use borrow.Author.Tests.{eq-eqb, eqb-true, le-leb, le-ltb, leb-true, ltb-false, ltb-true, ne_eqb}
use Rattle.basics.specs.Counts.{all}
use Rattle.basics.specs.Laws.Counts.{all_at, all_of, all_same}
use Rattle.basics.specs.Laws.Refusals.{Refusing, accepted_exactly, refusing_append}
use Rattle.basics.specs.Laws.Rows.{silent_append, silent_first, silent_left, silent_right}
use Rattle.basics.specs.Laws.Tables.{length_table}
use Rattle.basics.specs.Laws.Tests.{and_left, and_right, and_true, cases, not-false, not-true, or_right, same_test, true_is_not_false}
use Rattle.basics.specs.Refusals.{first_refusal, no_refusal, refuse}
use Rattle.basics.specs.Rows.{Silent, none as silence, also as still}
use Rattle.basics.specs.Rows.{Row}
use Rattle.basics.specs.declared.Refusal.{Refusal}
use Rattle.places.specs.Limits.{lent_limit, line_limit, locutus_paragraphs, page_size}
use Rattle.tables.specs.Tables.{Tables, tables_in}
use Rattle.load.specs.Load.{flash_asked, loading_of}
use Rattle.lines.specs.Bin.{bin_words}
use Rattle.lines.specs.declared.Line.{Line}
use Rattle.cfg.specs.File.{refusal_rows as cfgRows, entries_of, reading_of}
use Rattle.cfg.proofs.Theorems.Entries.{Holds, accepted_holds, all_typed}
use Rattle.cfg.specs.Laws.Refusals.{each_refuses as cfg-refuses, exactly as cfg-exactly}
use Rattle.rules.specs.Accepted.{Accepted}
use Rattle.rules.specs.Laws.Refusals.{each_refuses as rules-refuse, exactly as rules-exactly}
use Rattle.rules.specs.Rules.{refusal_rows as ruleRows}
use Rattle.layout.specs.Drawing.{word_at}
use Rattle.layout.specs.Laws.Uses.{covered_inside}
use Rattle.layout.specs.Layout.{covered, line_held, needed}
use Rattle.plan.specs.Fewest.{fewest}
use Rattle.plan.specs.Image.{covered_of, flips_of, mapping_of, pages_of, permissions_of, ram_covered_of}
use Rattle.plan.proofs.Theorems.Planned.{planned}
use Rattle.plan.specs.OfLines.{plan_of}
use Rattle.plan.specs.Plan.{Plan}
use Rattle.plan.specs.Planned.{Planned}
use Rattle.plan.specs.Valid.{Valid}
use Rattle.behind.specs.Builds.{Builds, plan_tables}
use Rattle.behind.proofs.Theorems.Alike.{Alike, base_alike, covered_alike, ram_alike, same_alike}
use Rattle.behind.proofs.Theorems.Behind.{behind_valid}
use Rattle.behind.proofs.Theorems.Exactly.{fewest_behind, pages_behind}
use Rattle.canon.specs.Bin.{canonical_bin}
use Rattle.canon.specs.Laws.Bin.{bin_size}
use Rattle.canon.proofs.Theorems.Bin.{length_bin}
use Rattle.canon.proofs.Theorems.Good.{length_lines}
use Rattle.canon.specs.Laws.Lines.{canonical_lines}
use Rattle.canon.proofs.Theorems.Made.{canonical_accepted, exactly_made, lines_build, plan_made, ram_some}
use Rattle.canon.proofs.Theorems.OfPlan.{plan_of_lines}
use Rattle.canon.specs.Made.{Made, blank_in}
use Rattle.build.specs.Building.{pressed_image, too_large}
use Rattle.rebuild.specs.Fits.{agree, fits, lines_fit, names_fit, ram_fits, tables_fit}
use Rattle.unbuild.specs.Behind.{bin_behind, cfg_behind, names_paragraph, plan_behind, rebuilds, unbuildable}
use Rattle.unbuild.specs.Content.{image_jlp, image_tables, loaded_word, names_word}
use Rattle.unbuild.specs.Laws.Named.{names_below}
use Rattle.unbuild.specs.Laws.Pressed.{Holding, pressed_holds}
use Rattle.unbuild.specs.Laws.Printed.{cfg_entries, cfg_silent}
use Rattle.unbuild.specs.Source.{Source, broken_bin, source_rows}

-- what nothing refused says of a source
pub record Apart (bin cfg : List ℕ) : Type 0 where
  pub whole : broken_bin bin ≡ false
  pub reads : Silent (cfgRows cfg)
  pub judges : Silent (ruleRows (bin_words bin) (entries_of cfg))
  pub fits : too_large (entries_of cfg) ≡ false

abbrev fit_row : List ℕ → List (Row Refusal)
fit_row cfg = (too_large (entries_of cfg), refuse 20 0) ∷ []

every_row : (bin cfg : List ℕ) → Refusing (source_rows bin cfg)
every_row bin cfg = (
  (λ z. omega arith),
  refusing_append (cfgRows cfg) (ruleRows (bin_words bin) (entries_of cfg) ++ fit_row cfg) (cfg-refuses cfg)
      (refusing_append (ruleRows (bin_words bin) (entries_of cfg)) (fit_row cfg) (rules-refuse (bin_words bin) (entries_of cfg)) ((λ z. omega arith), tt)),
)

apart_of : (bin cfg : List ℕ) → first_refusal (source_rows bin cfg) ≡ no_refusal → Apart bin cfg
apart_of bin cfg e = by ((accepted_exactly (source_rows bin cfg) (every_row bin cfg)).0 (ap (λ (r : Refusal). r.number) e))
  where
    one : Silent (fit_row cfg) → too_large (entries_of cfg) ≡ false
    one (still e s) = e

    by : Silent (source_rows bin cfg) → Apart bin cfg
    by (still h s) =
        let behind-cfg : Silent (ruleRows (bin_words bin) (entries_of cfg) ++ fit_row cfg) = silent_right (cfgRows cfg) _ s in
        record {
          whole = h;
          reads = silent_left (cfgRows cfg) (ruleRows (bin_words bin) (entries_of cfg) ++ fit_row cfg) s;
          judges = silent_left (ruleRows (bin_words bin) (entries_of cfg)) (fit_row cfg) behind-cfg;
          fits = one (silent_right (ruleRows (bin_words bin) (entries_of cfg)) (fit_row cfg) behind-cfg);
        }

pub apart_builds : (bin cfg : List ℕ) → Apart bin cfg → first_refusal (source_rows bin cfg) ≡ no_refusal
apart_builds bin cfg a = silent_first no_refusal (still a.whole (silent_append a.reads (silent_append a.judges (still a.fits silence))))

module _ (bin cfg : List ℕ) (a : Apart bin cfg) where
  read : (reading_of cfg).refusal.number ≡ 0
  read = (cfg-exactly cfg).accepts.1 a.reads

  pub lines_accepted : Accepted bin (entries_of cfg)
  lines_accepted =
      let k : Holds cfg (reading_of cfg) = accepted_holds cfg read in
      record {
        few = omega (arith, k.counted, k.most);
        typed = all_typed k.fitting;
        judged = (rules-exactly (bin_words bin) (entries_of cfg)).accepts.1 a.judges;
      }

  some_entry : 1 ≤ length (entries_of cfg)
  some_entry = let k : Holds cfg (reading_of cfg) = accepted_holds cfg read in omega (arith, k.counted, k.one)

-- tests of places that are all the same
all_one : (b : Bool) → all 256 (λ i. b) ≡ b
all_one b = same_test (all 256 (λ i. b)) b (λ e. all_at 256 (λ i. b) e 0 (omega arith)) (λ e. all_of 256 (λ i. b) (λ i h. e))

-- ---- a source, and so the plan behind

module _ (s bin cfg : List ℕ) (source : Source s bin cfg) where
  apart : Apart bin cfg
  apart = apart_of bin cfg source.builds

  abbrev ls : List Line
  ls = entries_of cfg

  accepted : Accepted bin ls
  accepted = lines_accepted bin cfg apart

  -- the words that they need are words of Locutus
  small : needed ls ≤ lent_limit
  unfolding too_large
  small = ltb-false lent_limit (needed ls) apart.fits

  holds : Holding (pressed_image bin cfg []) bin ls
  holds = pressed_holds bin cfg accepted small

  word_named_lem : (i : ℕ) → names_word s i ≡ covered ls (i / 256)
  word_named_lem i = sym (source.same.names i) ∙ holds.names i

  paragraph_named : (p : ℕ) → covered ls p ≡ names_paragraph s p
  paragraph_named p =
      sym
      (all_same 256 (λ i. names_word s (256 * p + i)) (λ i. covered ls p)
      (λ i h. word_named_lem (256 * p + i) ∙ ap (λ (n : ℕ). covered ls n) (omega arith))
      ∙ all_one (covered ls p))

  made : Made (image_tables s) (names_paragraph s) (loaded_word s) bin ls
  made =
      record {
        accepted = accepted;
        some = some_entry bin cfg apart;
        tables = sym holds.tables ∙ source.same.tables;
        names = paragraph_named;
        words =
            λ p i e h.
            let q : (256 * p + i) / 256 ≡ p = omega arith in
            let c : covered ls ((256 * p + i) / 256) ≡ true = ap (λ (n : ℕ). covered ls n) q ∙ paragraph_named p ∙ e in
            sym (holds.words (256 * p + i) c) ∙ source.same.words (256 * p + i) (word_named_lem (256 * p + i) ∙ c);
      }

  abbrev r : Plan
  r = plan_behind s

  plan_builds : Builds (image_tables s) (names_paragraph s) (blank_in (loaded_word s)) r
  plan_builds = (exactly_made (image_tables s) (names_paragraph s) (loaded_word s)).0 (bin, ls, made)

  lines_builds : Builds (image_tables s) (names_paragraph s) (blank_in (loaded_word s)) (plan_of ls)
  lines_builds = lines_build (image_tables s) (names_paragraph s) (loaded_word s) bin ls made

  -- no source has fewer lines than the canonical one
  fewest_source : fewest r ≤ length ls
  fewest_source =
      omega (
        arith,
        fewest_behind (plan_of ls) (planned accepted).valid (image_tables s) (names_paragraph s) lines_builds.tables lines_builds.names,
        (planned accepted).fewest,
      )

  pub canonical_fewest : length (entries_of (cfg_behind s)) ≤ length (entries_of cfg)
  canonical_fewest =
      let v : Valid r = behind_valid (image_tables s) (names_paragraph s) in
      omega (arith, fewest_source, ap length (cfg_entries r v plan_builds.some plan_builds.few), length_lines r v)

  agrees : (n : ℕ) (a b : List ℕ) → a ≡ b → agree n a b ≡ true
  agrees n a b e = all_of n (λ i. eqb (get_or a i 0) (get_or b i 0)) (λ i h. eq-eqb (get_or a i 0) (get_or b i 0) (ap (λ (x : List ℕ). get_or x i 0) e))

  -- it needs the same pages
  pages_few : page_size * pages_of r ≤ lent_limit
  pages_few =
      omega (
        arith,
        pages_behind (plan_of ls) (planned accepted).valid (image_tables s) (names_paragraph s) lines_builds.tables lines_builds.names,
        (planned accepted).pages,
        small,
      )

  names_fit_lem : (i : ℕ) → i < lent_limit → cond (names_word s i) (covered_of r (i / 256)) (not (covered_of r (i / 256))) ≡ true
  names_fit_lem i h =
      let c : covered_of r (i / 256) ≡ names_word s i = plan_builds.names (i / 256) ∙ sym (paragraph_named (i / 256)) ∙ sym (word_named_lem i) in
      rw c (cases (names_word s i) (λ e. rw e) (λ e. rw e))

  ram_fits_lem : (p : ℕ) → p < locutus_paragraphs → not (ram_covered_of r p) || blank_in (loaded_word s) p ≡ true
  ram_fits_lem p h = cases (ram_covered_of r p) (λ e. or_right (not (ram_covered_of r p)) _ (plan_builds.zeros p e)) (λ e. rw e)

  pub source_rebuilds : rebuilds r s ≡ true
  unfolding rebuilds fits
  source_rebuilds =
      let b : Builds (image_tables s) (names_paragraph s) (blank_in (loaded_word s)) r = plan_builds in
      and_true (eqb (image_jlp s) 0) _ (eq-eqb (image_jlp s) 0 (sym source.same.jlp ∙ holds.jlp))
      (and_true (lines_fit r) _
      (and_true (leb 1 (fewest r)) _ (le-leb 1 (fewest r) b.some)
      (and_true (leb (fewest r) line_limit) _ (le-leb (fewest r) line_limit b.few) (le-leb (page_size * pages_of r) lent_limit pages_few)))
      (and_true (tables_fit r (image_tables s)) _
      (and_true (agree 256 (mapping_of r) (image_tables s).mapping) _ (agrees 256 _ _ (ap (λ (t : Tables). t.mapping) b.tables))
      (and_true (agree 256 (permissions_of r) (image_tables s).permissions) _ (agrees 256 _ _ (ap (λ (t : Tables). t.permissions) b.tables))
      (agrees 256 _ _ (ap (λ (t : Tables). t.flips) b.tables))))
      (and_true (names_fit r (names_word s)) _ (all_of lent_limit _ names_fit_lem) (all_of locutus_paragraphs _ ram_fits_lem))))

-- ---- the plan behind, and so a source

agree_same : (n : ℕ) (a b : List ℕ) → length a ≡ n → length b ≡ n → agree n a b ≡ true → a ≡ b
agree_same n a b ea eb e =
    ext_get_or 0 a b (ea ∙ sym eb) (λ i h. eqb-true (get_or a i 0) (get_or b i 0) (all_at n (λ j. eqb (get_or a j 0) (get_or b j 0)) e i (omega arith)))

-- the words past 524,288
module _ (s : List ℕ) (loads : (loading_of s lent_limit (flash_asked s)).refusal.number ≡ 0) (e : rebuilds (plan_behind s) s ≡ true) where
  abbrev q : Plan
  q = plan_behind s

  valid : Valid q
  valid = behind_valid (image_tables s) (names_paragraph s)

  pub record Parts : Type 0 where
    pub jlp : image_jlp s ≡ 0
    pub some : 1 ≤ fewest q
    pub few : fewest q ≤ line_limit
    pub pages : page_size * pages_of q ≤ lent_limit
    pub tables : plan_tables q ≡ image_tables s
    pub names : (i : ℕ) → i < lent_limit → names_word s i ≡ covered_of q (i / 256)
    pub ram : (p : ℕ) → p < locutus_paragraphs → ram_covered_of q p ≡ true → blank_in (loaded_word s) p ≡ true

  same_by : (a b : Bool) → cond a b (not b) ≡ true → a ≡ b
  same_by true b h = sym h
  same_by false b h = sym (not-true b h)

  ram_by_lem : (a b : Bool) → not a || b ≡ true → a ≡ true → b ≡ true
  ram_by_lem true b h k = h
  ram_by_lem false b h k = true_is_not_false k refl

  parts : Parts
  unfolding rebuilds fits tables_in
  parts =
      let e₁ : lines_fit q && (tables_fit q (image_tables s) && (names_fit q (names_word s) && ram_fits q (loaded_word s))) ≡ true = and_right (eqb (image_jlp s) 0) _ e in
      let e₂ : tables_fit q (image_tables s) && (names_fit q (names_word s) && ram_fits q (loaded_word s)) ≡ true = and_right (lines_fit q) _ e₁ in
      let e₃ : names_fit q (names_word s) && ram_fits q (loaded_word s) ≡ true = and_right (tables_fit q (image_tables s)) _ e₂ in
      let l : lines_fit q ≡ true = and_left (lines_fit q) _ e₁ in
      let l₂ : leb (fewest q) line_limit && leb (page_size * pages_of q) lent_limit ≡ true = and_right (leb 1 (fewest q)) _ l in
      let t : tables_fit q (image_tables s) ≡ true = and_left (tables_fit q (image_tables s)) _ e₂ in
      let t₂ : agree 256 (permissions_of q) (image_tables s).permissions && agree 256 (flips_of q) (image_tables s).flips ≡ true =
      and_right (agree 256 (mapping_of q) (image_tables s).mapping) _ t in
      let m : mapping_of q ≡ (image_tables s).mapping =
      agree_same 256 (mapping_of q) (image_tables s).mapping (length_table 256 _) (length_table 256 _) (and_left (agree 256 (mapping_of q) (image_tables s).mapping) _ t) in
      let p : permissions_of q ≡ (image_tables s).permissions =
      agree_same 256 (permissions_of q) (image_tables s).permissions (length_table 256 _) (length_table 256 _) (and_left (agree 256 (permissions_of q) (image_tables s).permissions) _ t₂) in
      let f : flips_of q ≡ (image_tables s).flips =
      agree_same 256 (flips_of q) (image_tables s).flips (length_table 256 _) (length_table 256 _) (and_right (agree 256 (permissions_of q) (image_tables s).permissions) _ t₂) in
      record {
        jlp = eqb-true (image_jlp s) 0 (and_left (eqb (image_jlp s) 0) _ e);
        some = leb-true 1 (fewest q) (and_left (leb 1 (fewest q)) _ l);
        few = leb-true (fewest q) line_limit (and_left (leb (fewest q) line_limit) _ l₂);
        pages = leb-true (page_size * pages_of q) lent_limit (and_right (leb (fewest q) line_limit) _ l₂);
        tables = cc (m, p, f);
        names = λ i h. same_by (names_word s i) (covered_of q (i / 256)) (all_at lent_limit _ (and_left (names_fit q (names_word s)) _ e₃) i h);
        ram = λ i h. ram_by_lem (ram_covered_of q i) _ (all_at locutus_paragraphs _ (and_right (names_fit q (names_word s)) _ e₃) i h);
      }

  abbrev lines : List Line
  lines = canonical_lines q

  abbrev bin : List ℕ
  bin = canonical_bin q (loaded_word s)

  accepts : Accepted bin lines
  accepts = canonical_accepted q (loaded_word s) valid parts.few

  pl : Planned lines
  pl = planned accepts

  alike : (x : ℕ) → x < 16 → Alike x (plan_of lines x) (q x)
  alike x h = same_alike (plan_of_lines q valid x h) x

  covered_is : (p : ℕ) → covered lines p ≡ covered_of q p
  covered_is p = pl.covered p ∙ covered_alike (plan_of lines) q alike p

  small_back : needed lines ≤ lent_limit
  small_back = omega (arith, pl.pages, base_alike (plan_of lines) q alike 16 (omega arith), parts.pages)

  covered_low : (p : ℕ) → covered_of q p ≡ true → p < locutus_paragraphs
  covered_low p h = omega (arith, covered_inside lines p (covered_is p ∙ h), small_back)

  ram_covered : (p : ℕ) → ram_covered_of q p ≡ true → covered_of q p ≡ true
  ram_covered p h =
      sym (covered_is p) ∙ ram_some (line_held lines p) (pl.ram p ∙ ram_alike (plan_of lines) q alike p ∙ h)

  pub named_is : (i : ℕ) → names_word s i ≡ covered_of q (i / 256)
  named_is i =
      cases (ltb i lent_limit) (λ l. parts.names i (ltb-true i lent_limit l))
      (λ l.
      same_test (names_word s i) (covered_of q (i / 256)) (λ h. absurd (omega (arith, names_below s loads i h, ltb-false i lent_limit l)))
      (λ h. absurd (omega (arith, covered_low (i / 256) h, ltb-false i lent_limit l))))

  names_back : (p : ℕ) → covered_of q p ≡ names_paragraph s p
  names_back p =
      sym
      (all_same 256 (λ i. names_word s (256 * p + i)) (λ i. covered_of q p) (λ i h. named_is (256 * p + i) ∙ ap (λ (n : ℕ). covered_of q n) (omega arith))
      ∙ all_one (covered_of q p))

  plan_back : Builds (image_tables s) (names_paragraph s) (blank_in (loaded_word s)) q
  plan_back =
      record {
        tables = parts.tables;
        names = names_back;
        zeros = λ p h. parts.ram p (covered_low p (ram_covered p h)) h;
        some = parts.some;
        few = parts.few;
      }

  made_back : Made (image_tables s) (names_paragraph s) (loaded_word s) bin lines
  made_back = plan_made (image_tables s) (names_paragraph s) (loaded_word s) q valid plan_back

  entries_are : entries_of (cfg_behind s) ≡ lines
  entries_are = cfg_entries q valid parts.some parts.few

  accepted_cfg : Accepted bin (entries_of (cfg_behind s))
  accepted_cfg = rw entries_are made_back.accepted

  pub canonical_apart : Apart (bin_behind s) (cfg_behind s)
  unfolding too_large
  canonical_apart =
      let n : length bin ≡ 2 * max 1 (bin_size q) = length_bin q (loaded_word s) in
      let a : eqb (length bin) 0 ≡ false = ne_eqb (length bin) 0 (omega arith) in
      let b : eqb (length bin % 2) 1 ≡ false = ne_eqb (length bin % 2) 1 (omega arith) in
      record {
        whole = rw (a, b);
        reads = cfg_silent q valid parts.some parts.few;
        judges = (rules-exactly (bin_words bin) (entries_of (cfg_behind s))).accepts.0 accepted_cfg.judged;
        fits = le-ltb lent_limit (needed (entries_of (cfg_behind s))) (rw entries_are small_back);
      }

  holding : Holding (pressed_image bin (cfg_behind s) []) bin lines
  holding =
      subst (λ (l : List Line). Holding (pressed_image bin (cfg_behind s) []) bin l) entries_are
      (pressed_holds bin (cfg_behind s) accepted_cfg (rw entries_are small_back))

  names_same : (i : ℕ) → names_word (pressed_image bin (cfg_behind s) []) i ≡ names_word s i
  names_same i = holding.names i ∙ covered_is (i / 256) ∙ sym (named_is i)

  pub canonical_source : Source s (bin_behind s) (cfg_behind s)
  canonical_source =
      record {
        builds = apart_builds bin (cfg_behind s) canonical_apart;
        same =
            record {
              tables = holding.tables ∙ made_back.tables;
              names = names_same;
              words =
                  λ i h.
                  let z : 256 * (i / 256) + i % 256 ≡ i = omega arith in
                  let c : covered_of q (i / 256) ≡ true = sym (named_is i) ∙ h in
                  holding.words i (covered_is (i / 256) ∙ c)
                  ∙ ap (word_at bin lines) (sym z) ∙ made_back.words (i / 256) (i % 256) (sym (names_back (i / 256)) ∙ c) (omega arith) ∙ ap (loaded_word s) z;
              jlp = holding.jlp ∙ sym parts.jlp;
            };
      }

-- 31: of an image that loads, exactly when there is no such BIN and CFG
abbrev pub Buildable : List ℕ → Type 0
Buildable s = (bin : List ℕ) × (cfg : List ℕ) × Source s bin cfg

module _ (s : List ℕ) (loads : (loading_of s lent_limit (flash_asked s)).refusal.number ≡ 0) where
  pub buildable_exactly : (unbuildable s ≡ false) ↔ Buildable s
  unfolding unbuildable
  buildable_exactly = (
    (λ e. (bin_behind s, cfg_behind s, canonical_source s loads (not-false (rebuilds (plan_behind s) s) e))),
    (λ w. rw (source_rebuilds s w.0 w.1 w.2)),
  )

  pub unbuildable_exactly : (unbuildable s ≡ true) ↔ (Buildable s → ⊥)
  unbuildable_exactly = (
    (λ e w. true_is_not_false e (buildable_exactly.1 w)),
    (λ n. cases (unbuildable s) (λ e. e) (λ e. absurd (n (buildable_exactly.0 e)))),
  )
