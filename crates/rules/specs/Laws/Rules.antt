-- Accepted lines: what rules 25 to 28 say of all of them, and of the line that is found at an address.
use Rattle.std.specs.Prelude.{◌≤◌, ℕ, ◌<◌, ◌+◌, zero, suc, ◌%◌, ◌/◌, ◌*◌, List, [], ◌++◌, ◌∷◌, ◌≡◌, refl, false, Bool, true, cond, ◌||◌, ◌&&◌, ◌⊎◌, length, get_or, leb, ltb}
use Rattle.std.proofs.Common.{◌∙◌, ap, sym, inl, inr, ⊎_elim}
use Rattle.std.proofs.Math.Option.{none, some, Option}
use native.Mathlib.Omega.{arith}
use Rattle.std.proofs.Math.Dec.{eqb}
use borrow.Author.Tests.{le-ltb, ne_eqb, eq-eqb, leb-true, leb-false, le-leb, eqb-true, eqb-false}
use Rattle.basics.specs.declared.Refusal.{Refusal}
use Rattle.basics.specs.Lists.{none as no_more, also as and-also}
use Rattle.basics.specs.Rows.{Row, Silent, also as still}
use Rattle.basics.specs.Refusals.{refuse, first_refusal}
use Rattle.basics.specs.Options.{is_some}
use Rattle.basics.specs.Tables.{made}
use Rattle.basics.specs.Laws.Rows.{silent_left, silent_right}
use Rattle.basics.specs.Laws.Refusals.{accepted_exactly}
use Rattle.basics.specs.Laws.Options.{some_is_not_none}
use Rattle.basics.specs.Laws.Tests.{same_test, true_is_not_false, cases, or_false_left, or_false_right, not-false, and_right, or_cases, and_left, compare}
use Rattle.basics.specs.Laws.Counts.{any_of, Place, any_at, all_at}
use Rattle.places.specs.Limits.{line_limit, chapters, chapter_paragraphs, chapter_pages, paragraph_size, chapter_size}
use Rattle.switches.specs.Flips.{first_k}
use Rattle.cart.specs.Reads.{silent}
use Rattle.switches.specs.Laws.Flips.{first_small}
use Rattle.lines.specs.declared.Line.{Line}
use Rattle.lines.specs.declared.Entry.{Entry}
use Rattle.lines.specs.declared.Entry.TheVariants.{Rom, Paged, Ram}
use Rattle.lines.specs.declared.Width.TheVariants.{Sixteen, Eight}
use Rattle.lines.specs.Typed.{All, nil, cons}
use Rattle.lines.specs.Bin.{bin_words}
use Rattle.lines.specs.Kinds.{kind_by, kind_of}
use Rattle.lines.specs.Lines.{first, last, holds, layer, line_at, is_ram}
use Rattle.lines.specs.Laws.Kinds.{kind_some}
use Rattle.lines.specs.Laws.Lines.{Within, within, holding, same_line, Found, found, one_found, all_map, all_at as line_at_lem}
use Rattle.rules.specs.Chapters.{line_in, uses, paged, throughout, under, bare}
use Rattle.rules.specs.Rules.{meets, shares, shares_earlier, breaks_plain, not_allowed, line_rows, share_rows, chapter_rows}
use Rattle.rules.specs.Accepted.{Accepted}
use Rattle.rules.specs.Code.Shapes.{Fine, PlainLine, PageLine, PageShape, PlainShape}
use Rattle.rules.specs.Code.Clashes.{Allowed}
use Rattle.rules.specs.Laws.Refusals.{line_rows_lem, exactly}
use Rattle.rules.specs.Laws.Shapes.{fine_of, Aligned, aligned}

-- 27: no line shares with a later one
pub data Separate : List Line → Type 0 where
  done : Separate []
  next : {l : Line} {ls : List Line} → All (λ m. shares l.entry m ≡ false) ls → Separate ls → Separate (l ∷ ls)

pub record Good (lines : List Line) : Type 0 where
  pub few : length lines ≤ line_limit
  pub fine : All Fine lines
  pub separate : Separate lines
  pub plain : (x : ℕ) → x < chapters → breaks_plain lines x ≡ false

-- lines in which 25 and 26 find nothing
positive : (l : Line) → not_allowed l ≡ false → 0 < l.source
positive l e = omega (arith, eqb-false l.source 0 (or_false_left _ _ e))

allowed_by : (words : ℕ) (lines : List Line) → Silent (line_rows words lines) → Allowed lines
allowed_by words [] s = record { fine = nil; numbered = no_more }
allowed_by words (l ∷ ls) (still e (still f s)) =
    let r : Allowed ls = allowed_by words ls s in
    record {
      fine = cons (fine_of words l.entry e (or_false_right (eqb l.source 0) _ f)) r.fine;
      numbered = and-also (positive l f) r.numbered;
    }

pub allowed_lines : (words : ℕ) (lines : List Line) → (first_refusal (line_rows words lines)).number ≡ 0 → Allowed lines
allowed_lines words lines e = allowed_by words lines ((accepted_exactly (line_rows words lines) (line_rows_lem words lines)).0 e)

-- in which 27 finds nothing
earlier_more : (earlier : List Line) (l : Line) (e : Entry) → shares_earlier (earlier ++ (l ∷ [])) e ≡ false → (shares_earlier earlier e ≡ false) × (shares l.entry e ≡ false)
earlier_more [] l e h = (refl, or_false_left _ _ h)
earlier_more (m ∷ ms) l e h =
    let r : (shares_earlier ms e ≡ false) × (shares l.entry e ≡ false) = earlier_more ms l e (or_false_right (shares m.entry e) _ h) in
    (rw (or_false_left (shares m.entry e) _ h) r.0, r.1)

separate_by : (earlier lines : List Line) → Silent (share_rows earlier lines) → (All (λ e. shares_earlier earlier e ≡ false) lines) × (Separate lines)
separate_by earlier [] s = (nil, done)
separate_by earlier (l ∷ ls) (still e s) =
    let r : (All (λ f. shares_earlier (earlier ++ (l ∷ [])) f ≡ false) ls) × (Separate ls) = separate_by (earlier ++ (l ∷ [])) ls s in (
      cons e (all_map (λ f q. (earlier_more earlier l f q).0) r.0),
      next (all_map (λ f q. (earlier_more earlier l f q).1) r.0) r.1,
    )

-- in which 28 finds nothing
chapters_by : (f : ℕ → Bool) (i n : ℕ) → Silent (made {A = Row Refusal} i n (λ x. (f x, refuse 28 x))) → (j : ℕ) → j < n → f (i + j) ≡ false
unfolding made
chapters_by f i zero s j h = absurd (omega arith)
chapters_by f i (suc n) (still e s) zero h = let z : i + 0 ≡ i = omega arith in rw z e
chapters_by f i (suc n) (still e s) (suc j) h = let z : i + suc j ≡ suc i + j = omega arith in rw z (chapters_by f (suc i) n s j (omega arith))

pub good : {bin : List ℕ} {lines : List Line} → Accepted bin lines → Good lines
good {bin} {lines} a =
    let s : Silent (line_rows (bin_words bin) lines ++ (share_rows [] lines ++ chapter_rows lines)) = (exactly (bin_words bin) lines).accepts.0 a.judged in
    let t : Silent (share_rows [] lines ++ chapter_rows lines) = silent_right (line_rows (bin_words bin) lines) _ s in
    record {
      few = a.few;
      fine = (allowed_by (bin_words bin) lines (silent_left _ (share_rows [] lines ++ chapter_rows lines) s)).fine;
      separate = (separate_by [] lines (silent_left (share_rows [] lines) _ t)).1;
      plain = λ x h. let z : 0 + x ≡ x = omega arith in rw z at (chapters_by (breaks_plain lines) 0 chapters (silent_right (share_rows [] lines) _ t) x h);
    }

paragraph_held_lem : {e : Entry} → Aligned e → (a b : ℕ) → a / paragraph_size ≡ b / paragraph_size → holds e a ≡ true → holds e b ≡ true
paragraph_held_lem {e} s a b q h = let w : Within e a = within e a h in holding e b (record { from = omega arith; to = omega arith })

-- an address in the flippable range of a chapter where a flip acts
pub record Flips (a : ℕ) : Type 0 where
  pub turns : first_k (a / chapter_size) ≤ a / paragraph_size % chapter_paragraphs
  pub above : 2 ≤ a / chapter_size
  pub not_three : a / chapter_size ≡ 3 → ⊥

pub page_line_lem : {e : Entry} {y : ℕ} → Fine e → layer e ≡ suc y → PageShape (first e) (last e)
page_line_lem {e} {y} f o = by f.shape
  where
    by : (PlainLine e) ⊎ (PageLine e) → PageShape (first e) (last e)
    by (inl p) = absurd (omega (arith, p.on))
    by (inr p) = p.shape

module _ {e : Entry} (s : PageShape (first e) (last e)) (a : ℕ) (w : Within e a) where
  pub chapter_of_lem : first e / chapter_size ≡ a / chapter_size
  chapter_of_lem = omega (arith, s.start, s.end, w.from, w.to)

  pub flips_of_lem : Flips a
  flips_of_lem =
      let k : first_k (first e / chapter_size) ≡ first_k (a / chapter_size) = ap first_k chapter_of_lem in
      record {
        turns = omega (arith, s.start, w.from, chapter_of_lem);
        above = omega (arith, s.above, chapter_of_lem);
        not_three = λ q. s.not_three (chapter_of_lem ∙ q);
      }

  -- a PAGE line that holds an address holds all of the chapter's flippable range
  pub page_held : (b : ℕ) → a / chapter_size ≡ b / chapter_size → first_k (b / chapter_size) ≤ b / paragraph_size % chapter_paragraphs → Within e b
  page_held b q t =
      let k : first_k (first e / chapter_size) ≡ first_k (b / chapter_size) = ap first_k (chapter_of_lem ∙ q) in
      record {
        from = omega (arith, s.start, chapter_of_lem);
        to = omega (arith, s.end, chapter_of_lem);
      }

-- the line that is found at an address
module _ {lines : List Line} (all : All Fine lines) where
  pub same_paragraph : (t a b : ℕ) → a / paragraph_size ≡ b / paragraph_size → line_at lines t a ≡ line_at lines t b
  same_paragraph t a b q =
      same_line all t a b
      (λ e f o. same_test (holds e a) (holds e b) (paragraph_held_lem (aligned f) a b q) (paragraph_held_lem (aligned f) b a (sym q)))

  -- at an address, and in its paragraph
  pub line_in_lem : (t a : ℕ) → line_in lines t (a / paragraph_size) ≡ line_at lines t a
  line_in_lem t a = same_paragraph t (paragraph_size * (a / paragraph_size)) a (omega arith)

  pub found_flips : (y a : ℕ) (l : Line) → line_at lines (suc y) a ≡ some l → Flips a
  found_flips y a l e = let f : Found Fine (suc y) a l = found all (suc y) a l e in flips_of_lem (page_line_lem f.is f.on) a f.here

  pub same_page : (y a b : ℕ) → a / chapter_size ≡ b / chapter_size → first_k (a / chapter_size) ≤ a / paragraph_size % chapter_paragraphs → first_k (b / chapter_size) ≤ b / paragraph_size % chapter_paragraphs →
      line_at lines (suc y) a ≡ line_at lines (suc y) b
  same_page y a b q s t =
      same_line all (suc y) a b
      (λ e f o.
      same_test (holds e a) (holds e b)
      (λ h. holding e b (page_held (page_line_lem f o) a (within e a h) b q t))
      (λ h. holding e a (page_held (page_line_lem f o) b (within e b h) a (sym q) s)))

  -- it is not in the silent ranges, not past $FFFF, and on one of the 17 layers
  plain_open : (c d a : ℕ) → PlainShape c d → c ≤ a → a ≤ d → silent (record { 0 = a }) ≡ false
  unfolding silent
  plain_open c d a s h k = simp (
    le-ltb a 0x500 (omega (arith, s.above)),
    ne_eqb (a / 0x1000) 1 (⊎_elim (λ g. omega arith) (λ g. omega arith) s.one),
    ne_eqb (a / 0x1000) 3 (⊎_elim (λ g. omega arith) (λ g. omega arith) s.three),
  )

  flips_open : (a : ℕ) → Flips a → silent (record { 0 = a }) ≡ false
  unfolding silent
  flips_open a f = simp (
    le-ltb a 0x500 (omega (arith, f.above)),
    ne_eqb (a / 0x1000) 1 (omega (arith, f.above)),
    ne_eqb (a / 0x1000) 3 f.not_three,
  )

  pub found_open : (t a : ℕ) (l : Line) → line_at lines t a ≡ some l → silent (record { 0 = a }) ≡ false
  found_open t a l e = by (found all t a l e).is.shape
    where
      by : (PlainLine l.entry) ⊎ (PageLine l.entry) → silent (record { 0 = a }) ≡ false
      by (inl p) = plain_open (first l.entry) (last l.entry) a p.shape (found all t a l e).here.from (found all t a l e).here.to
      by (inr p) = flips_open a (flips_of_lem p.shape a (found all t a l e).here)

  pub found_below : (t a : ℕ) (l : Line) → line_at lines t a ≡ some l → a < 0x10000
  found_below t a l e = let f : Found Fine t a l = found all t a l e in omega (arith, f.is.ends, f.here.to)

  pub found_layer : (t a : ℕ) (l : Line) → line_at lines t a ≡ some l → t ≤ chapter_pages
  found_layer t a l e = by f.is.shape
    where
      f : Found Fine t a l
      f = found all t a l e

      by : (PlainLine l.entry) ⊎ (PageLine l.entry) → t ≤ chapter_pages
      by (inl p) = omega (arith, p.on, f.on)
      by (inr p) = omega (arith, p.on, p.digit, f.on)

-- a layer in use in a chapter has a line at a paragraph of it, and the other way round
pub record Is {A : Type 0} (o : Option A) : Type 0 where
  pub value : A
  pub found : o ≡ some value

pub is_some_lem : {A : Type 0} (o : Option A) → is_some o ≡ true → Is o
is_some_lem none e = true_is_not_false e refl
is_some_lem (some x) e = record { value = x; found = refl }

pub record Used (lines : List Line) (x t : ℕ) : Type 0 where
  pub at : ℕ
  pub line : Line
  pub chapter : at / chapter_size ≡ x
  pub found : line_at lines t at ≡ some line

module _ {lines : List Line} (all : All Fine lines) where
  pub uses_of : (t a : ℕ) (l : Line) → line_at lines t a ≡ some l → uses lines (a / chapter_size) t ≡ true
  unfolding uses
  uses_of t a l e =
      let q : paragraph_size * (chapter_paragraphs * (a / chapter_size) + a / paragraph_size % chapter_paragraphs) / paragraph_size ≡ a / paragraph_size = omega arith in
      any_of chapter_paragraphs (λ k. is_some (line_in lines t (chapter_paragraphs * (a / chapter_size) + k))) (a / paragraph_size % chapter_paragraphs) (omega arith)
      (simp (same_paragraph all t (paragraph_size * (chapter_paragraphs * (a / chapter_size) + a / paragraph_size % chapter_paragraphs)) a q, e))

  pub used_at : (x t : ℕ) → uses lines x t ≡ true → Used lines x t
  unfolding uses
  used_at x t e =
      let p : Place chapter_paragraphs (λ k. is_some (line_in lines t (chapter_paragraphs * x + k))) = any_at chapter_paragraphs _ e in
      let i : Is (line_in lines t (chapter_paragraphs * x + p.at)) = is_some_lem _ p.passes in
      record { at = paragraph_size * (chapter_paragraphs * x + p.at); line = i.value; chapter = omega (arith, p.below); found = i.found }

  pub paged_of_lem : (y a : ℕ) (l : Line) → line_at lines (suc y) a ≡ some l → paged lines (a / chapter_size) ≡ true
  unfolding paged
  paged_of_lem y a l e =
      any_of chapter_pages (λ z. uses lines (a / chapter_size) (suc z)) y (omega (arith, found_layer all (suc y) a l e)) (uses_of (suc y) a l e)

  -- chapters with PAGE lines
  paged_at : (x : ℕ) → paged lines x ≡ true → (y : ℕ) × Used lines x (suc y)
  unfolding paged
  paged_at x e =
      let p : Place chapter_pages (λ y. uses lines x (suc y)) = any_at chapter_pages _ e in
      (p.at, used_at x (suc p.at) p.passes)

  pub paged_above : (x : ℕ) → paged lines x ≡ true → 2 ≤ x
  paged_above x e =
      let u : (y : ℕ) × Used lines x (suc y) = paged_at x e in
      omega (arith, (found_flips all u.0 u.1.at u.1.line u.1.found).above, u.1.chapter)

  pub paged_below : (x : ℕ) → paged lines x ≡ true → x < chapters
  paged_below x e =
      let u : (y : ℕ) × Used lines x (suc y) = paged_at x e in
      omega (arith, found_below all (suc u.0) u.1.at u.1.line u.1.found, u.1.chapter)

  -- the chapter's last paragraph tells whether it has a PAGE line of a number
  pub uses_page : (x y : ℕ) → uses lines x (suc y) ≡ is_some (line_in lines (suc y) (chapter_paragraphs * x + 15))
  uses_page x y =
      let c : paragraph_size * (chapter_paragraphs * x + 15) / chapter_size ≡ x = omega arith in
      let k : paragraph_size * (chapter_paragraphs * x + 15) / paragraph_size % chapter_paragraphs ≡ 15 = omega arith in
      same_test (uses lines x (suc y)) (is_some (line_in lines (suc y) (chapter_paragraphs * x + 15)))
      (λ e.
      let u : Used lines x (suc y) = used_at x (suc y) e in
      let s : line_at lines (suc y) (paragraph_size * (chapter_paragraphs * x + 15)) ≡ line_at lines (suc y) u.at =
      same_page all y (paragraph_size * (chapter_paragraphs * x + 15)) u.at (c ∙ sym u.chapter) (omega (arith, first_small (paragraph_size * (chapter_paragraphs * x + 15) / chapter_size)))
      (found_flips all y u.at u.line u.found).turns in
      simp (s, u.found))
      (λ e.
      let i : Is (line_in lines (suc y) (chapter_paragraphs * x + 15)) = is_some_lem _ e in
      rw c at (uses_of (suc y) (paragraph_size * (chapter_paragraphs * x + 15)) i.value i.found))

  -- the other paragraphs of a PAGE line are those of the flippable range
  pub page_in_lem : (x y k : ℕ) → k < chapter_paragraphs → line_in lines (suc y) (chapter_paragraphs * x + k) ≡ cond (leb (first_k x) k) (line_in lines (suc y) (chapter_paragraphs * x + 15)) none
  page_in_lem x y k h =
      let c : paragraph_size * (chapter_paragraphs * x + k) / chapter_size ≡ x = omega arith in
      let d : paragraph_size * (chapter_paragraphs * x + 15) / chapter_size ≡ x = omega arith in
      let m : paragraph_size * (chapter_paragraphs * x + k) / paragraph_size % chapter_paragraphs ≡ k = omega arith in
      cases (leb (first_k x) k)
      (λ e.
      let t : first_k x ≤ k = leb-true (first_k x) k e in
      rw e
      (same_page all y (paragraph_size * (chapter_paragraphs * x + k)) (paragraph_size * (chapter_paragraphs * x + 15)) (c ∙ sym d) (rw (c, m) t)
      (rw d (omega (arith, first_small x)))))
      (λ e. rw e (by e c m (line_in lines (suc y) (chapter_paragraphs * x + k)) refl))
    where
      by : leb (first_k x) k ≡ false → paragraph_size * (chapter_paragraphs * x + k) / chapter_size ≡ x → paragraph_size * (chapter_paragraphs * x + k) / paragraph_size % chapter_paragraphs ≡ k → (o : Option Line) →
          line_in lines (suc y) (chapter_paragraphs * x + k) ≡ o → line_in lines (suc y) (chapter_paragraphs * x + k) ≡ none
      by e c m none q = q
      by e c m (some l) q =
          let t : first_k x ≤ k = rw (c, m) at (found_flips all y (paragraph_size * (chapter_paragraphs * x + k)) l q).turns in
          absurd (omega (arith, leb-false (first_k x) k e))

-- 28 at an address of the flippable range
pub through_at : (x : ℕ) (f : ℕ → Bool) → throughout x f ≡ true → (k : ℕ) → k < chapter_paragraphs → first_k x ≤ k → f (chapter_paragraphs * x + k) ≡ true
through_at x f e k h t =
    let g : ltb k (first_k x) || f (chapter_paragraphs * x + k) ≡ true = all_at chapter_paragraphs (λ j. ltb j (first_k x) || f (chapter_paragraphs * x + j)) e k h in
    simp (le-ltb k (first_k x) t) at g

-- by paragraphs, and by words
module _ {lines : List Line} (all : All Fine lines) (f : Option Line → Bool) where
  pub through_word : (a : ℕ) → first_k (a / chapter_size) ≤ a / paragraph_size % chapter_paragraphs → throughout (a / chapter_size) (λ p. f (line_in lines 0 p)) ≡ true → f (line_at lines 0 a) ≡ true
  through_word a turns e =
      let q : chapter_paragraphs * (a / chapter_size) + a / paragraph_size % chapter_paragraphs ≡ a / paragraph_size = omega arith in
      let h : f (line_in lines 0 (chapter_paragraphs * (a / chapter_size) + a / paragraph_size % chapter_paragraphs)) ≡ true =
      through_at (a / chapter_size) (λ p. f (line_in lines 0 p)) e (a / paragraph_size % chapter_paragraphs) (omega arith) turns in
      ap f (sym (ap (line_in lines 0) q ∙ line_in_lem all 0 a)) ∙ h

-- the kinds: 1 is a line of ROM, 0 no line
pub record RomIs (o : Option Line) : Type 0 where
  pub line : Line
  pub found : o ≡ some line
  pub rom : is_ram line.entry ≡ false

rom_kind : (e : Entry) → eqb (kind_by e) 1 ≡ true → is_ram e ≡ false
rom_kind (Rom lo hi at) h = refl
rom_kind (Paged lo hi at y) h = refl
rom_kind (Ram lo hi Sixteen) h = true_is_not_false h refl
rom_kind (Ram lo hi Eight) h = true_is_not_false h refl

rom_is : (o : Option Line) → eqb (kind_of o) 1 ≡ true → RomIs o
rom_is none e = true_is_not_false e refl
rom_is (some l) e = record { line = l; found = refl; rom = rom_kind l.entry e }

no_line : (o : Option Line) → eqb (kind_of o) 0 ≡ true → o ≡ none
no_line none e = refl
no_line (some l) e = true_is_not_false e (kind_some l.entry)

module _ {lines : List Line} (g : Good lines) where
  -- in a chapter with PAGE lines
  pub under_or_bare : (x : ℕ) → paged lines x ≡ true → (under lines x ≡ true) ⊎ (bare lines x ≡ true)
  unfolding breaks_plain
  under_or_bare x p = or_cases (under lines x) (bare lines x) (not-false _ (sym (simp p) ∙ g.plain x (paged_below g.fine x p)))

  module _ (a : ℕ) (turns : first_k (a / chapter_size) ≤ a / paragraph_size % chapter_paragraphs) where
    pub under_rom : under lines (a / chapter_size) ≡ true → RomIs (line_at lines 0 a)
    unfolding under
    under_rom e = rom_is (line_at lines 0 a) (through_word g.fine (λ o. eqb (kind_of o) 1) a turns e)

    pub bare_none : bare lines (a / chapter_size) ≡ true → line_at lines 0 a ≡ none
    unfolding bare
    bare_none e = no_line (line_at lines 0 a) (through_word g.fine (λ o. eqb (kind_of o) 0) a turns e)

    pub not_ram : paged lines (a / chapter_size) ≡ true → (l : Line) → line_at lines 0 a ≡ some l → is_ram l.entry ≡ false
    not_ram p l e =
        ⊎_elim (λ u. let r : RomIs (line_at lines 0 a) = under_rom u in let q : r.line ≡ l = one_found r.line l r.found e in rw (← q) r.rom)
        (λ b. some_is_not_none e (bare_none b)) (under_or_bare (a / chapter_size) p)

-- of two lines that hold an address on one layer, the numbers are one
separate_at : (d : Line) {lines : List Line} → Separate lines → (i j : ℕ) → i < j → j < length lines → shares (get_or lines i d).entry (get_or lines j d).entry ≡ false
separate_at d done i j h l = absurd (omega arith)
separate_at d (next a r) i zero h l = absurd (omega arith)
separate_at d (next a r) zero (suc j) h l = line_at_lem a d j (omega arith)
separate_at d (next a r) (suc i) (suc j) h l = separate_at d r i j (omega arith) (omega arith)

-- a line stands on a layer and holds an address
abbrev pub there : Entry → ℕ → ℕ → Bool
there e t a = eqb (layer e) t && holds e a

shares_both : (e m : Entry) → Fine e → Fine m → (t a : ℕ) → there e t a ≡ true → there m t a ≡ true → shares e m ≡ true
unfolding shares
shares_both e m f g t a h k =
    let o : layer e ≡ t = eqb-true _ _ (and_left _ _ h) in
    let q : layer m ≡ t = eqb-true _ _ (and_left _ _ k) in
    let w : Within e a = within e a (and_right (eqb (layer e) t) _ h) in
    let v : Within m a = within m a (and_right (eqb (layer m) t) _ k) in
    by t o q w v
  where
    by : (u : ℕ) → layer e ≡ u → layer m ≡ u → Within e a → Within m a →
        eqb (layer e) (layer m) && cond (eqb (layer e) 0) (meets (first e) (last e) (first m) (last m)) (eqb (first e / chapter_size) (first m / chapter_size)) ≡ true
    by zero o q w v = simp (o, q, le-leb (first e) (last m) (omega (arith, w.from, v.to)), le-leb (first m) (last e) (omega (arith, w.to, v.from)))
    by (suc y) o q w v =
        let c : first e / chapter_size ≡ first m / chapter_size = chapter_of_lem (page_line_lem f o) a w ∙ sym (chapter_of_lem (page_line_lem g q) a v) in
        simp (o, q, eq-eqb (suc y) (suc y) refl, ne_eqb (suc y) 0 (omega arith), eq-eqb (first e / chapter_size) (first m / chapter_size) c)

module _ {lines : List Line} (g : Good lines) (d : Line) (t a : ℕ) where
  never : (i j : ℕ) → i < j → j < length lines → there (get_or lines i d).entry t a ≡ true → there (get_or lines j d).entry t a ≡ true → ⊥
  never i j c b h k =
      true_is_not_false
      (shares_both (get_or lines i d).entry (get_or lines j d).entry (line_at_lem g.fine d i (omega arith)) (line_at_lem g.fine d j b) t a h k)
      (separate_at d g.separate i j c b)

  pub one_owner : (i j : ℕ) → i < length lines → j < length lines → there (get_or lines i d).entry t a ≡ true →
      there (get_or lines j d).entry t a ≡ true → i ≡ j
  one_owner i j b c h k = by (compare i j)
    where
      by : (i ≡ j) ⊎ ((i < j) ⊎ (j < i)) → i ≡ j
      by (inl e) = e
      by (inr (inl l)) = absurd (never i j l c h k)
      by (inr (inr l)) = absurd (never j i l b k h)
