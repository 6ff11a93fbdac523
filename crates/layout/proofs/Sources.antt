-- The words that a line puts at a paragraph's addresses, as the code comes to them.
use mathlib.Core.Bool.{Bool, true, false, cond}
use mathlib.Core.Option.{none, some}
use mathlib.Core.Logic.{◌⊎◌, inl, inr}
use Prim.Native.Nat.{ℕ, ◌≤◌, ◌<◌, ◌+◌, ◌*◌, ◌-◌, ◌/◌, ◌%◌, min}
use mathlib.Core.List.{List, ◌++◌}
use mathlib.Core.Path.{◌≡◌, refl, sym, ◌∙◌, ap}
use native.Mathlib.Omega.{arith}
use lib.Dec.{ltb, eqb}
use Rattle.std.proofs.Common.{Some, None}
use Rattle.places.specs.declared.Page.{Page}
use Rattle.lines.specs.declared.Entry.{Entry}
use Rattle.lines.specs.declared.Entry.TheVariants.{Rom, Paged}
use lib.ListN.{get_or, length, drop, replicate}
use borrow.Author.Tests.{ltb-true, ltb-false}
use Rattle.std.proofs.Common.{get_or-drop, get_or-append-add}
use Rattle.std.proofs.Math.ListN.{get_or-append, get_or-eq_default}
use Rattle.std.proofs.lemmas.List.{length-replicate, get_or-replicate}
use Rattle.basics.specs.Lists.{laid, part, put_front}
use Rattle.basics.specs.Laws.Lists.{length_part, get_d_part}
use Rattle.basics.specs.Laws.Puts.{put_room}
use Rattle.basics.specs.Laws.Tests.{cases}
use Rattle.basics.specs.Tables.{table}
use Rattle.basics.specs.Laws.Tables.{table_of, table_same}
use Rattle.places.specs.declared.BinWord.{BinWord}
use Rattle.places.specs.declared.Console.{Console}
use Rattle.places.specs.Places.{console}
use Rattle.places.specs.Limits.{paragraph_size, page_paragraphs}
use Rattle.lines.specs.declared.Line.{Line}
use Rattle.lines.specs.Lines.{first}
use Rattle.lines.specs.Bin.{bin_word, bin_place}
use Rattle.layout.specs.declared.found.Survey.{Survey}
use Rattle.layout.specs.Layout.{written_by, written_of}
use Rattle.layout.specs.Code.Survey.{no_line, line_of}
use Rattle.layout.specs.Code.Entries.{paragraph_in, held_in}
use Rattle.layout.specs.Code.Pour.{numbered, word_in, written_in, poured_by}

-- the bytes that a BIN has of a paragraph from byte f on, and zeros for the rest
module _ (bin : List ℕ) (f : ℕ) where
  abbrev from : ℕ
  from = min (length bin) f

  abbrev to : ℕ
  to = min (length bin) (f + 2 * paragraph_size)

  has : length (part bin from to) ≡ to - from
  has = length_part bin from to (omega arith)

  there : (j : ℕ) → j < 2 * paragraph_size → get_or (part bin from to ++ drop (to - from) (replicate (2 * paragraph_size) 0)) j 0 ≡ get_or bin (f + j) 0
  there j h =
      cases (ltb j (to - from))
      (λ q.
      let l : j < to - from = ltb-true j (to - from) q in
      let z : from ≡ f = omega arith in
      get_or-append (part bin from to) _ 0 j (omega (arith, has)) ∙ get_d_part bin from to j 0 (omega arith) ∙ ap (λ (n : ℕ). get_or bin (n + j) 0) z)
      (λ q.
      let l : to - from ≤ j = ltb-false j (to - from) q in
      zeros (j - (to - from)) (omega arith) ∙ sym (get_or-eq_default bin 0 (omega arith)))
    where
      zeros : (n : ℕ) → j ≡ to - from + n → get_or (part bin from to ++ drop (to - from) (replicate (2 * paragraph_size) 0)) j 0 ≡ 0
      zeros n e =
          rw e
          (rw has at (get_or-append-add (part bin from to) (drop (to - from) (replicate (2 * paragraph_size) 0)) n 0)
          ∙ get_or-drop (to - from) (replicate (2 * paragraph_size) 0) n 0
          ∙ get_or-replicate {A = ℕ} (2 * paragraph_size) (to - from + n) 0 0 (omega arith))

  pub bytes_are : (bytes : List ℕ) → bytes ≡ put_front (part bin from to) (replicate (2 * paragraph_size) 0)
      → (j : ℕ) → j < 2 * paragraph_size → get_or bytes j 0 ≡ get_or bin (f + j) 0
  bytes_are bytes e j h =
      let z : length {A = ℕ} (replicate (2 * paragraph_size) 0) ≡ 2 * paragraph_size = length-replicate {A = ℕ} (2 * paragraph_size) 0 in
      ap (λ (l : List ℕ). get_or l j 0)
      (e ∙ put_room (part bin from to) (replicate (2 * paragraph_size) 0) (omega (arith, has)) ∙ ap (λ (n : ℕ). part bin from to ++ drop n (replicate (2 * paragraph_size) 0)) has)
      ∙ there j h

pub word_is : (bin bytes : List ℕ) (w from' to' i v : ℕ) → from' ≡ min (length bin) (2 * w) → to' ≡ min (length bin) (2 * w + 2 * paragraph_size)
    → bytes ≡ put_front (part bin from' to') (replicate (2 * paragraph_size) 0) → i < paragraph_size → v ≡ get_or bytes (2 * i) 0 * 256 + get_or bytes (2 * i + 1) 0
    → v ≡ word_in bin (w + i)
unfolding word_in
word_is bin bytes w from' to' i v ef et eb h ev =
    let b : bytes ≡ put_front (part bin (from bin (2 * w)) (to bin (2 * w))) (replicate (2 * paragraph_size) 0) = rw (ef, et) at eb in
    let high : 2 * w + 2 * i ≡ 2 * (w + i) = omega arith in
    let low : 2 * w + (2 * i + 1) ≡ 2 * w + 2 * i + 1 = omega arith in
    rw (← high, ← low, ← bytes_are bin (2 * w) bytes b (2 * i) (omega arith), ← bytes_are bin (2 * w) bytes b (2 * i + 1) (omega arith)) ev

-- a paragraph of zeros
pub all_zeros : (words after : List ℕ) (v : ℕ → ℕ) → length words ≡ paragraph_size → after ≡ replicate (length words) 0 → ((i : ℕ) → 0 ≡ v i) → after ≡ table paragraph_size v
all_zeros words after v l e z =
    let r : after ≡ replicate paragraph_size 0 = rw l at e in
    r ∙ table_of 0 paragraph_size v (replicate paragraph_size 0) (length-replicate {A = ℕ} paragraph_size 0) (λ i h. get_or-replicate {A = ℕ} paragraph_size i 0 0 h ∙ z i)

-- where word w is the one of address a
pub words_named : (bin : List ℕ) (w : ℕ) (lo : BinWord) (at a : Console) → w ≡ (bin_place lo at a).0 → at.0 ≤ a.0
    → table paragraph_size (λ j. word_in bin (w + j)) ≡ table paragraph_size (λ j. bin_word bin (bin_place lo at (console (a.0 + j))))
unfolding word_in
words_named bin w lo at a e l =
    table_same 0 paragraph_size _ _ (λ j k. let z : w + j ≡ lo.0 + (a.0 + j - at.0) = omega arith in ap (word_in bin) z)

pub words_by : (bin : List ℕ) (e : Entry) (w : ℕ) (lo : BinWord) (at a : Console) (m : List ℕ)
    → ((hi : BinWord) × (e ≡ Rom lo hi at)) ⊎ ((hi : BinWord) × (y : Page) × (e ≡ Paged lo hi at y)) → first e ≤ a.0 → w ≡ (bin_place lo at a).0
    → m ≡ table paragraph_size (λ j. word_in bin (w + j)) → m ≡ table paragraph_size (λ j. written_by bin e (console (a.0 + j)))
words_by bin e w lo at a m (inl h) l ew em = let f : at.0 ≤ a.0 = rw h.1 at l in rw h.1 (em ∙ words_named bin w lo at a ew f)
words_by bin e w lo at a m (inr h) l ew em = let f : at.0 ≤ a.0 = rw h.2 at l in rw h.2 (em ∙ words_named bin w lo at a ew f)

-- the line of a number, and none
some_by : (b : Bool) (x l : Line) → Some l ≡ cond b None (Some x) → cond b none (some x) ≡ some l
some_by true x l e = cc
some_by false x l e = let q : x ≡ l = cc in rw q refl

none_by : (b : Bool) (x : Line) → None ≡ cond b None (Some x) → cond b none (some x) ≡ none
none_by true x e = refl
none_by false x e = cc

-- of a Locutus paragraph: those of its line, or zeros
module _ (bin : List ℕ) (lines : List Line) (s : Survey) (p n : ℕ) (en : n ≡ held_in s p) where
  held_words : (v : ℕ → ℕ) → ((i : ℕ) → v i ≡ written_of bin (line_of lines (held_in s p)) (console (paragraph_size * paragraph_in s p + i)))
      → table paragraph_size v ≡ table paragraph_size (λ i. written_in bin lines s (paragraph_size * p + i))
  unfolding written_in
  held_words v e =
      table_same 0 paragraph_size v (λ i. written_in bin lines s (paragraph_size * p + i))
      (λ i l.
      let y : (paragraph_size * p + i) / paragraph_size ≡ p = omega arith in
      let z : (paragraph_size * p + i) % paragraph_size ≡ i = omega arith in
      rw (y, z) (e i))

  pub line_words : (l : Line) (a : Console) (m : List ℕ) → Some l ≡ numbered lines n → a ≡ console (paragraph_size * paragraph_in s p)
      → m ≡ table paragraph_size (λ i. written_by bin l.entry (console (a.0 + i))) → m ≡ table paragraph_size (λ i. written_in bin lines s (paragraph_size * p + i))
  line_words l a m o ea em =
      let q : line_of lines (held_in s p) ≡ some l = rw en at (some_by (eqb n 0) (get_or lines (n - 1) no_line) l o) in
      em ∙ held_words _ (λ i. rw (q, ea))

  pub no_words : (words m : List ℕ) → None ≡ numbered lines n → length words ≡ paragraph_size → m ≡ replicate (length words) 0
      → m ≡ table paragraph_size (λ i. written_in bin lines s (paragraph_size * p + i))
  no_words words m o l e =
      let q : line_of lines (held_in s p) ≡ none = rw en at (none_by (eqb n 0) (get_or lines (n - 1) no_line) o) in
      all_zeros words m (λ i. 0) l e (λ i. refl) ∙ held_words _ (λ i. rw q)

-- of all pages
pub poured_as : (bin : List ℕ) (lines : List Line) (s : Survey) (n : ℕ) (ram after : List ℕ) → n ≡ min (page_paragraphs * s.pages) (length ram / paragraph_size)
    → after ≡ laid 0 (paragraph_size * n) (written_in bin lines s) ram → after ≡ poured_by bin lines s ram
unfolding poured_by
poured_as bin lines s n ram after e h = rw e at h
