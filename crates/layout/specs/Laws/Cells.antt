-- The line of each cell, line by line: a line more takes the cells that it holds and that are free.
use Rattle.std.specs.Prelude.{ℕ, ◌+◌, ◌*◌, ◌-◌, ◌/◌, ◌%◌, ◌<◌, ◌≤◌, suc, List, [], ◌∷◌, ◌++◌, ◌≡◌, refl, Bool, false, cond, ◌&&◌, not, ◌⊎◌, length, get_or, replicate, eqb}
use Rattle.std.proofs.Common.{sym, ◌∙◌, inl, inr, arith}
use Rattle.std.proofs.Math.Bool.{true}
use Rattle.std.proofs.Math.Option.{Option, none, some}
use Rattle.std.proofs.lemmas.List.{length-replicate, get_or-replicate}
use Rattle.std.proofs.Math.Dec.{ltb}
use borrow.Author.Tests.{eqb-true, eqb-false, ne_eqb, lt-ltb, ltb-true, ltb-false}
use Rattle.basics.specs.Options.{is_some}
use Rattle.basics.specs.Lists.{laid}
use Rattle.basics.specs.Laws.Lists.{length_laid, laid_in, laid_out}
use Rattle.basics.specs.Laws.Tests.{cases, and_right}
use Rattle.places.specs.Limits.{cells, layers, paragraphs, paragraph_size}
use Rattle.lines.specs.declared.Line.{Line}
use Rattle.lines.specs.declared.Entry.{Entry}
use Rattle.lines.specs.Lines.{layer, holds, line_at}
use Rattle.layout.specs.Code.Survey.{no_line, line_of, takes, claimed, Cells}

pub some_line : (ls : List Line) (n : ℕ) → is_some (line_of ls n) ≡ not (eqb n 0)
some_line ls n = cases (eqb n 0) (λ h. rw h) (λ h. rw h)

-- an entry stands on a layer and holds an address
abbrev there : Entry → ℕ → ℕ → Bool
there e t a = eqb (layer e) t && holds e a

-- the line that is found holds the address
pub line_here : (ls : List Line) (t a : ℕ) (l : Line) → line_at ls t a ≡ some l → holds l.entry a ≡ true
line_here [] t a l e = let z : ◌≡◌ {A = ℕ} 0 1 = cc in absurd (omega arith)
line_here (m ∷ ls) t a l e = cases (there m.entry t a) (λ h. here h) (λ h. line_here ls t a l (simp h at e))
  where
    here : there m.entry t a ≡ true → holds l.entry a ≡ true
    here h =
        let q : some m ≡ some l = simp h at e in
        let r : m ≡ l = cc in
        rw (← r) (and_right (eqb (layer m.entry) t) (holds m.entry a) h)

-- one line more
more_by : (b : Bool) (o : Option Line) (l m : Line) (c : Bool)
    → cond b (some m) (cond (is_some o) o (cond c (some l) none)) ≡ cond (is_some (cond b (some m) o)) (cond b (some m) o) (cond c (some l) none)
more_by true o l m c = refl
more_by false o l m c = refl

line_more : (ls : List Line) (l : Line) (t a : ℕ)
    → line_at (ls ++ (l ∷ [])) t a ≡ cond (is_some (line_at ls t a)) (line_at ls t a) (cond (there l.entry t a) (some l) none)
line_more [] l t a = refl
line_more (m ∷ ls) l t a = rw (line_more ls l t a) (more_by (there m.entry t a) (line_at ls t a) l m (there l.entry t a))

-- a cell after a claim
module _ (e : Entry) (number : ℕ) (o : List ℕ) (long : length o ≡ cells) (i : ℕ) (h : i < cells) where
  abbrev word : ℕ → ℕ
  word p = takes (holds e (paragraph_size * p)) number (get_or o (paragraphs * layer e + p) 0)

  on_layer : layer e ≡ i / paragraphs → get_or (laid (paragraphs * layer e) paragraphs word o) i 0 ≡ takes (holds e (paragraph_size * (i % paragraphs))) number (get_or o i 0)
  on_layer q =
      let z : paragraphs * layer e + i % paragraphs ≡ i = omega arith in
      rw z at (laid_in (paragraphs * layer e) word o paragraphs (i % paragraphs) (omega arith) (omega arith))

  off : (layer e ≡ i / paragraphs → ⊥) → get_or (laid (paragraphs * layer e) paragraphs word o) i 0 ≡ get_or o i 0
  off q = laid_out (paragraphs * layer e) word o paragraphs i (side (ltb i (paragraphs * layer e)) refl)
    where
      side : (b : Bool) → ltb i (paragraphs * layer e) ≡ b → (i < paragraphs * layer e) ⊎ (paragraphs * layer e + paragraphs ≤ i)
      side true b = inl (ltb-true _ _ b)
      side false b = inr (omega (arith, ltb-false i (paragraphs * layer e) b))

  pub claimed_at : get_or (claimed e number o) i 0 ≡ takes (there e (i / paragraphs) (paragraph_size * (i % paragraphs))) number (get_or o i 0)
  unfolding claimed
  claimed_at =
      cases (eqb (layer e) (i / paragraphs))
      (λ q.
      let s : layer e ≡ i / paragraphs = eqb-true _ _ q in
      let l : ltb (layer e) layers ≡ true = lt-ltb (layer e) layers (omega arith) in
      rw (l, q) (on_layer s))
      (λ q.
      let s : layer e ≡ i / paragraphs → ⊥ = eqb-false _ _ q in
      rw q (cases (ltb (layer e) layers) (λ l. rw l (off s)) (λ l. rw l)))

pub length_claimed : (e : Entry) (number : ℕ) (o : List ℕ) → length (claimed e number o) ≡ length o
unfolding claimed
length_claimed e number o = cases (ltb (layer e) layers) (λ l. rw l (length_laid (paragraphs * layer e) _ o paragraphs)) (λ l. rw l)

module _ (all : List Line) where
  pub cells_none : Cells all [] (replicate cells 0)
  cells_none =
      record {
        long = length-replicate {A = ℕ} cells 0;
        few = record { each = λ i h. rw (get_or-replicate {A = ℕ} cells i 0 0 h) (omega arith) };
        line = λ i h. rw (get_or-replicate {A = ℕ} cells i 0 0 h);
      }

  module _ (ls : List Line) (o : List ℕ) (w : Cells all ls o) (l : Line) (number : ℕ) (most : suc number ≤ length all) (is : get_or all number no_line ≡ l) where
    few_by : (b : Bool) (n : ℕ) → n ≤ length all → cond b (suc number) n ≤ length all
    few_by true n h = most
    few_by false n h = h

    own : line_of all (suc number) ≡ some l
    own = let z : suc number - 1 ≡ number = omega arith in rw (ne_eqb (suc number) 0 (omega arith), z, is)

    -- the cell of number n, taken where the line is there
    line_by : (c : Bool) (n : ℕ) → line_of all (takes c (suc number) n) ≡ cond (is_some (line_of all n)) (line_of all n) (cond c (some l) none)
    line_by true n = cases (eqb n 0) (λ q. rw q own) (λ q. rw (q, q))
    line_by false n = cases (eqb n 0) (λ q. rw q) (λ q. rw q)

    pub cells_more : Cells all (ls ++ (l ∷ [])) (claimed l.entry (suc number) o)
    cells_more =
        record {
          long = length_claimed l.entry (suc number) o ∙ w.long;
          few = record { each = λ i h. rw (claimed_at l.entry (suc number) o w.long i h) (few_by (there l.entry (i / paragraphs) (paragraph_size * (i % paragraphs)) && eqb (get_or o i 0) 0) (get_or o i 0) (w.few.each i h)) };
          line =
              λ i h.
              rw (claimed_at l.entry (suc number) o w.long i h)
              (line_by (there l.entry (i / paragraphs) (paragraph_size * (i % paragraphs))) (get_or o i 0)
              ∙ rw (w.line i h) (sym (line_more ls l (i / paragraphs) (paragraph_size * (i % paragraphs)))));
        }
