-- Which line holds an address: what is known of a line that was found, and addresses at which the same line is found.
use Rattle.std.specs.Prelude.{ℕ, ◌<◌, zero, suc, ◌≤◌, List, [], ◌∷◌, ◌++◌, ◌≡◌, refl, true, ◌&&◌, length, get_or, leb, eqb}
use Rattle.std.proofs.Math.Option.{some, Option}
use Rattle.std.proofs.Common.{arith, leb-true, le-leb, eqb-true}
use Rattle.basics.specs.Laws.Tests.{and_left, and_right, true_is_not_false, cases}
use Rattle.lines.specs.declared.Entry.{Entry}
use Rattle.lines.specs.declared.Line.{Line}
use Rattle.lines.specs.declared.Entry.TheVariants.{Rom, Paged, Ram}
use Rattle.lines.specs.Typed.{All, nil, cons}
use Rattle.lines.specs.Lines.{first, last, holds, is_ram, layer, line_at}

-- each line by its number, and one line more
pub all_at : {P : Entry → Type 0} {lines : List Line} → All P lines → (d : Line) (i : ℕ) → i < length lines → P (get_or lines i d).entry
all_at nil d i h = absurd (omega arith)
all_at (cons p ps) d zero h = p
all_at (cons p ps) d (suc i) h = all_at ps d i (omega arith)

pub all_end : {P : Entry → Type 0} {lines : List Line} (l : Line) → All P lines → P l.entry → All P (lines ++ (l ∷ []))
all_end l nil p = cons p nil
all_end l (cons q qs) p = cons q (all_end l qs p)

-- a fact that another one gives
pub all_map : {P Q : Entry → Type 0} {lines : List Line} → ((e : Entry) → P e → Q e) → All P lines → All Q lines
all_map f nil = nil
all_map f (cons {l = l} p ps) = cons (f l.entry p) (all_map f ps)

-- an address within a line
pub record Within (e : Entry) (a : ℕ) : Type 0 where
  pub from : first e ≤ a
  pub to : a ≤ last e

pub within : (e : Entry) (a : ℕ) → holds e a ≡ true → Within e a
unfolding holds
within e a h =
    record {
      from = leb-true (first e) a (and_left _ _ h);
      to = leb-true a (last e) (and_right (leb (first e) a) _ h);
    }

pub holding : (e : Entry) (a : ℕ) → Within e a → holds e a ≡ true
unfolding holds
holding e a w = simp (le-leb _ _ w.from, le-leb _ _ w.to)

-- a RAM line is plain
pub ram_plain : (e : Entry) → is_ram e ≡ true → layer e ≡ 0
ram_plain (Rom lo hi at) h = refl
ram_plain (Paged lo hi at y) h = true_is_not_false h refl
ram_plain (Ram lo hi w) h = refl

-- a line that was found
pub record Found (P : Entry → Type 0) (t a : ℕ) (l : Line) : Type 0 where
  pub on : layer l.entry ≡ t
  pub here : Within l.entry a
  pub is : P l.entry

pub found : {P : Entry → Type 0} {lines : List Line} → All P lines → (t a : ℕ) (l : Line) → line_at lines t a ≡ some l → Found P t a l
found nil t a l e = let z : ◌≡◌ {A = ℕ} 0 1 = cc in absurd (omega arith)
found {P} (cons {l = m} {ls = ls} p ps) t a l e =
    cases (eqb (layer m.entry) t && holds m.entry a)
    (λ h.
    let q : some m ≡ some l = simp h at e in
    let r : m ≡ l = cc in
    let f : Found P t a m =
    record {
      on = eqb-true _ _ (and_left (eqb (layer m.entry) t) (holds m.entry a) h);
      here = within m.entry a (and_right (eqb (layer m.entry) t) (holds m.entry a) h);
      is = p;
    } in
    rw r at f)
    (λ h. found ps t a l (simp h at e))

-- two lines found at one place are one
pub one_found : {o : Option Line} (l m : Line) → o ≡ some l → o ≡ some m → l ≡ m
one_found l m e f = cc

-- the same line is found at two addresses that no line of the layer tells apart
pub same_line :
    {P : Entry → Type 0} {lines : List Line} → All P lines → (t a b : ℕ) →
    ((e : Entry) → P e → layer e ≡ t → holds e a ≡ holds e b) → line_at lines t a ≡ line_at lines t b
same_line nil t a b f = refl
same_line (cons {l = l} {ls = ls} p ps) t a b f =
    cases (eqb (layer l.entry) t) (λ h. simp (h, f l.entry p (eqb-true _ _ h), same_line ps t a b f))
    (λ h. simp (h, same_line ps t a b f))
