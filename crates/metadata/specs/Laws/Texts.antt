-- Texts by tag: what they are of a payload's sub-records, where they stand, and the n-th of two lists of them, one behind the other.
use Rattle.std.specs.Prelude.{ℕ, zero, suc, ◌-◌, ◌≤◌, ◌<◌, ◌≡◌, refl, List, [], ◌∷◌, ◌++◌, map, true, cond, ◌&&◌, length, leb, eqb, Result, Ok, Err, is_ok}
use Rattle.std.proofs.Common.{sym, ap, ◌∙◌, arith, le-leb}
use Rattle.std.proofs.lemmas.Bool.{lt-leb}
use Rattle.basics.specs.Lists.{part, Each, none, also}
use Rattle.basics.specs.Laws.Tests.{cases}
use Rattle.metadata.specs.declared.Span.{Span}
use Rattle.metadata.specs.Records.{Sub, tag_at, end_at, sub_at, span_at, whole_at, starts_from, starts, subs_of}
use Rattle.metadata.specs.Texts.{last_tag, texts_in, texts_of, seek_in}
use Rattle.metadata.specs.Laws.Walk.{whole_ends}

-- the texts of those of some sub-records that have the tag
abbrev pub with_tag : ℕ → List Sub → List (List ℕ)
with_tag tag [] = []
with_tag tag (r ∷ rs) = cond (leb tag last_tag && eqb r.tag tag) (r.text ∷ with_tag tag rs) (with_tag tag rs)

-- the bytes where a text stands
abbrev pub shown : List ℕ → Span → List ℕ
shown s x = part s x.from x.to

texts_shown : (tag : ℕ) (s ps : List ℕ) → map (shown s) (texts_in tag s ps) ≡ with_tag tag (map (sub_at s) ps)
unfolding texts_in
texts_shown tag s [] = refl
texts_shown tag s (p ∷ ps) =
    cases (leb tag last_tag && eqb (tag_at s p) tag) (λ e. rw e (ap (◌∷◌ (shown s (span_at s p))) (texts_shown tag s ps)))
    (λ e. rw e (texts_shown tag s ps))

-- what stands where the texts with a tag are is what the sub-records with that tag hold, in their order
pub texts_are : (tag : ℕ) (s : List ℕ) → map (shown s) (texts_of tag s) ≡ with_tag tag (subs_of s)
unfolding subs_of
texts_are tag s = texts_shown tag s (starts s)

-- no text has a tag that 001 does not name
pub texts_unnamed : (tag : ℕ) (s ps : List ℕ) → last_tag < tag → texts_in tag s ps ≡ []
unfolding texts_in
texts_unnamed tag s [] h = refl
texts_unnamed tag s (p ∷ ps) h = rw (lt-leb tag last_tag h) (texts_unnamed tag s ps h)

-- a text stands within its payload
pub record Within (n : ℕ) (x : Span) : Type 0 where
  pub ordered : x.from ≤ x.to
  pub inside : x.to ≤ n

texts_within : (f tag : ℕ) (s : List ℕ) (p : ℕ) → Each (Within (length s)) (texts_in tag s (starts_from f s p))
unfolding starts_from texts_in
texts_within zero tag s p = none
texts_within (suc f) tag s p = cases (whole_at s p) (λ w. rw w (more w (texts_within f tag s (end_at s p)))) (λ w. rw w none)
  where
    more : whole_at s p ≡ true → Each (Within (length s)) (texts_in tag s (starts_from f s (end_at s p)))
        → Each (Within (length s))
        (cond (leb tag last_tag && eqb (tag_at s p) tag) (span_at s p ∷ texts_in tag s (starts_from f s (end_at s p)))
        (texts_in tag s (starts_from f s (end_at s p))))
    more w r =
        let e : end_at s p ≤ length s = whole_ends s p w in
        cases (leb tag last_tag && eqb (tag_at s p) tag) (λ h. rw h (also {x = span_at s p} (record { ordered = omega arith; inside = omega arith }) r)) (λ h. rw h r)

pub within : (tag : ℕ) (s : List ℕ) → Each (Within (length s)) (texts_of tag s)
unfolding starts
within tag s = texts_within (length s) tag s 0

-- the n-th, by how many are to be passed
pub seek_zero : (xs : List Span) → seek_in 0 xs ≡ Err 0
unfolding seek_in
seek_zero [] = refl
seek_zero (x ∷ xs) = refl

pub seek_none : (n : ℕ) → seek_in n [] ≡ Err n
unfolding seek_in
seek_none n = refl

pub seek_first : (n : ℕ) (x : Span) (xs : List Span) → n ≡ 1 → seek_in n (x ∷ xs) ≡ Ok x
unfolding seek_in
seek_first n x xs e = rw e

pub seek_next : (n : ℕ) (x : Span) (xs : List Span) → 1 < n → seek_in n (x ∷ xs) ≡ seek_in (n - 1) xs
unfolding seek_in
seek_next zero x xs h = absurd (omega arith)
seek_next (suc zero) x xs h = absurd (omega arith)
seek_next (suc (suc n)) x xs h = let e : suc (suc n) - 1 ≡ suc n = omega arith in rw e

-- of texts in two parts: what the first part leaves to pass is asked of the second
abbrev pub on_sought : {A : Type 0} → Result Span ℕ → (ℕ → A) → (Span → A) → A
on_sought (Err k) left at = left k
on_sought (Ok x) left at = at x

pub seek_append : (n : ℕ) (xs ys : List Span) → seek_in n (xs ++ ys) ≡ on_sought (seek_in n xs) (λ k. seek_in k ys) Ok
unfolding seek_in
seek_append n [] ys = refl
seek_append zero (x ∷ xs) ys = sym (seek_zero ys)
seek_append (suc zero) (x ∷ xs) ys = refl
seek_append (suc (suc n)) (x ∷ xs) ys = seek_append (suc n) xs ys

-- texts behind never change an earlier answer
pub seek_behind : (n : ℕ) (x : Span) (xs ys : List Span) → seek_in n xs ≡ Ok x → seek_in n (xs ++ ys) ≡ Ok x
seek_behind n x xs ys q = seek_append n xs ys ∙ rw q

-- what is found is one of the texts
pub seek_holds : {P : Span → Type 0} (n : ℕ) (y : Span) (xs : List Span) → Each P xs → seek_in n xs ≡ Ok y → P y
unfolding seek_in
seek_holds n y [] none q = let z : ◌≡◌ {A = ℕ} 0 1 = cc in absurd (omega arith)
seek_holds zero y (x ∷ xs) (also h r) q = let z : ◌≡◌ {A = ℕ} 0 1 = cc in absurd (omega arith)
seek_holds (suc zero) y (x ∷ xs) (also h r) q = let i : x ≡ y = cc in rw (← i) h
seek_holds (suc (suc n)) y (x ∷ xs) (also h r) q = seek_holds (suc n) y xs r q

pub second : (xs : List Span) → is_ok (seek_in 2 xs) ≡ leb 2 (length xs)
unfolding seek_in
second [] = refl
second (x ∷ []) = refl
second (x ∷ y ∷ xs) = sym (le-leb 2 (length (x ∷ y ∷ xs)) (omega arith))
