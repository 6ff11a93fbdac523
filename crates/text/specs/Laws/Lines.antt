-- The lines of a text, one by one: where each ends, and that the next starts behind it.
use Rattle.std.specs.Prelude.{ℕ, suc, ◌+◌, ◌-◌, ◌<◌, ◌≤◌, List, [], ◌∷◌, ◌≡◌, refl, Bool, true, false, cond, eqb, ltb, length, get_or, drop, take}
use Rattle.std.proofs.Common.{ap, ◌∙◌, arith, drop_of_length-le, length-drop, drop-cons, drop-drop, get_or-drop, eq-eqb, ne_eqb, eqb-true, ltb-true, ltb-false}
use Rattle.std.proofs.Math.ListN.{get_or-eq_default}
use Rattle.std.proofs.lemmas.Bool.{eqb-false}
use Rattle.basics.specs.Lists.{part}
use Rattle.basics.specs.Laws.Tests.{cases, and_right, true_is_not_false}
use Rattle.text.specs.Bytes.{lf, cr, cr_lf, until}
use Rattle.text.specs.Lines.{ends, line_end, end_length, past_end, next_line, lines_of, on_first}
use Rattle.text.specs.Laws.Bytes.{until_most, until_passes}

-- the first line of a text that has bytes, and the lines after it
abbrev Cut : List ℕ → Type 0
Cut s = lines_of s ≡ take (until ends s) s ∷ lines_of (drop (until ends s + end_length (drop (until ends s) s)) s)

-- of a byte that neither ends a line nor is a CR before LF, and of what stands behind it
cut_plain : (b : ℕ) (s : List ℕ) → on_first b (lines_of s) ≡ (b ∷ take (until ends s) s) ∷ lines_of (drop (until ends s + end_length (drop (until ends s) s)) s)
    → eqb b lf ≡ false → cr_lf b (get_or s 0 0) ≡ false → Cut (b ∷ s)
unfolding lines_of until
cut_plain b s h e f =
    let m : suc (until ends s) + end_length (drop (until ends s) s) ≡ suc (until ends s + end_length (drop (until ends s) s)) = omega arith in
    rw (e, f, m) h

cut_cr : (b : ℕ) (s : List ℕ) → eqb b lf ≡ false → cr_lf b (get_or s 0 0) ≡ true → Cut (b ∷ s)
unfolding lines_of until
cut_cr b [] e f = true_is_not_false (and_right (eqb b cr) (eqb 0 lf) f) refl
cut_cr b (c ∷ s) e f = rw (e, f, and_right (eqb b cr) (eqb c lf) f, e)

cut_lf : (b : ℕ) (s : List ℕ) → eqb b lf ≡ true → Cut (b ∷ s)
unfolding lines_of until
cut_lf b s e = rw (e, e)

cut_first : (b : ℕ) (s : List ℕ) → on_first b (lines_of s) ≡ (b ∷ take (until ends s) s) ∷ lines_of (drop (until ends s + end_length (drop (until ends s) s)) s) → Cut (b ∷ s)
cut_first b s h = cases (eqb b lf) (cut_lf b s) (λ e. cases (cr_lf b (get_or s 0 0)) (cut_cr b s e) (cut_plain b s h e))

first_line : (b : ℕ) (s : List ℕ) → Cut (b ∷ s)
unfolding lines_of until
first_line b [] = cut_first b [] refl
first_line b (c ∷ s) = cut_first b (c ∷ s) (ap (on_first b) (first_line c s))

-- the lines from a place on are the one that stands there and those from the next on
pub line_at_lem : (s : List ℕ) (at : ℕ) → at < length s → lines_of (drop at s) ≡ part s at (line_end s at) ∷ lines_of (drop (next_line s at) s)
line_at_lem s at l =
    let c : Cut (drop at s) = rw (drop-cons s at 0 l) (first_line (get_or s at 0) (drop (suc at) s)) in
    let k : line_end s at - at ≡ until ends (drop at s) = omega arith in
    let m : at + (until ends (drop at s) + end_length (drop (line_end s at) s)) ≡ next_line s at = omega arith in
    c ∙ rw (k, drop-drop, drop-drop, m)

pub no_lines : (s : List ℕ) (at : ℕ) → length s ≤ at → lines_of (drop at s) ≡ []
unfolding lines_of
no_lines s at h = rw (drop_of_length-le s h)

-- a line ends within the text, and the next one starts further on
pub end_within : (s : List ℕ) (at : ℕ) → at ≤ length s → line_end s at ≤ length s
end_within s at h = omega (arith, until_most ends (drop at s), length-drop at s)

ends_at : (s : List ℕ) (at : ℕ) → line_end s at < length s → ends (get_or s (line_end s at) 0) (get_or s (suc (line_end s at)) 0) ≡ true
ends_at s at l =
    let p = until_passes ends (drop at s) (omega (arith, length-drop at s)) in
    let m : at + suc (until ends (drop at s)) ≡ suc (line_end s at) = omega arith in
    rw (get_or-drop, get_or-drop, m) at p

-- an LF is a byte of the text
pub stands : (s : List ℕ) (i : ℕ) → eqb (get_or s i 0) lf ≡ true → i < length s
stands s i e =
    cases (ltb i (length s)) (ltb-true i (length s))
    (λ f. let z : get_or s i 0 ≡ 0 = get_or-eq_default s 0 {n = i} (ltb-false i (length s) f) in absurd (omega (arith, eqb-true (get_or s i 0) lf e)))

-- where no LF ends a line, CR LF does, and both stand in the text
pub end_cr : (s : List ℕ) (at : ℕ) → line_end s at < length s → (get_or s (line_end s at) 0 ≡ lf → ⊥) → line_end s at + 2 ≤ length s
end_cr s at l n =
    let c : cr_lf (get_or s (line_end s at) 0) (get_or s (suc (line_end s at)) 0) ≡ true = rw (ne_eqb (get_or s (line_end s at) 0) lf n) at (ends_at s at l) in
    omega (arith, stands s (suc (line_end s at)) (and_right (eqb (get_or s (line_end s at) 0) cr) (eqb (get_or s (suc (line_end s at)) 0) lf) c))

-- the end of a line, and what stands there
module _ (s : List ℕ) (e : ℕ) where
  pub past_none : length s ≤ e → e ≡ past_end s e
  past_none h = let z : end_length (drop e s) ≡ 0 = rw (drop_of_length-le s h) in omega arith

  length_at : e < length s → end_length (drop e s) ≡ cond (eqb (get_or s e 0) lf) 1 2
  length_at l = rw (drop-cons s e 0 l)

  pub past_lf : e < length s → get_or s e 0 ≡ lf → e + 1 ≡ past_end s e
  past_lf l h = omega (arith, rw (eq-eqb (get_or s e 0) lf h) at (length_at l))

  pub past_cr : e < length s → (get_or s e 0 ≡ lf → ⊥) → e + 2 ≡ past_end s e
  past_cr l h = omega (arith, rw (ne_eqb (get_or s e 0) lf h) at (length_at l))

pub next_within : (s : List ℕ) (at : ℕ) → at < length s → (at < next_line s at) × (next_line s at ≤ length s)
next_within s at l =
    let m : line_end s at ≤ length s = end_within s at (omega arith) in
    cases (ltb (line_end s at) (length s))
    (λ e.
    let k : line_end s at < length s = ltb-true _ _ e in
    cases (eqb (get_or s (line_end s at) 0) lf)
    (λ f. let z = past_lf s (line_end s at) k (eqb-true _ _ f) in (omega arith, omega arith))
    (λ f.
    let n : get_or s (line_end s at) 0 ≡ lf → ⊥ = eqb-false _ _ f in
    let z = past_cr s (line_end s at) k n in
    (omega arith, omega (arith, end_cr s at k n))))
    (λ e.
    let k : length s ≤ line_end s at = ltb-false _ _ e in
    let z = past_none s (line_end s at) k in
    (omega arith, omega arith))

-- a text has no more lines than bytes
on_first_lem : (b : ℕ) (ls : List (List ℕ)) → length (on_first b ls) ≤ suc (length ls)
on_first_lem b [] = omega arith
on_first_lem b (l ∷ ls) = omega arith

pub lines_most : (s : List ℕ) → length (lines_of s) ≤ length s
unfolding lines_of
lines_most [] = omega arith
lines_most (b ∷ s) = go (eqb b lf) (cr_lf b (get_or s 0 0)) (lines_most s)
  where
    go : (t u : Bool) → length (lines_of s) ≤ length s → length (cond t ([] ∷ lines_of s) (cond u (lines_of s) (on_first b (lines_of s)))) ≤ suc (length s)
    go true u h = omega arith
    go false true h = omega arith
    go false false h = omega (arith, on_first_lem b (lines_of s))
