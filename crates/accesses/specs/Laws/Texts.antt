-- Lists as texts (02, W-214): one that ends its last line, and another behind it.
use Rattle.std.specs.Prelude.{ℕ, List, [], ◌∷◌, ◌++◌, ◌≡◌, refl, Bool, true, false, cond, eqb, get_or}
use Rattle.std.proofs.Common.{append_assoc, sym, ap, ◌∙◌}
use Rattle.cart.specs.Run.{World, after, answers}
use Rattle.cart.specs.Laws.Run.{after_append}
use Rattle.text.specs.Bytes.{lf, cr_lf}
use Rattle.text.specs.Lines.{lines_of, on_first}
use Rattle.accesses.specs.Line.{line_says}
use Rattle.accesses.specs.Accesses.{said, accesses_in, accesses_of}
use Rattle.accesses.specs.Laws.Runs.{answers_append}

-- a line's bytes before the end of a text
abbrev Whole : List ℕ → List ℕ → Type 0
Whole s t = lines_of ((s ++ (lf ∷ [])) ++ t) ≡ lines_of (s ++ (lf ∷ [])) ++ lines_of t

first_some : (s : List ℕ) → (l : List ℕ) × ((ls : List (List ℕ)) × (lines_of (s ++ (lf ∷ [])) ≡ l ∷ ls))
unfolding lines_of
first_some [] = ([], ([], refl))
first_some (b ∷ s) = go (eqb b lf) (cr_lf b (get_or (s ++ (lf ∷ [])) 0 0)) (first_some s)
  where
    go : (t u : Bool) → (l : List ℕ) × ((ls : List (List ℕ)) × (lines_of (s ++ (lf ∷ [])) ≡ l ∷ ls))
        → (l : List ℕ) × ((ls : List (List ℕ)) × (cond t ([] ∷ lines_of (s ++ (lf ∷ []))) (cond u (lines_of (s ++ (lf ∷ []))) (on_first b (lines_of (s ++ (lf ∷ []))))) ≡ l ∷ ls))
    go true u r = ([], (lines_of (s ++ (lf ∷ [])), refl))
    go false true r = r
    go false false r = (b ∷ r.0, (r.1.0, ap (on_first b) r.1.1))

on_first_lem : (b : ℕ) (xs ys : List (List ℕ)) (l : List ℕ) (ls : List (List ℕ)) → xs ≡ l ∷ ls → on_first b (xs ++ ys) ≡ on_first b xs ++ ys
on_first_lem b xs ys l ls e = rw e

-- the byte behind the first is the same in both
next_same : (s t : List ℕ) → get_or ((s ++ (lf ∷ [])) ++ t) 0 0 ≡ get_or (s ++ (lf ∷ [])) 0 0
next_same [] t = refl
next_same (b ∷ s) t = refl

pub lines_whole : (s t : List ℕ) → Whole s t
unfolding lines_of
lines_whole [] t = refl
lines_whole (b ∷ s) t = rw (next_same s t, lines_whole s t) (go (eqb b lf) (cr_lf b (get_or (s ++ (lf ∷ [])) 0 0)))
  where
    xs : List (List ℕ)
    xs = lines_of (s ++ (lf ∷ []))

    go : (p u : Bool) → cond p ([] ∷ (lines_of (s ++ (lf ∷ [])) ++ lines_of t)) (cond u (lines_of (s ++ (lf ∷ [])) ++ lines_of t) (on_first b (lines_of (s ++ (lf ∷ [])) ++ lines_of t)))
        ≡ cond p ([] ∷ lines_of (s ++ (lf ∷ []))) (cond u (lines_of (s ++ (lf ∷ []))) (on_first b (lines_of (s ++ (lf ∷ []))))) ++ lines_of t
    go true u = refl
    go false true = refl
    go false false = let f = first_some s in on_first_lem b (lines_of (s ++ (lf ∷ []))) (lines_of t) f.0 f.1.0 f.1.1

accesses_append : (ls ms : List (List ℕ)) → accesses_in (ls ++ ms) ≡ accesses_in ls ++ accesses_in ms
unfolding accesses_in
accesses_append [] ms = refl
accesses_append (l ∷ ls) ms = ap (◌++◌ (said (line_says l))) (accesses_append ls ms) ∙ sym (append_assoc (said (line_says l)) (accesses_in ls) (accesses_in ms))

-- the accesses of two lists, one behind the other, where the first ends its last line; so running both is running the first, then the second
pub accesses_whole : (s t : List ℕ) → accesses_of ((s ++ (lf ∷ [])) ++ t) ≡ accesses_of (s ++ (lf ∷ [])) ++ accesses_of t
accesses_whole s t = ap accesses_in (lines_whole s t) ∙ accesses_append (lines_of (s ++ (lf ∷ []))) (lines_of t)

pub record TwoGoes (w : World) (s t : List ℕ) : Type 0 where
  pub after_both : after w (accesses_of (s ++ t)) ≡ after (after w (accesses_of s)) (accesses_of t)
  pub answers_both : answers w (accesses_of (s ++ t)) ≡ answers w (accesses_of s) ++ answers (after w (accesses_of s)) (accesses_of t)

pub two_goes : (w : World) (s t : List ℕ) → TwoGoes w (s ++ (lf ∷ [])) t
two_goes w s t =
    record {
      after_both = ap (after w) (accesses_whole s t) ∙ after_append w (accesses_of (s ++ (lf ∷ []))) (accesses_of t);
      answers_both = ap (answers w) (accesses_whole s t) ∙ answers_append w (accesses_of (s ++ (lf ∷ []))) (accesses_of t);
    }
