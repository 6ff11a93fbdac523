-- Tables compared by `==`: they are the same where they agree at each place.
use Rattle.std.specs.Prelude.{◌≤◌, take, ℕ, zero, suc, List, [], ◌∷◌, length, get_or, eqb, Bool, true, false, ◌&&◌, ◌≡◌, refl}
use Rattle.std.proofs.Common.{◌∙◌, ap, sym, arith, take_all}
use Rattle.std.proofs.lemmas.List.{length-take}
use Rattle.std.specs.Cmp.Lexicographic.{pointwise}
use Rattle.basics.specs.Counts.{all}
use Rattle.basics.specs.Laws.Ranges.{all_first}
use Rattle.places.specs.Limits.{line_limit}
use Rattle.rebuild.specs.Fits.{agree}

pub same_agree : (n : ℕ) (a b : List ℕ) → length a ≡ n → length b ≡ n → pointwise eqb a b ≡ agree n a b
unfolding all
same_agree zero [] [] ea eb = refl
same_agree zero [] (y ∷ b) ea eb = absurd (omega arith)
same_agree zero (x ∷ a) b ea eb = absurd (omega arith)
same_agree (suc n) [] b ea eb = absurd (omega arith)
same_agree (suc n) (x ∷ a) [] ea eb = absurd (omega arith)
same_agree (suc n) (x ∷ a) (y ∷ b) ea eb =
    ap (λ (r : Bool). eqb x y && r) (same_agree n a b (omega arith) (omega arith))
    ∙ sym (all_first n (λ i. eqb (get_or (x ∷ a) i 0) (get_or (y ∷ b) i 0)))

-- a test joined to another by `&&`, as the code asks it; and three tables joined, between a bound and marks
pub joined_yes : (t e v r : Bool) → t ≡ true → v ≡ r → r ≡ e → v ≡ (t && e)
joined_yes t e v r h k l = rw h (k ∙ l)

pub joined_no : (t e v : Bool) → t ≡ false → v ≡ false → v ≡ (t && e)
joined_no t e v h k = rw h k

module _ (l a b c m v w x : Bool) (ev : v ≡ (l && a)) (ew : w ≡ (v && b)) (ex : x ≡ (w && c)) where
  together : (l a b c m : Bool) → ((((l && a) && b) && c) && m) ≡ (l && ((a && (b && c)) && m))
  together true true true c m = refl
  together true true false c m = refl
  together true false b c m = refl
  together false a b c m = refl

  all_of : x && m ≡ (l && ((a && (b && c)) && m))
  all_of = rw (ex, ew, ev) (together l a b c m)

  pub drawn_yes : (r : Bool) → x ≡ true → r ≡ m → r ≡ (l && ((a && (b && c)) && m))
  drawn_yes r h k = k ∙ ap (λ (y : Bool). y && m) (sym h) ∙ all_of

  pub drawn_no : x ≡ false → x ≡ (l && ((a && (b && c)) && m))
  drawn_no h = h ∙ ap (λ (y : Bool). y && m) (sym h) ∙ all_of

-- two tests joined, and one behind them
module _ (q b m v : Bool) (ev : v ≡ (q && b)) where
  behind : (q b m : Bool) → (q && b) && m ≡ (q && (b && m))
  behind true b m = refl
  behind false b m = refl

  pub listed_yes : (r : Bool) → v ≡ true → r ≡ m → r ≡ (q && (b && m))
  listed_yes r h k = k ∙ ap (λ (y : Bool). y && m) (sym h) ∙ rw ev (behind q b m)

  pub listed_no : v ≡ false → v ≡ (q && (b && m))
  listed_no h = h ∙ ap (λ (y : Bool). y && m) (sym h) ∙ rw ev (behind q b m)

-- so few lines are drawn, all of them
pub few_lines : {A : Type 0} (n : ℕ) (ls : List A) → n ≤ line_limit → take line_limit (take n ls) ≡ take n ls
few_lines n ls h = take_all line_limit (take n ls) (omega (arith, length-take n ls))
