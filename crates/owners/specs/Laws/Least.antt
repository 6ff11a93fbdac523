-- The least of several numbers, 0 standing for none: in any order, each as often as one likes.
use Rattle.std.specs.Prelude.{ℕ, zero, suc, ◌<◌, min, Bool, true, false, ◌||◌, ◌≡◌, refl, eqb, ltb}
use Rattle.std.proofs.Common.{sym, ap, ◌∙◌, arith, ne_eqb, eqb-true, ltb-true, ltb-false}
use Rattle.basics.specs.Counts.{any}
use Rattle.basics.specs.Laws.Tests.{cases}
use Rattle.owners.specs.Owners.{only, or_else, lesser, least_of}

pub else_none : (m : ℕ) → or_else m 0 ≡ m
else_none m = cases (eqb m 0) (λ e. rw e (sym (eqb-true m 0 e))) (λ e. rw e)

pub else_assoc : (a b c : ℕ) → or_else (or_else a b) c ≡ or_else a (or_else b c)
else_assoc a b c = cases (eqb a 0) (λ e. rw e) (λ e. rw (e, e))

pub only_none : (b : Bool) → only b 0 ≡ 0
only_none true = refl
only_none false = refl

pub lesser_none : (m : ℕ) → lesser m 0 ≡ m
lesser_none m = cases (eqb m 0) (λ e. rw e (sym (eqb-true m 0 e))) (λ e. rw e)

lesser_some : (m n : ℕ) → lesser (suc m) (suc n) ≡ suc (min m n)
lesser_some m n =
    simp (ne_eqb (suc m) 0 (omega arith), ne_eqb (suc n) 0 (omega arith))
    (cases (ltb (suc m) (suc n)) (λ l. rw l (omega (arith, ltb-true (suc m) (suc n) l))) (λ l. rw l (omega (arith, ltb-false (suc m) (suc n) l))))

pub lesser_same : (m : ℕ) → lesser m m ≡ m
lesser_same zero = refl
lesser_same (suc m) = lesser_some m m ∙ ap suc (omega arith)

pub lesser_comm : (m n : ℕ) → lesser m n ≡ lesser n m
lesser_comm zero n = sym (lesser_none n)
lesser_comm (suc m) zero = lesser_none (suc m)
lesser_comm (suc m) (suc n) = lesser_some m n ∙ ap suc (omega arith) ∙ sym (lesser_some n m)

pub lesser_assoc : (a b c : ℕ) → lesser (lesser a b) c ≡ lesser a (lesser b c)
lesser_assoc zero b c = refl
lesser_assoc (suc a) zero c = rw (lesser_none (suc a))
lesser_assoc (suc a) (suc b) zero = rw (lesser_none (suc b)) (lesser_none (lesser (suc a) (suc b)))
lesser_assoc (suc a) (suc b) (suc c) =
    rw (lesser_some a b, lesser_some b c) (lesser_some (min a b) c ∙ ap suc (omega arith) ∙ sym (lesser_some a (min b c)))

lesser_four : (a b c d : ℕ) → lesser (lesser a b) (lesser c d) ≡ lesser (lesser a c) (lesser b d)
lesser_four a b c d =
    lesser_assoc a b (lesser c d)
    ∙ ap (lesser a) (sym (lesser_assoc b c d) ∙ ap (λ (i : ℕ). lesser i d) (lesser_comm b c) ∙ lesser_assoc c b d)
    ∙ sym (lesser_assoc a c (lesser b d))

pub only_or : (a b : Bool) (s : ℕ) → lesser (only a s) (only b s) ≡ only (a || b) s
only_or true true s = lesser_same s
only_or true false s = lesser_none s
only_or false b s = refl

pub lesser_both : (a b : Bool) (s m n : ℕ) → lesser (lesser (only a s) m) (lesser (only b s) n) ≡ lesser (only (a || b) s) (lesser m n)
lesser_both a b s m n = lesser_four (only a s) m (only b s) n ∙ ap (λ (i : ℕ). lesser i (lesser m n)) (only_or a b s)

-- of several places
pub least_same : (n : ℕ) (f g : ℕ → ℕ) → ((p : ℕ) → p < n → f p ≡ g p) → least_of n f ≡ least_of n g
unfolding least_of
least_same zero f g h = refl
least_same (suc n) f g h = rw (h n (omega arith), least_same n f g (λ p l. h p (omega arith)))

pub least_join : (n : ℕ) (f g : ℕ → ℕ) → least_of n (λ p. lesser (f p) (g p)) ≡ lesser (least_of n f) (least_of n g)
unfolding least_of
least_join zero f g = refl
least_join (suc n) f g = ap (lesser (lesser (f n) (g n))) (least_join n f g) ∙ lesser_four (f n) (g n) (least_of n f) (least_of n g)

pub least_only : (n : ℕ) (f : ℕ → Bool) (s : ℕ) → least_of n (λ p. only (f p) s) ≡ only (any n f) s
unfolding least_of any
least_only zero f s = refl
least_only (suc n) f s = ap (lesser (only (f n) s)) (least_only n f s) ∙ only_or (f n) (any n f) s

pub least_nobody : (n : ℕ) (f : ℕ → ℕ) → ((p : ℕ) → p < n → f p ≡ 0) → least_of n f ≡ 0
unfolding least_of
least_nobody zero f h = refl
least_nobody (suc n) f h = rw (h n (omega arith), least_nobody n f (λ p l. h p (omega arith)))
