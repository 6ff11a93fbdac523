-- Named words beside marks: word by word, and paragraph by paragraph.
use Rattle.std.specs.Prelude.{◌*◌, ◌+◌, ◌/◌, suc, zero, ℕ, List, ◌≡◌, refl, Bool, ◌&&◌, cond, false, not, true, get_or}
use Rattle.std.proofs.Common.{◌∙◌, sym, arith, mul-suc}
use Rattle.std.proofs.Math.Bool.{and_assoc}
use Rattle.basics.specs.Counts.{all}
use Rattle.basics.specs.Laws.Counts.{all_same}
use Rattle.basics.specs.Laws.Tables.{get_d_table}
use Rattle.basics.specs.Tables.{table}
use Rattle.places.specs.Limits.{locutus_paragraphs, paragraph_size}
use Rattle.retrace.specs.Code.Named.{named_in, word_named}
use Rattle.rebuild.specs.Code.Retraced.{marks_fit, unnamed_in}

-- the first n places and those behind them; m parts of n places
all_add : (f : ℕ → Bool) (n m : ℕ) → all (n + m) f ≡ all m (λ i. f (n + i)) && all n f
unfolding all
all_add f n zero = let e : n + 0 ≡ n = omega arith in rw e
all_add f n (suc m) =
    let e : n + suc m ≡ suc (n + m) = omega arith in
    rw (e, all_add f n m) (sym (and_assoc (f (n + m)) (all m (λ i. f (n + i))) (all n f)))

all_parts : (n m : ℕ) (f : ℕ → Bool) → all (n * m) f ≡ all m (λ p. all n (λ i. f (n * p + i)))
unfolding all
all_parts n zero f = let e : n * 0 ≡ 0 = omega arith in rw e
all_parts n (suc m) f = rw (mul-suc n m, all_add f (n * m) n, all_parts n m f)

word_by_lem : (a b : Bool) → cond a b (not b) ≡ cond b a (not a)
word_by_lem true true = refl
word_by_lem true false = refl
word_by_lem false true = refl
word_by_lem false false = refl

-- each of n words is named where the mark says so
by_mark : (b : Bool) (n : ℕ) (f : ℕ → Bool) → all n (λ i. cond (f i) b (not b)) ≡ cond b (all n f) (all n (λ i. not (f i)))
by_mark true n f = all_same n _ f (λ i h. word_by_lem (f i) true)
by_mark false n f = all_same n _ (λ i. not (f i)) (λ i h. word_by_lem (f i) false)

module _ (zs os : List ℕ) (drawn : List Bool) where
  -- paragraph p, whose words all have its mark
  paragraph_fits : (p : ℕ) → all paragraph_size (λ i. cond (word_named zs os (paragraph_size * p + i)) (get_or drawn ((paragraph_size * p + i) / paragraph_size) false) (not (get_or drawn ((paragraph_size * p + i) / paragraph_size) false)))
      ≡ cond (get_or drawn p false) (named_in zs os p) (unnamed_in zs os p)
  paragraph_fits p =
      all_same paragraph_size _ (λ i. cond (word_named zs os (paragraph_size * p + i)) (get_or drawn p false) (not (get_or drawn p false)))
      (λ i h. let e : (paragraph_size * p + i) / paragraph_size ≡ p = omega arith in rw e)
      ∙ by_mark (get_or drawn p false) paragraph_size (λ i. word_named zs os (paragraph_size * p + i))

  -- where the marks of the named paragraphs are known
  pub names_by : (named : List Bool) (r : Bool) → named ≡ table locutus_paragraphs (named_in zs os)
      → r ≡ all locutus_paragraphs (λ p. cond (get_or drawn p false) (get_or named p false) (unnamed_in zs os p)) → r ≡ marks_fit drawn (word_named zs os)
  names_by named r e er =
      er
      ∙ all_same locutus_paragraphs _ _ (λ p h. rw (e, get_d_table false locutus_paragraphs (named_in zs os) p h) (sym (paragraph_fits p)))
      ∙ sym (all_parts paragraph_size locutus_paragraphs _)
