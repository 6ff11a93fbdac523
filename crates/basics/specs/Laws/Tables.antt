-- Tables: a list that is made of a function of the place, and one that is filled from its first place on.
use Rattle.std.specs.Prelude.{ℕ, zero, suc, ◌<◌, ◌+◌, ◌≤◌, ◌≡◌, refl, List, length, get_or, set, eqb, ltb}
use Rattle.std.proofs.Common.{ap, ◌∙◌, sym, arith, length-set, ext_get_or, get_or-set_same, get_or-set_other, eqb-true, ltb-true, ltb-false}
use Rattle.std.proofs.Math.ListN.{get_or-eq_default}
use Rattle.std.proofs.lemmas.Bool.{eqb-false}
use Rattle.basics.specs.Tables.{made, table}
use Rattle.basics.specs.Laws.Tests.{cases}

length_made : {A : Type 0} (i n : ℕ) (f : ℕ → A) → length (made i n f) ≡ n
unfolding made
length_made i zero f = refl
length_made i (suc n) f = ap suc (length_made (suc i) n f)

get_d_made : {A : Type 0} (d : A) (i n : ℕ) (f : ℕ → A) (j : ℕ) → j < n → get_or (made i n f) j d ≡ f (i + j)
unfolding made
get_d_made d i zero f j h = absurd (omega arith)
get_d_made d i (suc n) f zero h = ap f (omega arith)
get_d_made d i (suc n) f (suc j) h = get_d_made d (suc i) n f j (omega arith) ∙ ap f (omega arith)

pub length_table : {A : Type 0} (n : ℕ) (f : ℕ → A) → length (table n f) ≡ n
length_table n f = length_made 0 n f

pub get_d_table : {A : Type 0} (d : A) (n : ℕ) (f : ℕ → A) (j : ℕ) → j < n → get_or (table n f) j d ≡ f j
get_d_table d n f j h = get_d_made d 0 n f j h ∙ ap f (omega arith)

-- a list is the table of what stands at its places
pub table_of : {A : Type 0} (d : A) (n : ℕ) (f : ℕ → A) (t : List A) → length t ≡ n → ((i : ℕ) → i < n → get_or t i d ≡ f i) → t ≡ table n f
table_of d n f t e h =
    ext_get_or d t (table n f) (e ∙ sym (length_table n f)) (λ i l. h i (omega arith) ∙ sym (get_d_table d n f i (omega arith)))

-- t has n places, of which the first k hold f
pub record Filled {A : Type 0} (d : A) (n : ℕ) (f : ℕ → A) (k : ℕ) (t : List A) : Type 0 where
  pub long : length t ≡ n
  pub some : k ≤ n
  pub each : (i : ℕ) → i < k → get_or t i d ≡ f i

module _ {A : Type 0} (d : A) (n : ℕ) (f : ℕ → A) where
  pub filled_none : (t : List A) → length t ≡ n → Filled d n f 0 t
  filled_none t e = record { long = e; some = omega arith; each = λ i h. absurd (omega arith) }

  pub filled_more : (k : ℕ) (v : A) (t : List A) → Filled d n f k t → k < n → v ≡ f k → Filled d n f (k + 1) (set t k v)
  filled_more k v t h s e =
      record {
        long = length-set t k v ∙ h.long;
        some = omega arith;
        each =
            λ i b.
            cases (eqb i k)
            (λ q. let z : i ≡ k = eqb-true i k q in rw z (get_or-set_same t k v d (omega (arith, h.long)) ∙ e))
            (λ q. get_or-set_other t k i v d (eqb-false i k q) ∙ h.each i (omega (arith, eqb-false i k q)));
      }

  pub filled_all : (k : ℕ) (t : List A) → Filled d n f k t → n ≤ k → t ≡ table n f
  filled_all k t h s = table_of d n f t h.long (λ i l. h.each i (omega arith))

pub table_same : {A : Type 0} (d : A) (n : ℕ) (f g : ℕ → A) → ((i : ℕ) → i < n → f i ≡ g i) → table n f ≡ table n g
table_same d n f g h = table_of d n g (table n f) (length_table n f) (λ i l. get_d_table d n f i l ∙ h i l)

-- a table of 256 entries, and a function that is 0 past them
pub past_table : (m : List ℕ) (f : ℕ → ℕ) → length m ≡ 256 → ((p : ℕ) → p < 256 → get_or m p 0 ≡ f p) → ((p : ℕ) → 256 ≤ p → f p ≡ 0) → (p : ℕ) →
    get_or m p 0 ≡ f p
past_table m f e g z p =
    cases (ltb p 256) (λ h. g p (ltb-true p 256 h))
    (λ h.
    let s : 256 ≤ p = ltb-false p 256 h in
    let l : length m ≤ p = omega arith in
    get_or-eq_default m 0 l ∙ sym (z p s))
