-- Data blocks that stand one after the other in a payload: how far they reach, how many words they have, and where they stop.
use Rattle.std.specs.Prelude.{ℕ, ◌+◌, ◌-◌, ◌≤◌, ◌<◌, zero, suc, ◌≡◌, refl, List, [], ◌∷◌, ◌++◌, true, false, not, leb, length}
use Rattle.std.proofs.Common.{ap, ◌∙◌, arith, length-append, leb-true}
use Rattle.basics.specs.Laws.Tests.{cases, and_left, and_right, not-true}
use Rattle.basics.specs.Lists.{joined}
use Rattle.basics.specs.Laws.Tables.{length_table}
use Rattle.hunk.specs.Forms.{is_reserved, word}
use Rattle.hunk.specs.Hunk.{form_at, count_at, size_at, words_at, whole_at, data_starts_from, data_starts, end_from, end_of, words_of}
use Rattle.hunk.specs.Laws.Forms.{count_some, size_least}

-- what a whole data block has: a form, its bytes in the payload, at least one word, and two bytes more than words
pub record Intact (s : List ℕ) (p : ℕ) : Type 0 where
  pub named : is_reserved (form_at s p) ≡ false
  pub ends : p + size_at s p ≤ length s
  pub some : 1 ≤ count_at s p
  pub least : count_at s p + 2 ≤ size_at s p

pub intact : (s : List ℕ) (p : ℕ) → whole_at s p ≡ true → Intact s p
unfolding whole_at
intact s p w =
    let e : is_reserved (form_at s p) ≡ false = not-true (is_reserved (form_at s p)) (and_left (not (is_reserved (form_at s p))) (leb (p + size_at s p) (length s)) w) in
    record {
      named = e;
      ends = leb-true _ _ (and_right (not (is_reserved (form_at s p))) (leb (p + size_at s p) (length s)) w);
      some = count_some _ e;
      least = size_least _ e;
    }

-- none stands at the payload's end or past it
pub past_end : (s : List ℕ) (p : ℕ) → length s ≤ p → whole_at s p ≡ false
past_end s p h = cases (whole_at s p) (λ w. let b : Intact s p = intact s p w in absurd (omega arith)) (λ w. w)

-- data blocks that start at these places, one after the other, from place p up to place q
pub data Run (s : List ℕ) : ℕ → List ℕ → ℕ → Type 0 where
  none : {p : ℕ} → Run s p [] p
  also : {p q : ℕ} {ps : List ℕ} → whole_at s p ≡ true → Run s (p + size_at s p) ps q → Run s p (p ∷ ps) q

-- the words of data blocks
abbrev pub words_in : List ℕ → List ℕ → List ℕ
words_in s ps = joined (words_at s) ps

pub length_words : (s : List ℕ) (p : ℕ) (ps : List ℕ) → length (words_in s (p ∷ ps)) ≡ count_at s p + length (words_in s ps)
unfolding joined
length_words s p ps = length-append (words_at s p) (words_in s ps) ∙ ap (λ (n : ℕ). n + length (words_in s ps)) (length_table (count_at s p) (word s p))

pub run_end : {s ps : List ℕ} {p q : ℕ} → Run s p ps q → end_from s p ps ≡ q
run_end none = refl
run_end (also w r) = run_end r

-- one more
pub run_more : {s ps : List ℕ} {p q : ℕ} → Run s p ps q → whole_at s q ≡ true → Run s p (ps ++ (q ∷ [])) (q + size_at s q)
run_more none v = also v none
run_more (also w r) v = also w (run_more r v)

-- they end in the payload; their words are fewer than their bytes
pub run_in : {s ps : List ℕ} {p q : ℕ} → Run s p ps q → p ≤ length s → q ≤ length s
run_in none h = h
run_in {s} {p = p} (also w r) h = run_in r (intact s p w).ends

pub run_up : {s ps : List ℕ} {p q : ℕ} → Run s p ps q → p + length (words_in s ps) ≤ q
unfolding joined
run_up none = omega arith
run_up {s} {p = p} (also {ps = ps} w r) =
    let b : Intact s p = intact s p w in
    omega (arith, length_words s p ps, run_up r)

run_few : {s ps : List ℕ} {p q : ℕ} → Run s p ps q → length (words_in s ps) ≤ length s - p
unfolding joined
run_few none = omega arith
run_few {s} {p = p} (also {ps = ps} w r) =
    let b : Intact s p = intact s p w in
    omega (arith, length_words s p ps, run_few r)

-- the walk finds them: all of them where no whole one stands behind, and more where one does
pub run_starts : {s ps : List ℕ} {p q : ℕ} (f : ℕ) → Run s p ps q → length s < p + f → whole_at s q ≡ false → data_starts_from f s p ≡ ps
unfolding data_starts_from
run_starts zero none h v = refl
run_starts (suc f) none h v = rw v
run_starts {s} {p = p} zero (also w r) h v = let b : Intact s p = intact s p w in absurd (omega arith)
run_starts {s} {p = p} (suc f) (also {ps = ps} w r) h v =
    let b : Intact s p = intact s p w in
    rw w (ap (◌∷◌ p) (run_starts {ps = ps} f r (omega arith) v))

pub record More (found ps : List ℕ) (q : ℕ) : Type 0 where
  pub rest : List ℕ
  pub is : found ≡ ps ++ (q ∷ rest)

pub run_split : {s ps : List ℕ} {p q : ℕ} (f : ℕ) → Run s p ps q → length s < p + f → whole_at s q ≡ true → More (data_starts_from f s p) ps q
unfolding data_starts_from
run_split {s} {p = p} zero none h v = let b : Intact s p = intact s p v in absurd (omega arith)
run_split {s} {p = p} (suc f) none h v = record { rest = data_starts_from f s (p + size_at s p); is = rw v }
run_split {s} {p = p} zero (also w r) h v = let b : Intact s p = intact s p w in absurd (omega arith)
run_split {s} {p = p} (suc f) (also {q = q} {ps = ps} w r) h v =
    let b : Intact s p = intact s p w in
    let m : More (data_starts_from f s (p + size_at s p)) ps q = run_split {ps = ps} f r (omega arith) v in
    record { rest = m.rest; is = rw w (ap (◌∷◌ p) m.is) }

-- what the walk finds stands so, and behind it stands no whole data block
starts_run : (f : ℕ) (s : List ℕ) (p : ℕ) → Run s p (data_starts_from f s p) (end_from s p (data_starts_from f s p))
unfolding data_starts_from
starts_run zero s p = none
starts_run (suc f) s p = cases (whole_at s p) (λ w. rw w (also w (starts_run f s (p + size_at s p)))) (λ w. rw w none)

starts_stop : (f : ℕ) (s : List ℕ) (p : ℕ) → length s < p + f → whole_at s (end_from s p (data_starts_from f s p)) ≡ false
unfolding data_starts_from
starts_stop zero s p h = past_end s p (omega arith)
starts_stop (suc f) s p h =
    cases (whole_at s p)
    (λ w. let b : Intact s p = intact s p w in rw w (starts_stop f s (p + size_at s p) (omega arith)))
    (λ w. rw w w)

-- the data blocks of a payload
pub data_run : (s : List ℕ) → Run s 3 (data_starts s) (end_of s)
unfolding data_starts end_of
data_run s = starts_run (length s) s 3

pub data_stop : (s : List ℕ) → whole_at s (end_of s) ≡ false
unfolding data_starts end_of
data_stop s = starts_stop (length s) s 3 (omega arith)

pub data_all : (s ps : List ℕ) (q : ℕ) → Run s 3 ps q → whole_at s q ≡ false → data_starts s ≡ ps
unfolding data_starts
data_all s ps q r v = run_starts (length s) r (omega arith) v

pub data_split : (s ps : List ℕ) (q : ℕ) → Run s 3 ps q → whole_at s q ≡ true → More (data_starts s) ps q
unfolding data_starts
data_split s ps q r v = run_split (length s) r (omega arith) v

pub data_end : (s ps : List ℕ) (q : ℕ) → Run s 3 ps q → whole_at s q ≡ false → end_of s ≡ q
unfolding end_of
data_end s ps q r v = ap (end_from s 3) (data_all s ps q r v) ∙ run_end r

-- a payload has no more words than bytes
pub words_few : (s : List ℕ) → length (words_of s) ≤ length s
unfolding words_of
words_few s = omega (arith, run_few (data_run s))
