-- Which words an image names, where it loads into 524,288 words: none past them. And which the hunks of chosen paragraphs name.
use Rattle.std.specs.Prelude.{◌*◌, ◌+◌, ◌/◌, ◌<◌, ◌≤◌, suc, zero, ℕ, ◌≡◌, refl, List, [], ◌++◌, ◌∷◌, Bool, ◌&&◌, ◌||◌, cond, false, true, eqb, leb, ltb, length}
use Rattle.std.proofs.Common.{◌∙◌, ap, ⊎_elim, arith, eq-eqb, eqb-true, le-leb, le-ltb, leb-true, lt-ltb, ltb-true, ne_eqb}
use Rattle.std.proofs.lemmas.List.{length-replicate}
use Rattle.basics.specs.Listed.{listed}
use Rattle.basics.specs.Laws.Tests.{and_left, and_right, and_true, cases, compare, or_assoc, or_cases, or_none, same_test, true_is_not_false}
use Rattle.places.specs.Limits.{lent, lent_limit}
use Rattle.hunk.specs.Hunk.{Hunk}
use Rattle.blocks.specs.Images.{blocks_in, hunks_in}
use Rattle.load.proofs.Theorems.Ram.{leaves}
use Rattle.load.specs.Leaves.{Leaves, named, names}
use Rattle.load.specs.Load.{flash_asked, loading_of, load_ram_of}
use Rattle.save.specs.Chosen.{chosen, paragraph_hunk}
use Rattle.unbuild.specs.Content.{names_word, whole_ram}

-- the last hunk that names a word
pub record LastNaming (hs : List Hunk) (i : ℕ) : Type 0 where
  pub before : List Hunk
  pub hunk : Hunk
  pub after : List Hunk
  pub split : hs ≡ before ++ (hunk ∷ after)
  pub here : names hunk i ≡ true
  pub last : named after i ≡ false

pub last_naming : (hs : List Hunk) (i : ℕ) → named hs i ≡ true → LastNaming hs i
last_naming [] i e = true_is_not_false e refl
last_naming (h ∷ hs) i e =
    cases (named hs i)
    (λ t.
    let r : LastNaming hs i = last_naming hs i t in
    record { before = h ∷ r.before; hunk = r.hunk; after = r.after; split = ap (λ (x : List Hunk). h ∷ x) r.split; here = r.here; last = r.last })
    (λ f.
    record {
      before = [];
      hunk = h;
      after = hs;
      split = refl;
      here = ⊎_elim (λ a. a) (λ b. true_is_not_false b f) (or_cases (names h i) (named hs i) e);
      last = f;
    })

-- the RAM that is loaded into
pub length_whole : length whole_ram ≡ lent_limit
unfolding whole_ram
length_whole = length-replicate {A = ℕ} lent_limit 0

pub lent_whole : lent whole_ram ≡ lent_limit
lent_whole = omega (arith, length_whole)

pub names_below : (s : List ℕ) → (loading_of s lent_limit (flash_asked s)).refusal.number ≡ 0 → (i : ℕ) → names_word s i ≡ true → i < lent_limit
names_below s e i n =
    let l : Leaves s whole_ram (loading_of s (lent whole_ram) (flash_asked s)) (load_ram_of s whole_ram (flash_asked s)) = leaves s whole_ram (flash_asked s) (rw lent_whole e) in
    let r : LastNaming (hunks_in (blocks_in s)) i = last_naming (hunks_in (blocks_in s)) i n in
    let b : i < lent whole_ram = (l.last r.before r.after r.hunk i r.split r.here r.last).0 in
    rw lent_whole at b

-- chosen paragraphs name their words and no others
named_append : (xs ys : List Hunk) (i : ℕ) → named (xs ++ ys) i ≡ named xs i || named ys i
named_append [] ys i = refl
named_append (x ∷ xs) ys i = ap (λ (b : Bool). names x i || b) (named_append xs ys i) ∙ or_assoc (names x i) (named xs i) (named ys i)

paragraph_names : (p : ℕ) (words : List ℕ) (i : ℕ) → length words ≡ 256 → names (paragraph_hunk p words) i ≡ eqb (i / 256) p
paragraph_names p words i e =
    same_test (leb (256 * p) i && ltb i (256 * p + length words)) (eqb (i / 256) p)
    (λ t.
    let a : 256 * p ≤ i = leb-true (256 * p) i (and_left _ _ t) in
    let b : i < 256 * p + length words = ltb-true i _ (and_right (leb (256 * p) i) _ t) in
    eq-eqb (i / 256) p (omega arith))
    (λ t.
    let q : i / 256 ≡ p = eqb-true (i / 256) p t in
    and_true (leb (256 * p) i) _ (le-leb (256 * p) i (omega arith)) (lt-ltb i (256 * p + length words) (omega arith)))

pub named_chosen : (on : ℕ → Bool) (words : ℕ → List ℕ) (n i : ℕ) → ((p : ℕ) → p < n → on p ≡ true → length (words p) ≡ 256)
    → named (chosen n on words) i ≡ ltb (i / 256) n && on (i / 256)
unfolding listed
named_chosen on words zero i w = rw (le-ltb (i / 256) 0 (omega arith))
named_chosen on words (suc n) i w =
    named_append (chosen n on words) (cond (on n) (paragraph_hunk n (words n) ∷ []) []) i
    ∙ ap (λ (b : Bool). b || named (cond (on n) (paragraph_hunk n (words n) ∷ []) []) i) (named_chosen on words n i (λ p h. w p (omega arith)))
    ∙ ⊎_elim (λ z. at z) (λ d. ⊎_elim (λ l. below l) (λ l. above l) d) (compare (i / 256) n)
  where
    last : (i / 256 ≡ n → ⊥) → named (cond (on n) (paragraph_hunk n (words n) ∷ []) []) i ≡ false
    last d = cases (on n) (λ e. rw e (rw (paragraph_names n (words n) i (w n (omega arith) e), ne_eqb (i / 256) n d))) (λ e. rw e)

    at : i / 256 ≡ n → (ltb (i / 256) n && on (i / 256)) || named (cond (on n) (paragraph_hunk n (words n) ∷ []) []) i ≡ ltb (i / 256) (suc n) && on (i / 256)
    at z =
        rw (le-ltb (i / 256) n (omega arith), lt-ltb (i / 256) (suc n) (omega arith))
        (cases (on n) (λ e. rw (e, z, e) (rw (paragraph_names n (words n) i (w n (omega arith) e), eq-eqb (i / 256) n z))) (λ e. rw (e, z, e)))

    below : i / 256 < n → (ltb (i / 256) n && on (i / 256)) || named (cond (on n) (paragraph_hunk n (words n) ∷ []) []) i ≡ ltb (i / 256) (suc n) && on (i / 256)
    below l = rw (last (λ z. omega arith), lt-ltb (i / 256) n l, lt-ltb (i / 256) (suc n) (omega arith)) (or_none (on (i / 256)))

    above : n < i / 256 → (ltb (i / 256) n && on (i / 256)) || named (cond (on n) (paragraph_hunk n (words n) ∷ []) []) i ≡ ltb (i / 256) (suc n) && on (i / 256)
    above l = rw (last (λ z. omega arith), le-ltb (i / 256) n (omega arith), le-ltb (i / 256) (suc n) (omega arith))
