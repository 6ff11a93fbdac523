-- Blocks that are kept: the tables are among them and they refuse nothing to a load; blocks that refuse nothing to a load are all kept; and
-- each block is kept or left out.
use Rattle.std.specs.Prelude.{ℕ, ◌+◌, ◌*◌, ◌≤◌, ◌≡◌, refl, List, [], ◌∷◌, ◌++◌, Bool, true, cond, not, ◌||◌, length, eqb}
use Rattle.std.proofs.Math.Path.{sym, ap}
use Rattle.std.proofs.Common.{◌∙◌, append_assoc, append-nil, arith, eqb-true, ne_eqb, length-append}
use Rattle.std.proofs.Math.Bool.{false}
use Rattle.basics.specs.declared.Refusal.{Refusal}
use Rattle.basics.specs.Lists.{flat, joined, Each, none as no_blocks, also as and_block}
use Rattle.basics.specs.Rows.{Row, Silent, none}
use Rattle.basics.specs.Refusals.{refuse, no_refusal, first_refusal, passes}
use Rattle.basics.specs.Laws.Tests.{cases, and_left, or_assoc, or_none, true_is_not_false}
use Rattle.basics.specs.Laws.Rows.{silent_first, silent_append, silent_left, silent_right}
use Rattle.places.specs.Limits.{lent_limit}
use Rattle.sums.specs.Crc.{crc324_of}
use Rattle.blocks.specs.Judged.{Judged}
use Rattle.blocks.specs.Blocks.{type_of, payload_in, is_tables, is_hunk, Block}
use Rattle.blocks.specs.Judged.{is_encrypted, wrong_sum, wrong_metadata, wrong_tables, wrong_hunk, break_in, judge_rows, judged_of}
use Rattle.blocks.specs.Images.{judge_all, any_tables, payload_of_tables}
use Rattle.blocks.proofs.Theorems.Judged.{standing, judged_standing, passed}
use Rattle.recovery.specs.Salvage.{number_for, left_out, kept, drops_from, block_rows, kept_rows}

-- ---- the number that a block is refused with, at any place

abbrev number_at : Bool → ℕ → List ℕ → ℕ
number_at e p x = (judged_of lent_limit e p (crc324_of (payload_in x)) x).refusal.number

standing_number : (p : ℕ) (j : Judged) → (standing p j).refusal.number ≡ j.refusal.number
standing_number p j = cases (passes j.refusal) (λ e. rw e) (λ e. rw e)

number_moves : (e : Bool) (p : ℕ) (x : List ℕ) → number_at e p x ≡ number_at e 0 x
number_moves e p x =
    ap (λ (j : Judged). j.refusal.number) (judged_standing lent_limit e p (crc324_of (payload_in x)) x) ∙ standing_number p (judged_of lent_limit e 0 (crc324_of (payload_in x)) x)

silent_number : (e : Bool) (p : ℕ) (x : List ℕ) → Silent (judge_rows lent_limit e p (crc324_of (payload_in x)) x) → number_at e p x ≡ 0
unfolding judged_of
silent_number e p x q = ap (λ (r : Refusal). r.number) (silent_first no_refusal q)

silent_moves : (e : Bool) (p q : ℕ) (x : List ℕ) → Silent (judge_rows lent_limit e p (crc324_of (payload_in x)) x) → Silent (judge_rows lent_limit e q (crc324_of (payload_in x)) x)
silent_moves e p q x s =
    (passed lent_limit e q (crc324_of (payload_in x)) x (number_moves e q x ∙ sym (number_moves e p x) ∙ silent_number e p x s)).silent

-- a hunk gives 6, 9 or nothing, whatever stands before it
abbrev rows_by : Bool → Bool → Bool → Bool → Bool → ℕ → List (Row Refusal)
rows_by a b t c d k = (a, refuse 7 0) ∷ (b, refuse 6 0) ∷ (t, refuse 12 0) ∷ (c, refuse 8 0) ∷ (d, refuse 9 k) ∷ []

six_or_nine : (a b t c d : Bool) (k : ℕ) → a ≡ false → t ≡ false → c ≡ false
    → (eqb (first_refusal (rows_by a b t c d k)).number 6 || eqb (first_refusal (rows_by a b t c d k)).number 9) ≡ not (passes (first_refusal (rows_by a b t c d k)))
six_or_nine true b t c d k e g f = true_is_not_false refl e
six_or_nine false true t c d k e g f = refl
six_or_nine false false true c d k e g f = true_is_not_false refl g
six_or_nine false false false true d k e g f = true_is_not_false refl f
six_or_nine false false false false true k e g f = refl
six_or_nine false false false false false k e g f = refl

module _ (x : List ℕ) (h : is_hunk x ≡ true) where
  plain : is_encrypted x ≡ false
  plain = let e : type_of x ≡ 2 = eqb-true _ _ h in rw e

  not_metadata : wrong_metadata (crc324_of (payload_in x)) x ≡ false
  not_metadata = let t : type_of x ≡ 2 = eqb-true _ _ h in rw t

  not_tables : (e : Bool) → wrong_tables e x ≡ false
  not_tables e = let t : type_of x ≡ 2 = eqb-true _ _ h in rw t

  pub hunk_number : (eqb (number_for x) 6 || eqb (number_for x) 9) ≡ not (eqb (number_for x) 0)
  unfolding judged_of judge_rows
  hunk_number =
      six_or_nine (is_encrypted x) (wrong_sum (crc324_of (payload_in x)) x) (wrong_metadata (crc324_of (payload_in x)) x) (wrong_tables false x) (wrong_hunk lent_limit x)
      (0 + break_in lent_limit x) plain not_metadata (not_tables false)

  pub hunk_anywhere : (e : Bool) → number_at e 0 x ≡ number_for x
  unfolding judged_of judge_rows
  hunk_anywhere e =
      ap
      (λ (c : Bool). (first_refusal (rows_by (is_encrypted x) (wrong_sum (crc324_of (payload_in x)) x) (wrong_metadata (crc324_of (payload_in x)) x) c (wrong_hunk lent_limit x) (0 + break_in lent_limit x))).number)
      (not_tables e ∙ sym (not_tables false))

  -- it is left out exactly when a load refuses it
  pub left_out_is : left_out x ≡ not (eqb (number_for x) 0)
  unfolding left_out
  left_out_is = rw h hunk_number

  hunk_untabled : is_tables x ≡ false
  hunk_untabled = let e : type_of x ≡ 2 = eqb-true _ _ h in rw e

-- a hunk that is refused where it stands is left out
pub hunk_out : (e : Bool) (p : ℕ) (x : List ℕ) → is_hunk x ≡ true → (number_at e p x ≡ 0 → ⊥) → left_out x ≡ true
hunk_out e p x h n =
    let z : number_for x ≡ 0 → ⊥ = λ k. n (number_moves e p x ∙ hunk_anywhere x h e ∙ k) in
    left_out_is x h ∙ rw (ne_eqb _ _ z)

pub left_out_hunk : (x : List ℕ) → left_out x ≡ true → is_hunk x ≡ true
unfolding left_out
left_out_hunk x d = and_left (is_hunk x) _ d

pub left_out_untabled : (x : List ℕ) → left_out x ≡ true → is_tables x ≡ false
left_out_untabled x d = hunk_untabled x (left_out_hunk x d)

-- any other type is kept, and so is a block that refuses nothing to a load
pub other_kept : (x : List ℕ) → is_hunk x ≡ false → left_out x ≡ false
unfolding left_out
other_kept x h = rw h

pub good_kept : (e : Bool) (p : ℕ) (x : List ℕ) → Silent (judge_rows lent_limit e p (crc324_of (payload_in x)) x) → left_out x ≡ false
good_kept e p x q =
    cases (is_hunk x)
    (λ h.
    let n : number_for x ≡ 0 = sym (hunk_anywhere x h e) ∙ sym (number_moves e p x) ∙ silent_number e p x q in
    left_out_is x h ∙ rw n)
    (λ h. other_kept x h)

-- ---- what is kept of some blocks: the tables, no more bytes, and all of it at a second time

pub record Keeps (xs : List (List ℕ)) : Type 0 where
  pub any : any_tables (kept xs) ≡ any_tables xs
  pub tables : payload_of_tables (kept xs) ≡ payload_of_tables xs
  pub short : length (flat (kept xs)) ≤ length (flat xs)
  pub again : kept (kept xs) ≡ kept xs

pub keeps : (xs : List (List ℕ)) → Keeps xs
unfolding kept any_tables payload_of_tables joined
keeps [] = record { any = refl; tables = refl; short = omega arith; again = refl }
keeps (x ∷ xs) =
    let i : Keeps xs = keeps xs in
    cases (left_out x)
    (λ d.
    let u : is_tables x ≡ false = left_out_untabled x d in
    record {
      any = rw (d, u) i.any;
      tables = rw (d, u) i.tables;
      short = rw d (omega (arith, length-append x (flat xs), i.short));
      again = rw d i.again;
    })
    (λ d.
    record {
      any = rw d (ap (◌||◌ (is_tables x)) i.any);
      tables = rw d (ap (cond (is_tables x) (payload_in x)) i.tables);
      short = rw d (omega (arith, length-append x (flat xs), length-append x (flat (kept xs)), i.short));
      again = rw (d, d) (ap (◌∷◌ x) i.again);
    })

pub kept_each : (xs : List (List ℕ)) → Each Block xs → Each Block (kept xs)
unfolding kept
kept_each [] no_blocks = no_blocks
kept_each (x ∷ xs) (and_block b bs) = cases (left_out x) (λ d. rw d (kept_each xs bs)) (λ d. rw d (and_block b (kept_each xs bs)))

-- the kept blocks refuse nothing to a load, where the salvage refuses nothing of them
block_silent : (e : Bool) (p : ℕ) (x : List ℕ) → left_out x ≡ false → Silent (block_rows e p x) → Silent (judge_rows lent_limit e p (crc324_of (payload_in x)) x)
block_silent e p x d q = rw d at q

pub kept_silent : (xs : List (List ℕ)) (e : Bool) (p q : ℕ) → Silent (kept_rows e p xs) → Silent (judge_all lent_limit e q (kept xs))
unfolding kept kept_rows judge_all
kept_silent [] e p q s = none
kept_silent (x ∷ xs) e p q s =
    let rest : Silent (kept_rows (e || is_tables x) (p + length x) xs) = silent_right (block_rows e p x) (kept_rows (e || is_tables x) (p + length x) xs) s in
    cases (left_out x)
    (λ d.
    let u : is_tables x ≡ false = left_out_untabled x d in
    let k : e || is_tables x ≡ e = rw u (or_none e) in
    rw d (kept_silent xs e (p + length x) q (rw k at rest)))
    (λ d.
    rw d
    (silent_append (silent_moves e p q x (block_silent e p x d (silent_left (block_rows e p x) (kept_rows (e || is_tables x) (p + length x) xs) s)))
    (kept_silent xs (e || is_tables x) (p + length x) (q + length x) rest)))

-- blocks that refuse nothing to a load are all kept, and refuse nothing to a salvage
pub record AllKept (e : Bool) (p : ℕ) (xs : List (List ℕ)) : Type 0 where
  pub silent : Silent (kept_rows e p xs)
  pub all : kept xs ≡ xs
  pub nothing : drops_from p xs ≡ []

pub all_kept : (xs : List (List ℕ)) (e : Bool) (p : ℕ) → Silent (judge_all lent_limit e p xs) → AllKept e p xs
unfolding kept drops_from kept_rows judge_all
all_kept [] e p s = record { silent = none; all = refl; nothing = refl }
all_kept (x ∷ xs) e p s =
    let rows = judge_rows lent_limit e p (crc324_of (payload_in x)) x in
    let q : Silent rows = silent_left rows (judge_all lent_limit (e || is_tables x) (p + length x) xs) s in
    let d : left_out x ≡ false = good_kept e p x q in
    let i : AllKept (e || is_tables x) (p + length x) xs =
    all_kept xs (e || is_tables x) (p + length x) (silent_right rows (judge_all lent_limit (e || is_tables x) (p + length x) xs) s) in
    let k : Silent (block_rows e p x) = rw d q in
    record { silent = silent_append k i.silent; all = rw d (ap (◌∷◌ x) i.all); nothing = rw d i.nothing }

-- ---- blocks, and blocks behind them

pub kept_append : (xs ys : List (List ℕ)) → kept (xs ++ ys) ≡ kept xs ++ kept ys
unfolding kept
kept_append [] ys = refl
kept_append (x ∷ xs) ys = cases (left_out x) (λ d. rw d (kept_append xs ys)) (λ d. rw d (ap (◌∷◌ x) (kept_append xs ys)))

pub rows_append : (e : Bool) (p : ℕ) (xs ys : List (List ℕ)) → kept_rows e p (xs ++ ys) ≡ kept_rows e p xs ++ kept_rows (e || any_tables xs) (p + length (flat xs)) ys
unfolding kept_rows any_tables joined
rows_append e p [] ys =
    let k : p + 0 ≡ p = omega arith in
    rw (or_none, k)
rows_append e p (x ∷ xs) ys =
    let k : p + length (x ++ flat xs) ≡ p + length x + length (flat xs) = omega (arith, length-append x (flat xs)) in
    ap (◌++◌ (block_rows e p x)) (rows_append (e || is_tables x) (p + length x) xs ys)
    ∙ sym (append_assoc (block_rows e p x) (kept_rows (e || is_tables x) (p + length x) xs) _) ∙ rw (k, or_assoc)

-- ---- each block is kept or left out

pub kept_dropped : (xs : List (List ℕ)) (p : ℕ) → length (kept xs) + length (drops_from p xs) ≡ length xs
unfolding kept drops_from
kept_dropped [] p = refl
kept_dropped (x ∷ xs) p =
    cases (left_out x) (λ d. rw d (omega (arith, kept_dropped xs (p + length x)))) (λ d. rw d (omega (arith, kept_dropped xs (p + length x))))

-- the places of blocks, and of blocks behind them
pub drops_append : (xs ys : List (List ℕ)) (p : ℕ) → drops_from p (xs ++ ys) ≡ drops_from p xs ++ drops_from (p + length (flat xs)) ys
unfolding drops_from joined
drops_append [] ys p = let k : p + 0 ≡ p = omega arith in rw k
drops_append (x ∷ xs) ys p =
    let k : p + length (x ++ flat xs) ≡ p + length x + length (flat xs) = omega (arith, length-append x (flat xs)) in
    cases (left_out x) (λ d. rw (d, k) (ap (◌∷◌ p) (drops_append xs ys (p + length x)))) (λ d. rw (d, k) (drops_append xs ys (p + length x)))

-- one block more
module _ (xs : List (List ℕ)) (x : List ℕ) where
  pub kept_one : left_out x ≡ false → kept (xs ++ (x ∷ [])) ≡ kept xs ++ (x ∷ [])
  unfolding kept
  kept_one d = kept_append xs (x ∷ []) ∙ rw d

  pub kept_none : left_out x ≡ true → kept (xs ++ (x ∷ [])) ≡ kept xs
  unfolding kept
  kept_none d = kept_append xs (x ∷ []) ∙ rw d (append-nil (kept xs))

  pub drops_one : (p : ℕ) → left_out x ≡ true → drops_from p (xs ++ (x ∷ [])) ≡ drops_from p xs ++ ((p + length (flat xs)) ∷ [])
  unfolding drops_from
  drops_one p d = drops_append xs (x ∷ []) p ∙ rw d

  pub drops_none : (p : ℕ) → left_out x ≡ false → drops_from p (xs ++ (x ∷ [])) ≡ drops_from p xs
  unfolding drops_from
  drops_none p d = drops_append xs (x ∷ []) p ∙ rw d (append-nil (drops_from p xs))

-- a block that is left out is named by its place
pub drop_named : (before after : List (List ℕ)) (x : List ℕ) (p : ℕ) → left_out x ≡ true
    → drops_from p (before ++ (x ∷ after)) ≡ drops_from p before ++ ((p + length (flat before)) ∷ drops_from (p + length (flat before) + length x) after)
unfolding drops_from
drop_named before after x p d = drops_append before (x ∷ after) p ∙ rw d

-- and a place that is named is that of a block that is left out
pub record Dropped (xs : List (List ℕ)) (p q : ℕ) : Type 0 where
  pub before : List (List ℕ)
  pub block : List ℕ
  pub after : List (List ℕ)
  pub all : xs ≡ before ++ (block ∷ after)
  pub out : left_out block ≡ true
  pub place : q ≡ p + length (flat before)

dropped_first : (x : List ℕ) (xs : List (List ℕ)) (p : ℕ) → left_out x ≡ true → Dropped (x ∷ xs) p p
unfolding joined
dropped_first x xs p d = record { before = []; block = x; after = xs; all = refl; out = d; place = omega arith }

dropped_later : (x : List ℕ) (xs : List (List ℕ)) (p q : ℕ) → Dropped xs (p + length x) q → Dropped (x ∷ xs) p q
unfolding joined
dropped_later x xs p q c =
    record {
      before = x ∷ c.before;
      block = c.block;
      after = c.after;
      all = ap (◌∷◌ x) c.all;
      out = c.out;
      place = c.place ∙ omega (arith, length-append x (flat c.before));
    }

each_later : (x : List ℕ) (xs : List (List ℕ)) (p : ℕ) (qs : List ℕ) → Each (Dropped xs (p + length x)) qs → Each (Dropped (x ∷ xs) p) qs
each_later x xs p [] no_blocks = no_blocks
each_later x xs p (q ∷ qs) (and_block c cs) = and_block (dropped_later x xs p q c) (each_later x xs p qs cs)

pub drops_are : (xs : List (List ℕ)) (p : ℕ) → Each (Dropped xs p) (drops_from p xs)
unfolding drops_from
drops_are [] p = no_blocks
drops_are (x ∷ xs) p =
    let on : Each (Dropped (x ∷ xs) p) (drops_from (p + length x) xs) = each_later x xs p (drops_from (p + length x) xs) (drops_are xs (p + length x)) in
    cases (left_out x) (λ d. rw d (and_block (dropped_first x xs p d) on)) (λ d. rw d on)

-- eight bytes at least for each block that is left out
pub drops_few : (xs : List (List ℕ)) (p : ℕ) → Each Block xs → 8 * length (drops_from p xs) ≤ length (flat xs)
unfolding drops_from joined
drops_few [] p no_blocks = omega arith
drops_few (x ∷ xs) p (and_block b bs) =
    let i : 8 * length (drops_from (p + length x) xs) ≤ length (flat xs) = drops_few xs (p + length x) bs in
    cases (left_out x) (λ d. rw d (omega (arith, i, b.long, length-append x (flat xs)))) (λ d. rw d (omega (arith, i, length-append x (flat xs))))
