-- The judgement of one block by its rows: a refusal is that of a row, a block that passes says how many words it stores, and where a block
-- stands moves the place of its refusal and changes nothing else.
use Rattle.std.specs.Prelude.{ℕ, ◌+◌, ◌-◌, ◌≤◌, ◌≡◌, List, [], ◌∷◌, Bool, true, false, cond, ◌&&◌, length}
use Rattle.std.proofs.Math.Path.{refl}
use Rattle.std.proofs.Common.{arith, zero-add, add-zero, eq-eqb}
use Rattle.std.proofs.Math.ListN.{length-drop}
use Rattle.basics.specs.declared.Refusal.{Refusal}
use Rattle.basics.specs.Rows.{Row, Gives, Silent, none, also}
use Rattle.basics.specs.Refusals.{refuse, first_refusal, passes}
use Rattle.basics.specs.Laws.Tests.{cases}
use Rattle.basics.specs.Laws.Refusals.{Refusing, refused_exactly, accepted_exactly}
use Rattle.hunk.specs.Hunk.{hunk_of, words_of}
use Rattle.hunk.specs.Laws.Refusals.{break_within}
use Rattle.hunk.specs.Laws.Walk.{words_few}
use Rattle.blocks.specs.Blocks.{payload_in, is_hunk}
use Rattle.blocks.specs.Judged.{Judged}
use Rattle.blocks.specs.Judged.{is_encrypted, wrong_sum, wrong_metadata, wrong_tables, wrong_hunk, break_in, judge_rows, judged_of}
use Rattle.blocks.specs.Images.{word_count}

-- what is judged of a block by itself, for the block where it stands at p
abbrev pub standing : ℕ → Judged → Judged
standing p j = cond (passes j.refusal) j (record { refusal = refuse j.refusal.number (p + j.refusal.place); words = j.words })

-- the rows of a block at p, by what they ask and by where a hunk breaks in it
abbrev rows_at : Bool → Bool → Bool → Bool → Bool → ℕ → ℕ → List (Row Refusal)
rows_at a b m c d k p = (a, refuse 7 p) ∷ (b, refuse 6 p) ∷ (m, refuse 12 p) ∷ (c, refuse 8 p) ∷ (d, refuse 9 (p + k)) ∷ []

rows_move : (a b m c d h : Bool) (k n p : ℕ)
    → record { refusal = first_refusal (rows_at a b m c d k p); words = cond (passes (first_refusal (rows_at a b m c d k p)) && h) n 0 }
    ≡ standing p (record { refusal = first_refusal (rows_at a b m c d k 0); words = cond (passes (first_refusal (rows_at a b m c d k 0)) && h) n 0 })
rows_move true b m c d h k n p = rw add-zero
rows_move false true m c d h k n p = rw add-zero
rows_move false false true c d h k n p = rw add-zero
rows_move false false false true d h k n p = rw add-zero
rows_move false false false false true h k n p = rw zero-add
rows_move false false false false false h k n p = refl

rows_within : (a b m c d : Bool) (k : ℕ) → (first_refusal (rows_at a b m c d k 0)).place ≤ k
rows_within true b m c d k = omega arith
rows_within false true m c d k = omega arith
rows_within false false true c d k = omega arith
rows_within false false false true d k = omega arith
rows_within false false false false true k = omega arith
rows_within false false false false false k = omega arith

-- a place that is named lies in the block, or is its end
pub judged_within : (m : ℕ) (earlier : Bool) (sum : ℕ) (x : List ℕ) → 8 ≤ length x → (judged_of m earlier 0 sum x).refusal.place ≤ length x
unfolding judged_of judge_rows
judged_within m earlier sum x h =
    omega
    (arith, rows_within (is_encrypted x) (wrong_sum sum x) (wrong_metadata sum x) (wrong_tables earlier x) (wrong_hunk m x) (break_in m x), break_within (payload_in x) m, length-drop 8 x)

module _ (m : ℕ) (earlier : Bool) (p sum : ℕ) (x : List ℕ) where
  pub judged_standing : judged_of m earlier p sum x ≡ standing p (judged_of m earlier 0 sum x)
  unfolding judged_of judge_rows
  judged_standing =
      rows_move (is_encrypted x) (wrong_sum sum x) (wrong_metadata sum x) (wrong_tables earlier x) (wrong_hunk m x) (is_hunk x) (break_in m x) (length (words_of (payload_in x))) p

  pub judge_refusing : Refusing (judge_rows m earlier p sum x)
  unfolding judge_rows
  judge_refusing = ((λ z. omega arith), ((λ z. omega arith), ((λ z. omega arith), ((λ z. omega arith), ((λ z. omega arith), tt)))))

  pub judge_refuses : ((judged_of m earlier p sum x).refusal.number ≡ 0 → ⊥) → Gives (judge_rows m earlier p sum x) (judged_of m earlier p sum x).refusal
  unfolding judged_of
  judge_refuses n = (refused_exactly (judge_rows m earlier p sum x) judge_refusing (first_refusal (judge_rows m earlier p sum x)) n).0 refl

  -- what a block that passes says
  pub record Passed : Type 0 where
    pub silent : Silent (judge_rows m earlier p sum x)
    pub tables : wrong_tables earlier x ≡ false
    pub words : (judged_of m earlier p sum x).words ≡ word_count (cond (is_hunk x) (hunk_of (payload_in x) ∷ []) [])
    pub few : (judged_of m earlier p sum x).words ≤ length x - 8

  no_tables : Silent (judge_rows m earlier p sum x) → wrong_tables earlier x ≡ false
  unfolding judge_rows
  no_tables (also a (also b (also m (also c (also d none))))) = c

  pub passed : (judged_of m earlier p sum x).refusal.number ≡ 0 → Passed
  unfolding judged_of word_count
  passed e =
      let s : Silent (judge_rows m earlier p sum x) = (accepted_exactly (judge_rows m earlier p sum x) judge_refusing).0 e in
      record {
        silent = s;
        tables = no_tables s;
        words = cases (is_hunk x) (λ h. rw (eq-eqb _ _ e, h) (omega arith)) (λ h. rw (eq-eqb _ _ e, h));
        few =
            cases (is_hunk x) (λ h. rw (eq-eqb _ _ e, h) (omega (arith, words_few (payload_in x), length-drop 8 x)))
            (λ h. rw (eq-eqb _ _ e, h) (omega arith));
      }
