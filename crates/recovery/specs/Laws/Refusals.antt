-- When a salvage is refused: with this number and place exactly when that row holds and none before it does; accepted exactly when no row
-- holds; and what it leaves in the lent buffer.
use Prim.Native.Nat.{ℕ, ◌≤◌}
use Rattle.std.specs.Prelude.{◌≡◌, Bool, true, cond, ◌||◌, ◌↔◌, take, ltb}
use Rattle.std.proofs.Math.Path.{sym}
use Rattle.std.proofs.Common.{◌∙◌, arith, length-append}
use mathlib.Core.List.{List, [], ◌∷◌, ◌++◌}
use Rattle.std.proofs.Math.Bool.{false}
use borrow.Author.Tests.{le-ltb, eq-eqb, ne_eqb, eqb-true, eqb-false, ltb-false}
use Rattle.std.proofs.Math.ListN.{length, drop, length-drop}
use Rattle.std.proofs.Math.Seq.{take-append_seam, drop-append_seam}
use Rattle.basics.specs.declared.Refusal.{Refusal}
use Rattle.basics.specs.Lists.{put_front}
use Rattle.basics.specs.Rows.{Gives, Silent, none, also}
use Rattle.basics.specs.Refusals.{refuse, no_refusal, first_refusal, passes}
use Rattle.basics.specs.Laws.Tests.{cases}
use Rattle.basics.specs.Laws.Rows.{silent_first, silent_left, silent_right}
use Rattle.basics.specs.Laws.Refusals.{Refusing, refusing_append, refused_exactly as exactly-refused, accepted_exactly as exactly-accepted, refused_front, silent_behind}
use Rattle.basics.specs.Laws.Puts.{put_room}
use Rattle.sums.specs.Crc.{crc324_of}
use Rattle.places.specs.Limits.{lent_limit}
use Rattle.header.specs.Header.{header_rows, flags_of}
use Rattle.header.specs.Laws.Refusals.{header_refusing}
use Rattle.tables.specs.Tables.{tables_in, flash_words}
use Rattle.tables.specs.Laws.Refusals.{tables_refusing}
use Rattle.blocks.specs.Blocks.{payload_in, is_tables}
use Rattle.blocks.specs.Images.{first_block, blocks_in, payload_of_tables}
use Rattle.blocks.proofs.Theorems.Judged.{judge_refusing}
use Rattle.recovery.specs.Salvage.{left_out, salvage_of, block_rows, kept_rows, blocks_rows, image_rows, refusal_rows, image_refusal, refusal_of, salvaged, fitted, salvaging_of, written_of}
use Rattle.recovery.specs.Laws.Salvage.{Salvages, salvages}

-- each row refuses
block_refusing : (e : Bool) (p : ℕ) (x : List ℕ) → Refusing (block_rows e p x)
block_refusing e p x = cases (left_out x) (λ d. rw d tt) (λ d. rw d (judge_refusing lent_limit e p (crc324_of (payload_in x)) x))

kept_refusing : (e : Bool) (p : ℕ) (xs : List (List ℕ)) → Refusing (kept_rows e p xs)
unfolding kept_rows
kept_refusing e p [] = tt
kept_refusing e p (x ∷ xs) = refusing_append (block_rows e p x) _ (block_refusing e p x) (kept_refusing (e || is_tables x) _ xs)

pub blocks_refusing : (s : List ℕ) → Refusing (blocks_rows s)
unfolding blocks_rows
blocks_refusing s =
    refusing_append (kept_rows false first_block (blocks_in s)) _ (kept_refusing false first_block (blocks_in s))
    ((λ z. omega arith), tables_refusing (flags_of s) (tables_in (payload_of_tables (blocks_in s))).flips lent_limit (flash_words (flags_of s)))

pub image_refusing : (s : List ℕ) → Refusing (image_rows s)
image_refusing s = refusing_append (header_rows s) _ (header_refusing s) (blocks_refusing s)

pub rows_refusing : (out s : List ℕ) → Refusing (refusal_rows out s)
rows_refusing out s = refusing_append (image_rows s) _ (image_refusing s) ((λ z. omega arith), tt)

-- an image that refuses nothing
pub image_quiet : (s : List ℕ) → (image_refusal s).number ≡ 0 → Silent (image_rows s)
unfolding image_refusal
image_quiet s e = (exactly-accepted (image_rows s) (image_refusing s)).0 e

module _ (out s : List ℕ) where
  -- the image's refusal comes first, and then 29
  pub image_first : ((image_refusal s).number ≡ 0 → ⊥) → refusal_of out s ≡ image_refusal s
  unfolding image_refusal refusal_of
  image_first n = refused_front (image_rows s) _ n

  pub image_passed : (image_refusal s).number ≡ 0 → refusal_of out s ≡ cond (ltb (length out) (length (salvage_of s))) (refuse 29 0) no_refusal
  unfolding refusal_of
  image_passed e = silent_behind (image_rows s) _ (image_quiet s e)

  -- the answer's refusal
  fitted_refusal : (fitted (length out) s).refusal ≡ cond (ltb (length out) (length (salvage_of s))) (refuse 29 0) no_refusal
  unfolding fitted
  fitted_refusal = cases (ltb (length out) (length (salvage_of s))) (λ l. rw l) (λ l. rw l)

  pub answer_refusal : (salvaging_of out s).refusal ≡ refusal_of out s
  unfolding salvaging_of
  answer_refusal =
      cases (passes (image_refusal s)) (λ e. rw e (fitted_refusal ∙ sym (image_passed (eqb-true _ _ e)))) (λ e. rw e (sym (image_first (eqb-false _ _ e))))

  pub refused_exactly : (r : Refusal) → (r.number ≡ 0 → ⊥) → ((salvaging_of out s).refusal ≡ r) ↔ Gives (refusal_rows out s) r
  unfolding refusal_of
  refused_exactly r n = rw answer_refusal (exactly-refused (refusal_rows out s) (rows_refusing out s) r n)

  pub salvaged_exactly : ((salvaging_of out s).refusal.number ≡ 0) ↔ Silent (refusal_rows out s)
  unfolding refusal_of
  salvaged_exactly = rw answer_refusal (exactly-accepted (refusal_rows out s) (rows_refusing out s))

  -- a refusal changes no byte
  pub refused_keeps : ((salvaging_of out s).refusal.number ≡ 0 → ⊥) → written_of out s ≡ out
  unfolding written_of
  refused_keeps n =
      let e : passes (refusal_of out s) ≡ false = ne_eqb _ _ (rw answer_refusal at n) in
      rw e

  -- what a salvage that is not refused leaves: its image at the buffer's front, as long as is answered, and all else kept; and this loads
  pub record Written : Type 0 where
    pub answer : salvaging_of out s ≡ salvaged s
    pub front : take (length (salvage_of s)) (written_of out s) ≡ salvage_of s
    pub behind : drop (length (salvage_of s)) (written_of out s) ≡ drop (length (salvage_of s)) out
    pub same : length (written_of out s) ≡ length out
    pub loads : Salvages s

  -- an answer without a refusal
  record Good : Type 0 where
    pub silent : Silent (image_rows s)
    pub room : length (salvage_of s) ≤ length out
    pub is : salvaging_of out s ≡ salvaged s
    pub passed : passes (refusal_of out s) ≡ true

  fits : Silent ((ltb (length out) (length (salvage_of s)), refuse 29 0) ∷ []) → length (salvage_of s) ≤ length out
  fits (also a none) = ltb-false _ _ a

  good : (salvaging_of out s).refusal.number ≡ 0 → Good
  unfolding refusal_of salvaging_of image_refusal fitted
  good e =
      let n : (refusal_of out s).number ≡ 0 = rw answer_refusal at e in
      let q : Silent (refusal_rows out s) = (exactly-accepted (refusal_rows out s) (rows_refusing out s)).0 n in
      let i : Silent (image_rows s) = silent_left (image_rows s) _ q in
      let f : length (salvage_of s) ≤ length out = fits (silent_right (image_rows s) _ q) in
      let z : first_refusal (image_rows s) ≡ no_refusal = silent_first no_refusal i in
      record { silent = i; room = f; is = rw (z, le-ltb _ _ f); passed = eq-eqb _ _ n }

  pub written : (salvaging_of out s).refusal.number ≡ 0 → Written
  unfolding written_of
  written e =
      let g : Good = good e in
      let x : List ℕ = salvage_of s in
      let w : put_front x out ≡ x ++ drop (length x) out = put_room x out g.room in
      record {
        answer = g.is;
        front = rw (g.passed, w) (take-append_seam x (drop (length x) out));
        behind = rw (g.passed, w) (drop-append_seam x (drop (length x) out));
        same = rw (g.passed, w) (length-append x (drop (length x) out) ∙ omega (arith, length-drop (length x) out, g.room));
        loads = salvages s g.silent;
      }
