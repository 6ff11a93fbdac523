-- When a load is refused: with this number and place exactly when that row holds and none before it in 01's order does; it loads exactly
-- when no row holds; and a refused load changes no word.
use Rattle.std.specs.Prelude.{ℕ, ◌≡◌, List, [], ◌∷◌, Bool, true, false, not, ◌||◌, ◌↔◌, length}
use Rattle.std.proofs.Common.{sym, arith, ne_eqb, eqb-true}
use Rattle.basics.specs.declared.Refusal.{Refusal}
use Rattle.basics.specs.Rows.{Gives, Silent, none, also}
use Rattle.basics.specs.Refusals.{refuse, no_refusal}
use Rattle.basics.specs.Laws.Tests.{cases, not-false}
use Rattle.basics.specs.Laws.Rows.{silent_first, silent_append, silent_left, silent_right}
use Rattle.basics.specs.Laws.Refusals.{Refusing, refusing_append, refused_exactly as exactly-refused, accepted_exactly as exactly-accepted}
use Rattle.places.specs.Limits.{lent}
use Rattle.header.specs.Header.{header_rows, flags_of}
use Rattle.header.specs.Laws.Refusals.{header_refusing}
use Rattle.tables.specs.Tables.{tables_in, tables_rows}
use Rattle.tables.specs.Laws.Refusals.{tables_refusing}
use Rattle.blocks.specs.Blocks.{is_tables}
use Rattle.blocks.specs.Judged.{judge_rows}
use Rattle.blocks.specs.Images.{first_block, blocks_in, stop_of, is_cut, judge_all, any_tables, payload_of_tables}
use Rattle.blocks.proofs.Theorems.Judged.{judge_refusing}
use Rattle.load.specs.Load.{walk_rows, refusal_rows, refusal_of, loads, loading_of, load_ram_of}

-- each row refuses
judge_all_refusing : (m : ℕ) (e : Bool) (p : ℕ) (xs : List (List ℕ)) → Refusing (judge_all m e p xs)
unfolding judge_all
judge_all_refusing m e p [] = tt
judge_all_refusing m e p (x ∷ xs) = refusing_append (judge_rows m e p _ x) _ (judge_refusing m e p _ x) (judge_all_refusing m (e || is_tables x) _ xs)

pub walk_refusing : (s : List ℕ) (m : ℕ) → Refusing (walk_rows s m)
unfolding walk_rows
walk_refusing s m =
    refusing_append (judge_all m false first_block (blocks_in s)) _ (judge_all_refusing m false first_block (blocks_in s)) ((λ z. omega arith), ((λ z. omega arith), tt))

pub rows_refusing : (s : List ℕ) (m f : ℕ) → Refusing (refusal_rows s m f)
rows_refusing s m f =
    refusing_append (header_rows s) _ (header_refusing s)
    (refusing_append (walk_rows s m) _ (walk_refusing s m) (tables_refusing (flags_of s) (tables_in (payload_of_tables (blocks_in s))).flips m f))

-- the answer's refusal
module _ (s : List ℕ) (m f : ℕ) where
  quiet : (refusal_of s m f).number ≡ 0 → Silent (refusal_rows s m f)
  unfolding refusal_of
  quiet e = (exactly-accepted (refusal_rows s m f) (rows_refusing s m f)).0 e

  passed_none : (refusal_of s m f).number ≡ 0 → refusal_of s m f ≡ no_refusal
  unfolding refusal_of
  passed_none e = silent_first no_refusal (quiet e)

  pub answer_refusal : (loading_of s m f).refusal ≡ refusal_of s m f
  unfolding loading_of
  answer_refusal = cases (loads s m f) (λ e. rw e (sym (passed_none (eqb-true _ _ e)))) (λ e. rw e)

  pub refused_exactly : (r : Refusal) → (r.number ≡ 0 → ⊥) → ((loading_of s m f).refusal ≡ r) ↔ Gives (refusal_rows s m f) r
  unfolding refusal_of
  refused_exactly r n = rw answer_refusal (exactly-refused (refusal_rows s m f) (rows_refusing s m f) r n)

  pub loads_exactly : ((loading_of s m f).refusal.number ≡ 0) ↔ Silent (refusal_rows s m f)
  unfolding refusal_of
  loads_exactly = rw answer_refusal (exactly-accepted (refusal_rows s m f) (rows_refusing s m f))

-- a refused load changes no word
pub refused_keeps : (s ram : List ℕ) (f : ℕ) → ((loading_of s (lent ram) f).refusal.number ≡ 0 → ⊥) → load_ram_of s ram f ≡ ram
unfolding load_ram_of
refused_keeps s ram f n =
    let e : loads s (lent ram) f ≡ false = ne_eqb _ _ (rw answer_refusal at n) in
    rw e

-- what nothing refused says of an image
pub record Accepted (s : List ℕ) (m f : ℕ) : Type 0 where
  pub header : Silent (header_rows s)
  pub blocks : Silent (judge_all m false first_block (blocks_in s))
  pub ended : is_cut s ≡ false
  pub tables : any_tables (blocks_in s) ≡ true
  pub supported : Silent (tables_rows (flags_of s) (tables_in (payload_of_tables (blocks_in s))).flips m f)

-- by the three tables
pub walk_silent : (s : List ℕ) (m : ℕ) → Silent (walk_rows s m) → (Silent (judge_all m false first_block (blocks_in s))) × ((is_cut s ≡ false) × (any_tables (blocks_in s) ≡ true))
unfolding walk_rows
walk_silent s m q = go (silent_right (judge_all m false first_block (blocks_in s)) _ q)
  where
    go : Silent ((is_cut s, refuse 5 (stop_of s)) ∷ (not (any_tables (blocks_in s)), refuse 8 (length s)) ∷ []) → (Silent (judge_all m false first_block (blocks_in s))) × ((is_cut s ≡ false) × (any_tables (blocks_in s) ≡ true))
    go (also a (also b none)) = (silent_left (judge_all m false first_block (blocks_in s)) _ q, (a, not-false (any_tables (blocks_in s)) b))

pub accepted : (s : List ℕ) (m f : ℕ) → (refusal_of s m f).number ≡ 0 → Accepted s m f
accepted s m f e =
    let q : Silent (refusal_rows s m f) = quiet s m f e in
    let w = walk_silent s m (silent_left (walk_rows s m) _ (silent_right (header_rows s) _ q)) in
    record {
      header = silent_left (header_rows s) _ q;
      blocks = w.0;
      ended = w.1.0;
      tables = w.1.1;
      supported = silent_right (walk_rows s m) _ (silent_right (header_rows s) _ q);
    }

pub accepts : (s : List ℕ) (m f : ℕ) → Accepted s m f → refusal_of s m f ≡ no_refusal
unfolding refusal_of walk_rows
accepts s m f a =
    let t : not (any_tables (blocks_in s)) ≡ false = rw a.tables in
    silent_first no_refusal (silent_append a.header (silent_append (silent_append a.blocks (also a.ended (also t none))) a.supported))
