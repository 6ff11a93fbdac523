-- What going back answers: the load's refusal, 31 of an image with accelerators, or what is answered of a plain image.
use Rattle.std.specs.Prelude.{◌+◌, ◌≤◌, ℕ, List, [], ◌++◌, ◌∷◌, ◌≡◌, refl, Bool, ◌||◌, not, true, length}
use Rattle.std.proofs.Common.{◌∙◌, ap, arith}
use Rattle.std.proofs.Math.Path.{sym}
use Rattle.std.proofs.Math.Bool.{false}
use Rattle.std.proofs.Math.Dec.{eqb}
use borrow.Author.Tests.{eqb-false, eqb-true, ne_eqb}
use Rattle.basics.specs.Laws.Refusals.{refused_front, silent_behind}
use Rattle.basics.specs.Laws.Tests.{cases}
use Rattle.basics.specs.Refusals.{first_refusal, passes, refuse}
use Rattle.basics.specs.Rows.{Row}
use Rattle.basics.specs.declared.Refusal.{Refusal}
use Rattle.places.specs.Limits.{lent_limit}
use Rattle.header.specs.Header.{flags_of, header_rows}
use Rattle.tables.specs.Tables.{tables_in, tables_rows}
use Rattle.sums.specs.Crc.{crc324_of}
use Rattle.blocks.specs.Blocks.{is_tables, payload_in}
use Rattle.blocks.specs.Images.{any_tables, blocks_in, first_block, is_cut, judge_all, payload_of_tables, stop_of}
use Rattle.blocks.specs.Judged.{judge_rows}
use Rattle.load.specs.Laws.Refusals.{answer_refusal, loads_exactly}
use Rattle.load.specs.Load as Load
use Rattle.load.specs.Load.{flash_asked, loading_of, refusal_by_size, walk_rows}
use Rattle.unbuild.specs.Behind.{bin_behind, cfg_behind, rebuilds, unbuildable}
use Rattle.unbuild.specs.Code.Answers.{Answered, AnswersBy, bare, refusalAccelerated, refusalBy}
use Rattle.unbuild.specs.Content.{image_jlp}
use Rattle.unbuild.specs.Laws.Answers.{answers-unfit}
use Rattle.unbuild.specs.Unbuild.{bin_after, cfg_after, refusal_of, unbuilding_of}
use Rattle.unbuild.specs.declared.Unbuilding.{Unbuilding}

-- no load refuses with 29: its numbers are 13 at most
abbrev Low : List (Row Refusal) → Type 0
Low [] = Unit {0}
Low (r ∷ rs) = (r.1.number ≤ 13) × Low rs

low_append : (rs qs : List (Row Refusal)) → Low rs → Low qs → Low (rs ++ qs)
low_append [] qs r q = q
low_append (x ∷ rs) qs r q = (r.0, low_append rs qs r.1 q)

low_first : (rs : List (Row Refusal)) → Low rs → (first_refusal rs).number ≤ 13
low_first [] l = omega arith
low_first ((true, a) ∷ rs) l = l.0
low_first ((false, a) ∷ rs) l = low_first rs l.1

low_judged : (m : ℕ) (e : Bool) (p : ℕ) (xs : List (List ℕ)) → Low (judge_all m e p xs)
unfolding judge_all judge_rows
low_judged m e p [] = tt
low_judged m e p (x ∷ xs) =
    low_append (judge_rows m e p (crc324_of (payload_in x)) x) (judge_all m (e || is_tables x) (p + length x) xs) (omega arith, (omega arith, (omega arith, (omega arith, (omega arith, tt)))))
    (low_judged m (e || is_tables x) (p + length x) xs)

low_header : (s : List ℕ) → Low (header_rows s)
unfolding header_rows
low_header s = (omega arith, (omega arith, (omega arith, (omega arith, tt))))

low_walk : (s : List ℕ) (m : ℕ) → Low (walk_rows s m)
unfolding walk_rows
low_walk s m =
    let z : Low ((is_cut s, refuse 5 (stop_of s)) ∷ (not (any_tables (blocks_in s)), refuse 8 (length s)) ∷ []) = (omega arith, (omega arith, tt)) in
    low_append (judge_all m false first_block (blocks_in s)) ((is_cut s, refuse 5 (stop_of s)) ∷ (not (any_tables (blocks_in s)), refuse 8 (length s)) ∷ []) (low_judged m false first_block (blocks_in s)) z

low_tables : (flags flips : List ℕ) (m f : ℕ) → Low (tables_rows flags flips m f)
unfolding tables_rows
low_tables flags flips m f = (omega arith, (omega arith, (omega arith, tt)))

low_load : (s : List ℕ) (m f : ℕ) → Low (Load.refusal_rows s m f)
low_load s m f =
    let flips : List ℕ = (tables_in (payload_of_tables (blocks_in s))).flips in
    low_append (header_rows s) (walk_rows s m ++ tables_rows (flags_of s) flips m f) (low_header s)
    (low_append (walk_rows s m) (tables_rows (flags_of s) flips m f) (low_walk s m) (low_tables (flags_of s) flips m f))

unbuilt : (s : List ℕ) → (image_jlp s ≡ 0 → ⊥) → unbuildable s ≡ true
unfolding unbuildable rebuilds
unbuilt s j = rw (ne_eqb (image_jlp s) 0 j)

module _ (s bin cfg : List ℕ) where
  -- of an image that loads
  refusal_is : (loading_of s lent_limit (flash_asked s)).refusal.number ≡ 0 → refusal_of s bin cfg ≡ refusalBy (unbuildable s) (bin_behind s) (cfg_behind s) bin cfg
  unfolding refusal_of refusalBy
  refusal_is l = silent_behind (Load.refusal_rows s lent_limit (flash_asked s)) _ ((loads_exactly s lent_limit (flash_asked s)).0 l)

  pub answered : (loading_of s lent_limit (flash_asked s)).refusal.number ≡ 0 → (r : Unbuilding) (bin' cfg' : List ℕ)
      → AnswersBy (unbuildable s) (bin_behind s) (cfg_behind s) bin cfg r bin' cfg' → Answered s bin cfg r bin' cfg'
  unfolding unbuilding_of bin_after cfg_after
  answered l r bin' cfg' a =
      (rw (refusal_is l) a.answer, rw (refusal_is l) a.bin-after, rw (refusal_is l) a.cfg-after)

  module _ (r : Refusal) (er : r ≡ refusal_by_size s lent_limit) where
    pub load_passes : r.number ≡ 0 → (loading_of s lent_limit (flash_asked s)).refusal.number ≡ 0
    load_passes h = ap (λ (x : Refusal). x.number) (answer_refusal s lent_limit (flash_asked s) ∙ sym er) ∙ h

    -- the load refuses
    front : (r.number ≡ 0 → ⊥) → refusal_of s bin cfg ≡ r
    unfolding refusal_of Load.refusal_of
    front h = refused_front (Load.refusal_rows s lent_limit (flash_asked s)) _ (λ z. h (rw er z)) ∙ sym er

    low : r.number ≤ 13
    unfolding Load.refusal_of
    low = rw er (low_first (Load.refusal_rows s lent_limit (flash_asked s)) (low_load s lent_limit (flash_asked s)))

    pub answered_load : (r.number ≡ 0 → ⊥) → (u : Unbuilding) → u ≡ bare r → Answered s bin cfg u bin cfg
    unfolding unbuilding_of bin_after cfg_after
    answered_load h u eu =
        let a : eqb r.number 0 ≡ false = ne_eqb r.number 0 h in
        let b : eqb r.number 29 ≡ false = ne_eqb r.number 29 (λ z. omega (arith, low)) in
        (eu ∙ rw (front h, a, b), rw (front h, a), rw (front h, a))

  -- accelerators
  pub answered_accelerated : (j : ℕ) (v : Refusal) (u : Unbuilding) → j ≡ image_jlp s → (j ≡ 0 → ⊥) → v ≡ refusalAccelerated s → u ≡ bare v → Answered s bin cfg u bin cfg
  answered_accelerated j v u ej n ev eu =
      let r : Refusal = refusal_by_size s lent_limit in
      cases (passes r)
      (λ p. answered (load_passes r refl (eqb-true _ _ p)) u bin cfg (rw (unbuilt s (λ z. n (ej ∙ z)), eu, ev, p) (answers-unfit (bin_behind s) (cfg_behind s) bin cfg)))
      (λ p. answered_load r refl (eqb-false _ _ p) u (eu ∙ ap bare (ev ∙ rw p)))
