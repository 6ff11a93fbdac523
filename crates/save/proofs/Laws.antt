-- One law for each return, its premises as the code's tests and calls give them.
use Prim.Native.Nat.{ℕ, ◌+◌, ◌*◌, ◌-◌, ◌≤◌, ◌<◌}
use mathlib.Core.List.{List, [], ◌∷◌, ◌++◌}
use mathlib.Core.Path.{◌≡◌, refl, sym, ap, ◌∙◌}
use mathlib.Core.Bool.{Bool, true, false}
use native.Mathlib.Omega.{arith}
use lib.ListN.{length, get_or, length-append}
use lib.Dec.{ltb}
use borrow.Author.Tests.{lt-ltb, le-ltb, ne_eqb, eq-eqb}
use borrow.Rule.Slice.PartMut.{put_mid}
use Rattle.basics.specs.Laws.Refusals.{refused_front, silent_behind}
use Rattle.basics.specs.Rows.{Row}
use Rattle.std.specs.Prelude.{Ok, Err}
use Rattle.basics.specs.declared.Refusal.{Refusal}
use Rattle.basics.specs.declared.Declined.{Declined}
use Rattle.basics.specs.Laws.Outcomes.{ok_none, err_is, err_some}
use Rattle.basics.specs.Lists.{part, put_front}
use Rattle.basics.specs.Counts.{lowest, any}
use Rattle.basics.specs.Refusals.{refuse, first_refusal, passed}
use Rattle.basics.specs.Laws.Tests.{and_true, and_false}
use Rattle.basics.specs.Laws.Lowest.{any_low, any_not}
use Rattle.basics.specs.Laws.Wrote.{Wrote, wrote_none, wrote_all, wrote_part}
use Rattle.basics.specs.Laws.Puts.{put_wrote, wrote_put}
use Rattle.places.specs.declared.Locutus.{Locutus}
use Rattle.places.specs.Limits.{image_limit, lent, locutus_paragraphs, paragraph_size}
use Rattle.sums.specs.Crc.{crc324_of}
use Rattle.header.specs.Header.{header_of}
use Rattle.tables.specs.Tables.{Tables, tables_payload, flash_words, tables_rows, tables_refusal}
use Rattle.tables.specs.Laws.Refusals.{tables_accepted}
use Rattle.hunk.specs.Hunk.{hunk, hunk_payload, payload_size}
use Rattle.hunk.specs.Laws.Sizes.{length_payload}
use Rattle.blocks.specs.Blocks.{frame_size, payload_in, put_frame, tables_type, hunk_type, end_mark}
use Rattle.blocks.specs.Laws.ReadBack.{length_block}
use Rattle.blocks.specs.Laws.Payloads.{placed, block_placed}
use Rattle.save.specs.Chosen.{tables_block, hunk_block}
use Rattle.save.specs.Writing.{Content, content, is_marked, marked, image_by, past, refusal_of, save_answer, writing_of, written_of}
use Rattle.save.specs.Code.Writing.{block_limit, front_of, front_size, hunk_bytes, image_size, judged_by, declined_by}
use Rattle.save.specs.Laws.Chosen.{image_parts, length_image}
use Rattle.save.proofs.Theorems.Refusals.{Accepted, accepted_so}

-- a hunk's payload that was lent its part, and then its frame
pub hunk_placed : (at : Locutus) (words out ys after : List ℕ) → length out ≡ frame_size + payload_size words → length out ≤ block_limit
    → ys ≡ put_front (hunk_payload (hunk at words)) (part out frame_size (length out)) → after ≡ put_frame hunk_type (crc324_of (payload_in (placed out ys))) (placed out ys)
    → after ≡ hunk_block (hunk at words)
hunk_placed at words out ys after l m ey e =
    block_placed hunk_type (hunk_payload (hunk at words)) out ys after (omega (arith, length_payload (hunk at words))) m ey e

-- the header in its part, then the tables block in its own
pub front_written : (flags uid : List ℕ) (t : Tables) (out y₁ y₂ : List ℕ) (a n : ℕ) → length out ≡ front_size flags uid t → a ≡ length (header_of flags uid)
    → n ≡ length (tables_payload t) → y₁ ≡ put_front (header_of flags uid) (part out 0 a) → y₂ ≡ tables_block t
    → put_mid a (a + (frame_size + n) - a) (put_mid 0 (a - 0) out y₁) y₂ ≡ front_of flags uid t
front_written flags uid t out y₁ y₂ a n l ea en e₁ e₂ =
    let h : List ℕ = header_of flags uid in
    let b : length (tables_block t) ≡ frame_size + length (tables_payload t) = length_block tables_type (tables_payload t) in
    let w : Wrote out (put_mid 0 (a - 0) out y₁) h = wrote_put out out [] 0 (a - 0) y₁ h (wrote_none out) refl (omega arith) (omega arith) e₁ in
    wrote_all out _ (front_of flags uid t)
    (wrote_part out _ h a (a + (frame_size + n) - a) y₂ (tables_block t) w ea (omega arith) (omega arith) e₂)
    (length-append h (tables_block t) ∙ omega arith)

-- a marked paragraph that lies past n words, one that does not, and one that is not marked
module _ (marks : List Bool) (n p : ℕ) where
  is_on : get_or marks p false ≡ true → is_marked marks p ≡ true
  unfolding is_marked
  is_on e = e

  is_off : get_or marks p false ≡ false → is_marked marks p ≡ false
  unfolding is_marked
  is_off e = e

  pub past_hit : get_or marks p false ≡ true → n < paragraph_size * p + paragraph_size → past marks n p ≡ true
  past_hit e h = and_true (is_marked marks p) (ltb n (paragraph_size * p + paragraph_size)) (is_on e) (lt-ltb _ _ h)

  pub past_fits : paragraph_size * p + paragraph_size ≤ n → past marks n p ≡ false
  past_fits h = and_false (is_marked marks p) (ltb n (paragraph_size * p + paragraph_size)) (le-ltb _ _ h)

  pub past_not : get_or marks p false ≡ false → past marks n p ≡ false
  past_not e = rw (is_off e)

-- the refusals: what is refused of flags and tables, or a row that holds with none before it
module _ (room : ℕ) (flags flips : List ℕ) (words : ℕ) (marks : List Bool) (long f : ℕ) (size : f ≡ flash_words flags) where
  abbrev t : Refusal
  t = tables_refusal flags flips words (flash_words flags)

  abbrev rest : List (Row Refusal)
  rest =
      (any locutus_paragraphs (past marks words), refuse 9 (lowest locutus_paragraphs (past marks words)))
      ∷ (ltb image_limit long, refuse 1 0)
      ∷ (ltb room long, refuse 29 0)
      ∷ []

  pub judge_tables : (r : Refusal) → passed (tables_refusal flags flips words f) ≡ Err r → Err r ≡ passed (judged_by room flags flips words marks long)
  unfolding judged_by
  judge_tables r e =
      let g : passed t ≡ Err r = rw size at e in
      rw (refused_front (tables_rows flags flips words (flash_words flags)) rest (err_some t tt r g)) (sym g)

  module _ (u : Unit {0}) (z : passed (tables_refusal flags flips words f) ≡ Ok u) (first : ℕ) (ef : first ≡ lowest locutus_paragraphs (past marks words)) where
    judged_rest : judged_by room flags flips words marks long ≡ first_refusal rest
    unfolding judged_by
    judged_rest =
        let g : passed t ≡ Ok u = rw size at z in
        silent_behind (tables_rows flags flips words (flash_words flags)) rest ((tables_accepted flags flips words (flash_words flags)).0 (ok_none t tt u g))

    pub judge_9 : first < locutus_paragraphs → (r : Refusal) → r ≡ refuse 9 first → Err r ≡ passed (judged_by room flags flips words marks long)
    judge_9 l r e = rw (judged_rest, any_low locutus_paragraphs (past marks words) first ef l, ← ef, e)

    module _ (l : locutus_paragraphs ≤ first) where
      pub judge_1 : image_limit < long → (r : Refusal) → r ≡ refuse 1 0 → Err r ≡ passed (judged_by room flags flips words marks long)
      judge_1 k r e = rw (judged_rest, any_not locutus_paragraphs (past marks words) first ef l, lt-ltb _ _ k, e)

      module _ (k : long ≤ image_limit) where
        pub judge_29 : room < long → (r : Refusal) → r ≡ refuse 29 0 → Err r ≡ passed (judged_by room flags flips words marks long)
        judge_29 j r e = rw (judged_rest, any_not locutus_paragraphs (past marks words) first ef l, le-ltb _ _ k, lt-ltb _ _ j, e)

        pub judge_none : long ≤ room → Ok tt ≡ passed (judged_by room flags flips words marks long)
        judge_none j = rw (judged_rest, any_not locutus_paragraphs (past marks words) first ef l, le-ltb _ _ k, le-ltb _ _ j)

-- the front in its part, then the hunks and the end in theirs; and the answers of the writer
module _ (out flags uid : List ℕ) (t : Tables) (ram : List ℕ) (marks : List Bool) (long : ℕ) (el : long ≡ image_size (content flags uid t ram marks)) where
  abbrev c : Content
  c = content flags uid t ram marks

  image_long : long ≡ length (image_by c)
  image_long = el ∙ sym (length_image flags uid t (marked ram marks) ∙ omega (arith, length_block tables_type (tables_payload t)))

  pub image_written : long ≤ length out → (a : ℕ) (y₁ y₂ : List ℕ) → a ≡ front_size flags uid t → y₁ ≡ front_of flags uid t → y₂ ≡ hunk_bytes ram marks ++ (end_mark ∷ [])
      → put_mid a (long - a) (put_mid 0 (a - 0) out y₁) y₂ ≡ put_front (image_by c) out
  image_written h a y₁ y₂ ea e₁ e₂ =
      let f : List ℕ = front_of flags uid t in
      let g : List ℕ = hunk_bytes ram marks ++ (end_mark ∷ []) in
      let lf : length f ≡ front_size flags uid t = length-append (header_of flags uid) (tables_block t) ∙ ap (◌+◌ (length (header_of flags uid))) (length_block tables_type (tables_payload t)) in
      let lg : length g ≡ length (hunk_bytes ram marks) + 1 = length-append (hunk_bytes ram marks) (end_mark ∷ []) in
      let w₁ : Wrote out (put_mid 0 (a - 0) out y₁) f = wrote_part out out [] 0 (a - 0) y₁ f (wrote_none out) refl (omega arith) (omega arith) e₁ in
      let w₂ : Wrote out (put_mid a (long - a) (put_mid 0 (a - 0) out y₁) y₂) (f ++ g) =
      wrote_part out _ f a (long - a) y₂ g w₁ (omega arith) (omega arith) (omega arith) e₂ in
      put_wrote out _ (image_by c) (rw (image_parts flags uid t (marked ram marks)) w₂)

  module _ (words : ℕ) (ew : words ≡ lent ram) where
    same_refusal : judged_by (length out) flags t.flips words marks long ≡ refusal_of out c
    unfolding judged_by refusal_of
    same_refusal = rw (ew, image_long)

    module _ (r : Refusal) (e : passed (judged_by (length out) flags t.flips words marks long) ≡ Err r) where
      some : (refusal_of out c).number ≡ 0 → ⊥
      some = err_some (refusal_of out c) tt r (rw same_refusal at e)

      pub write_refused : (d : Declined) → d ≡ declined_by r long → Err d ≡ save_answer (writing_of out c)
      unfolding writing_of
      write_refused d ed =
          let i : refusal_of out c ≡ r = err_is (refusal_of out c) tt r (rw same_refusal at e) in
          rw (ed, ne_eqb _ _ some, ← i, image_long)

      pub write_kept : out ≡ written_of out c
      unfolding written_of
      write_kept = rw (ne_eqb _ _ some)

    module _ (u : Unit {0}) (e : passed (judged_by (length out) flags t.flips words marks long) ≡ Ok u) where
      zero : (refusal_of out c).number ≡ 0
      zero = ok_none (refusal_of out c) tt u (rw same_refusal at e)

      pub write_room : long ≤ length out
      unfolding writing_of
      write_room = let a : Accepted out c = (accepted_so out c).0 zero in omega (arith, image_long, a.room)

      pub write_done : Ok long ≡ save_answer (writing_of out c)
      unfolding writing_of
      write_done = rw (eq-eqb _ _ zero, image_long)

      pub write_put : (after : List ℕ) → after ≡ put_front (image_by c) out → after ≡ written_of out c
      unfolding written_of
      write_put after ea = rw (eq-eqb _ _ zero) ea
