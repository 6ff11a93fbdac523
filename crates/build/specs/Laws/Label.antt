-- A label's block put behind the tables, as the code comes to it: the front moved, the block in its part, and the writer's answer.
use Rattle.std.specs.Prelude.{ℕ, ◌+◌, ◌-◌, ◌≤◌, ◌<◌, min, ◌≡◌, refl, List, [], ◌++◌, Bool, true, false, cond, ◌||◌, length, take, drop, ltb, Ok, Err}
use Rattle.std.proofs.Common.{sym, ◌∙◌, append-nil, arith, length-drop, length-append, drop_of_length-le, take-append-drop, Fits}
use Rattle.std.proofs.Math.Path.{ap}
use Rattle.std.specs.Int.{w64}
use borrow.Author.Tests.{le-ltb, lt-ltb, eq-eqb, ne_eqb, ltb-false}
use borrow.Rule.Slice.PartMut.{put_mid}
use Rattle.basics.specs.Lists.{part, put_front}
use Rattle.basics.specs.declared.Declined.{Declined}
use Rattle.basics.specs.Refusals.{refuse, no_refusal, declined}
use Rattle.basics.specs.Laws.Outcomes.{outcome_at_ok, outcome_at_err, ok_at_value, ok_at_none, err_at_is, err_at_some}
use Rattle.basics.specs.Counts.{any, lowest}
use Rattle.basics.specs.Laws.Lists.{length_part, part_rest}
use Rattle.basics.specs.Laws.Wrote.{Wrote, wrote_none, wrote_long, wrote_part}
use Rattle.basics.specs.Laws.Puts.{put_all, wrote_put}
use Rattle.places.specs.Limits.{image_limit, locutus_paragraphs, lent}
use Rattle.tables.specs.Tables.{unsupported, lacks_ram, flash_words, oversized, mislent, tables_rows}
use Rattle.blocks.specs.Blocks.{frame_size, metadata_type}
use Rattle.blocks.specs.Laws.ReadBack.{length_block}
use Rattle.label.specs.Label as Label
use Rattle.label.specs.Laws.Label.{label_fits, written_all}
use Rattle.save.specs.Writing.{Writing}
use Rattle.save.specs.Writing.{Content, past_lent, image_by, refusal_of, answer_for, save_answer, writing_of, written_of}
use Rattle.build.specs.Code.Answers.{front_size, labelPut, roomOf, labelledOf, labelledLeft}

-- too little is there for a front
pub put_nothing : (label out : List ℕ) → length out < frame_size + length label + front_size → out ≡ labelPut label out
unfolding labelPut
put_nothing label out h = rw (lt-ltb _ _ h)

-- the front copied aside
pub copied : (out zeros front : List ℕ) (at : ℕ) → at + front_size ≤ length out → length zeros ≡ front_size → front ≡ put_front (part out at (at + front_size)) zeros
    → front ≡ part out at (at + front_size)
copied out zeros front at h ez ef =
    ef ∙ put_all (part out at (at + front_size)) zeros (ez ∙ sym (length_part out at (at + front_size) h ∙ omega arith))

-- then put at the front, and the block put behind it
pub put_labelled :
    (label out front y₁ y₂ : List ℕ) → Label.wrong_label label ≡ false → frame_size + length label + front_size ≤ length out
    → front ≡ part out (frame_size + length label) (frame_size + length label + front_size)
    → y₁ ≡ put_front front (part out 0 front_size)
    → y₂ ≡ Label.written_of (part (put_mid 0 (front_size - 0) out y₁) front_size (frame_size + length label + front_size)) label
    → put_mid front_size (frame_size + length label + front_size - front_size) (put_mid 0 (front_size - 0) out y₁) y₂ ≡ labelPut label out
unfolding labelPut
put_labelled label out front y₁ y₂ right h ef e₁ e₂ =
    let k : ℕ = frame_size + length label in
    let x : List ℕ = part out k (k + front_size) in
    let lx : length x ≡ front_size = length_part out k (k + front_size) h ∙ omega arith in
    let w₁ : Wrote out (put_mid 0 (front_size - 0) out y₁) x =
    wrote_put out out [] 0 (front_size - 0) y₁ x (wrote_none out) refl (omega (arith, lx)) (omega arith) (e₁ ∙ ap (λ (z : List ℕ). put_front z (part out 0 front_size)) ef) in
    let l₁ : length (put_mid 0 (front_size - 0) out y₁) ≡ length out = wrote_long out (put_mid 0 (front_size - 0) out y₁) x w₁ in
    let b : y₂ ≡ Label.label_block label =
    e₂ ∙ written_all (part (put_mid 0 (front_size - 0) out y₁) front_size (k + front_size)) label right (length_part (put_mid 0 (front_size - 0) out y₁) front_size (k + front_size) (omega arith) ∙ omega arith) in
    let lb : length (Label.label_block label) ≡ k = length_block metadata_type label in
    let w₂ : Wrote out (put_mid front_size (k + front_size - front_size) (put_mid 0 (front_size - 0) out y₁) y₂) (x ++ Label.label_block label) =
    wrote_part out (put_mid 0 (front_size - 0) out y₁) x front_size (k + front_size - front_size) y₂ (Label.label_block label) w₁ (sym lx) (omega (arith, lb)) (omega arith) b in
    let n : length (x ++ Label.label_block label) ≡ k + front_size = length-append x (Label.label_block label) ∙ omega (arith, lx, lb) in
    let t : k + front_size - k ≡ front_size = omega arith in
    let xt : x ≡ take front_size (drop k out) = ap (λ (i : ℕ). take i (drop k out)) t in
    w₂.is ∙ ap (λ (i : ℕ). (x ++ Label.label_block label) ++ drop i out) n
    ∙ ap (λ (z : List ℕ). (z ++ Label.label_block label) ++ drop (k + front_size) out) xt
    ∙ rw (le-ltb _ _ h)

-- the writer's answer never says more than an image may have
answer_small : (a e g b c d : Bool) (p n : ℕ) → (c ≡ false → n ≤ image_limit)
    → (answer_for (cond a (refuse 10 0) (cond e (refuse 11 0) (cond g (refuse 13 0) (cond b (refuse 9 p) (cond c (refuse 1 0) (cond d (refuse 29 0) no_refusal)))))) n).length ≤ image_limit
answer_small true e g b c d p n h = omega arith
answer_small false true g b c d p n h = omega arith
answer_small false false true b c d p n h = omega arith
answer_small false false false true c d p n h = omega arith
answer_small false false false false true d p n h = omega arith
answer_small false false false false false true p n h = h refl
answer_small false false false false false false p n h = h refl

pub writing_small : (out : List ℕ) (c : Content) → (writing_of out c).length ≤ image_limit
unfolding writing_of refusal_of tables_rows
writing_small out c =
    answer_small (unsupported c.flags c.tables.flips) (lacks_ram c.flags (lent c.ram)) (oversized c.flags || mislent c.flags (flash_words c.flags))
    (any locutus_paragraphs (past_lent c)) (ltb image_limit (length (image_by c))) (ltb (length out) (length (image_by c))) (lowest locutus_paragraphs (past_lent c))
    (length (image_by c)) (λ e. ltb-false _ _ e)

-- no label, and a label's room before the writer's image
pub labelled_none :
    (label out : List ℕ) (c : Content) (w : Writing) (after : List ℕ) → length label ≡ 0 → (w ≡ writing_of out c) × (after ≡ written_of out c)
    → (w ≡ labelledOf label out c) × (after ≡ labelledLeft label out c)
unfolding labelledOf labelledLeft
labelled_none label out c w after e p = (p.0 ∙ rw (eq-eqb _ _ e), p.1 ∙ rw (eq-eqb _ _ e))

module _ (label out : List ℕ) (c : Content) (some : length label ≡ 0 → ⊥) (a : ℕ) (ea : a ≡ min (frame_size + length label) (length out)) (w : Writing) (ys : List ℕ)
    (p : (w ≡ writing_of (part out a (length out)) c) × (ys ≡ written_of (part out a (length out)) c)) where
  writes : w ≡ writing_of (drop (roomOf label out) out) c
  writes = p.0 ∙ ap (λ (x : List ℕ). writing_of x c) (part_rest out a ∙ ap (λ (i : ℕ). drop i out) ea)

  leaves : ys ≡ written_of (drop (roomOf label out) out) c
  leaves = p.1 ∙ ap (λ (x : List ℕ). written_of x c) (part_rest out a ∙ ap (λ (i : ℕ). drop i out) ea)

  pub labelled_answer : record { refusal = w.refusal; length = w.length + (frame_size + length label) } ≡ labelledOf label out c
  unfolding labelledOf
  labelled_answer = rw (ne_eqb _ _ some, ← writes)

  pub length_fits : Label.wrong_label label ≡ false → Fits w64 (w.length + (frame_size + length label))
  length_fits right = let s : w.length ≤ image_limit = rw writes (writing_small (drop (roomOf label out) out) c) in omega (arith, s, label_fits label right)

  -- as the code says it
  pub labelled_ok : (n : ℕ) → Ok n ≡ save_answer w → Ok (n + (frame_size + length label)) ≡ save_answer (labelledOf label out c)
  labelled_ok n o =
      let l : w.length ≡ n = ok_at_value w.refusal w.length w.length n (sym o) in
      rw (← l, ← labelled_answer) (sym (outcome_at_ok w.refusal _ _ (ok_at_none w.refusal w.length w.length n (sym o))))

  pub ok_fits : (n : ℕ) → Ok n ≡ save_answer w → Label.wrong_label label ≡ false → Fits w64 (n + (frame_size + length label))
  ok_fits n o right = rw (← ok_at_value w.refusal w.length w.length n (sym o)) (length_fits right)

  pub labelled_err : (e : Declined) → Err e ≡ save_answer w → Err (record { refusal = e.refusal; length = e.length + (frame_size + length label) }) ≡ save_answer (labelledOf label out c)
  labelled_err e o =
      let d : declined w.refusal w.length ≡ e = err_at_is w.refusal w.length w.length e (sym o) in
      rw (← d, ← labelled_answer) (sym (outcome_at_err w.refusal _ _ (err_at_some w.refusal w.length w.length e (sym o))))

  pub err_fits : (e : Declined) → Err e ≡ save_answer w → Label.wrong_label label ≡ false → Fits w64 (e.length + (frame_size + length label))
  err_fits e o right = rw (← err_at_is w.refusal w.length w.length e (sym o)) (length_fits right)

  whole : put_mid a (length out - a) out ys ≡ take (roomOf label out) out ++ written_of (drop (roomOf label out) out) c
  whole =
      let d : drop (length out - a) (drop a out) ≡ [] = drop_of_length-le (drop a out) {i = length out - a} (omega (arith, length-drop a out)) in
      ap (λ (r : List ℕ). take a out ++ (ys ++ r)) d ∙ ap (◌++◌ (take a out)) (append-nil ys ∙ leaves) ∙ ap (λ (i : ℕ). take i out ++ written_of (drop (roomOf label out) out) c) ea

  pub labelled_put : w.refusal.number ≡ 0 → (after : List ℕ) → after ≡ labelPut label (put_mid a (length out - a) out ys) → after ≡ labelledLeft label out c
  unfolding labelledLeft
  labelled_put z after e =
      e ∙ ap (labelPut label) whole ∙ rw (ne_eqb _ _ some, ← writes, eq-eqb _ _ z)

  pub labelled_kept : (w.refusal.number ≡ 0 → ⊥) → put_mid a (length out - a) out ys ≡ labelledLeft label out c
  unfolding labelledLeft written_of writing_of
  labelled_kept z =
      let n : (refusal_of (drop (roomOf label out) out) c).number ≡ 0 → ⊥ = λ q. z (ap (λ (x : Writing). x.refusal.number) writes ∙ q) in
      whole ∙ rw (ne_eqb _ _ some, ne_eqb _ _ n) (take-append-drop (roomOf label out) out)
