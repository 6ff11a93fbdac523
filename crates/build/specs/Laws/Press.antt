-- The writer's image of what the layout lays is the build's image, and the writer refuses it for nothing but room: 10, 9 and 1
-- never come back.
use Prim.Native.Nat.{ℕ, ◌≤◌, ◌*◌, min, ◌/◌, ◌<◌, ◌+◌, ◌-◌, ◌%◌}
use mathlib.Core.List.{List, [], ◌∷◌, ◌++◌, append_assoc, append-nil}
use Rattle.std.specs.Prelude.{◌≡◌, refl, Bool, true, cond, replicate, ltb, eqb, Result, Ok, Err}
use Rattle.std.proofs.Math.Path.{ap}
use Rattle.std.proofs.Common.{◌∙◌, sym, length-drop, take_at, drop_at}
use Rattle.std.proofs.Math.Bool.{false}
use native.Mathlib.Omega.{arith}
use Rattle.std.proofs.Math.ListN.{length, get_or, take, drop, length-append}
use Rattle.std.proofs.lemmas.List.{length-replicate}
use Rattle.std.proofs.Math.Seq.{drop-drop, length-take-le}
use borrow.Author.Tests.{le-ltb, lt-ltb, ltb-true, ltb-false}
use Rattle.basics.specs.declared.Declined.{Declined}
use Rattle.basics.specs.Refusals.{refuse, no_refusal, passes, outcome_at, declined}
use Rattle.basics.specs.Laws.Outcomes.{outcome_at_ok, outcome_at_err, ok_at_value, ok_at_none, err_at_is, err_at_some}
use Rattle.basics.specs.Tables.{table}
use Rattle.basics.specs.Counts.{any}
use Rattle.basics.specs.Laws.Lists.{length_laid, laid_in}
use Rattle.basics.specs.Laws.Tables.{table_same, get_d_table}
use Rattle.basics.specs.Lists.{joined}
use Rattle.basics.specs.Laws.Tests.{cases, same_test, and_left, true_is_not_false, and_right}
use Rattle.basics.specs.Laws.Counts.{Place, any_at}
use Rattle.basics.specs.Laws.Refusals.{silent_behind}
use Rattle.basics.specs.Laws.Puts.{put_room}
use Rattle.places.specs.Places.{console}
use Rattle.places.specs.Limits.{locutus_paragraphs, lent, lent_limit, image_limit, page_size, page_paragraphs, paragraph_size}
use Rattle.header.specs.Header.{header_of}
use Rattle.header.specs.Laws.Header.{length_header}
use Rattle.tables.specs.Tables.{tables, flash_words, tables_rows}
use Rattle.blocks.specs.Blocks.{frame_size, end_mark}
use Rattle.label.specs.Label.{label_block, wrong_label}
use Rattle.save.specs.Writing.{Writing}
use Rattle.save.specs.Chosen.{tables_block, hunk_block, image_for, Sized}
use Rattle.save.specs.Writing.{Content, content, paragraph_of, is_marked, marked, past_lent, image_by, refusal_of, answer_for, save_answer, writing_of, written_of}
use Rattle.save.specs.Laws.Chosen.{chosen_same, image_parts, with_parts, length_tables_block}
use Rattle.lines.specs.declared.Line.{Line}
use Rattle.rules.specs.Accepted.{Accepted}
use Rattle.layout.specs.declared.Drawing.{Drawing}
use Rattle.layout.specs.Drawing.{ram_of, word_at, drawing_of}
use Rattle.layout.specs.Layout.{flip_table, covered, needed, pages, paragraph_words, written_of as word_of, line_held, paragraph_held}
use Rattle.layout.specs.Laws.Uses.{covered_below, covered_inside}
use Rattle.build.specs.declared.Built.{Built}
use Rattle.build.specs.Building.{outcome_of}
use Rattle.build.specs.Building.{hunks_for, flag_bytes, uid_of, tables_for, image_on, too_large}
use Rattle.build.specs.Code.Answers.{answered_of, short, whole, drawnContent, front_size, labelPut, roomOf, labelledOf, labelledLeft, Pressed}
use Rattle.build.specs.Laws.Image.{sized, supported, plain_limit, length_labelled, length_one}

-- a block put between the front and the rest of what stands behind room for it
insert : (front block rest tail before : List ℕ) (k n : ℕ) → length before ≡ k → length front ≡ n
    → (take n (drop k (before ++ ((front ++ rest) ++ tail))) ++ block) ++ drop (k + n) (before ++ ((front ++ rest) ++ tail)) ≡ (front ++ (block ++ rest)) ++ tail
insert front block rest tail before k n eb ef =
    let o : List ℕ = before ++ ((front ++ rest) ++ tail) in
    let d : drop k o ≡ front ++ (rest ++ tail) = drop_at before ((front ++ rest) ++ tail) k eb ∙ append_assoc front rest tail in
    let t : take n (drop k o) ≡ front = ap (take n) d ∙ take_at front (rest ++ tail) n ef in
    let r : drop (k + n) o ≡ rest ++ tail = sym (drop-drop n k o) ∙ ap (drop n) d ∙ drop_at front (rest ++ tail) n ef in
    rw (t, r) (simp append_assoc)

-- 29, or the image with the words that it needs
answer : (lines : List Line) (n : ℕ) (b : Bool) → answered_of (answer_for (cond b (refuse 29 0) no_refusal) n) (pages lines) ≡ cond b (short n) (whole n (needed lines))
answer lines n true = refl
answer lines n false = refl

-- with the length of a label's block beside it
abbrev longer_by : ℕ → Writing → Writing
longer_by k w = record { refusal = w.refusal; length = w.length + k }

longer_answer : (b : Bool) (m k n : ℕ) → n ≡ m + k → longer_by k (answer_for (cond b (refuse 29 0) no_refusal) m) ≡ answer_for (cond b (refuse 29 0) no_refusal) n
longer_answer true m k n e = rw e
longer_answer false m k n e = rw e

left_by : (b : Bool) (x y : List ℕ) → cond (passes (cond b (refuse 29 0) no_refusal)) x y ≡ cond b y x
left_by true x y = refl
left_by false x y = refl

module _ (bin : List ℕ) (lines : List Line) (accepted : Accepted bin lines) (fits : too_large lines ≡ false) (ram₀ ram : List ℕ) (long : length ram₀ ≡ lent_limit)
    (Laid-as : ram ≡ ram_of bin lines ram₀) where
  abbrev marks : List Bool
  marks = table locutus_paragraphs (covered lines)

  room : needed lines ≤ lent_limit
  unfolding too_large
  room = ltb-false lent_limit (needed lines) fits

  ram_long : length ram ≡ lent_limit
  unfolding ram_of
  ram_long = ap length Laid-as ∙ length_laid 0 (word_at bin lines) ram₀ (paragraph_size * min (page_paragraphs * pages lines) (length ram₀ / paragraph_size)) ∙ long

  word : (i : ℕ) → i < page_size * pages lines → get_or ram i 0 ≡ word_at bin lines i
  unfolding ram_of
  word i h =
      let z : 0 + i ≡ i = omega arith in
      rw Laid-as (rw z at (laid_in 0 (word_at bin lines) ram₀ (paragraph_size * min (page_paragraphs * pages lines) (length ram₀ / paragraph_size)) i (omega (arith, room)) (omega (arith, room))))

  words_there : (p : ℕ) → covered lines p ≡ true → paragraph_of ram p ≡ paragraph_words bin lines p
  unfolding paragraph_words
  words_there p e =
      let b : p < page_paragraphs * pages lines = covered_below lines p e in
      table_same 0 paragraph_size (λ i. get_or ram (paragraph_size * p + i) 0) (λ i. word_of bin (line_held lines p) (console (paragraph_size * paragraph_held lines p + i)))
      (λ i l.
      let q : (paragraph_size * p + i) / paragraph_size ≡ p = omega arith in
      let r : (paragraph_size * p + i) % paragraph_size ≡ i = omega arith in
      word (paragraph_size * p + i) (omega arith) ∙ rw (q, r))

  is_marked_lem : (p : ℕ) → p < locutus_paragraphs → is_marked marks p ≡ covered lines p
  unfolding is_marked
  is_marked_lem p h = get_d_table false locutus_paragraphs (covered lines) p h

  marked_are : marked ram marks ≡ hunks_for bin lines
  marked_are = chosen_same locutus_paragraphs (is_marked marks) (covered lines) (paragraph_of ram) (paragraph_words bin lines) is_marked_lem (λ p h e. words_there p e)

  module _ (cfg : List ℕ) where
    abbrev given : Content
    given = content flag_bytes (uid_of bin cfg) (tables_for lines) ram marks

    -- the image without a label
    abbrev plain : List ℕ
    plain = image_for flag_bytes (uid_of bin cfg) (tables_for lines) (hunks_for bin lines)

    inside : any locutus_paragraphs (past_lent given) ≡ false
    inside =
        cases (any locutus_paragraphs (past_lent given))
        (λ e.
        let w : Place locutus_paragraphs (past_lent given) = any_at locutus_paragraphs (past_lent given) e in
        let c : covered lines w.at ≡ true = sym (is_marked_lem w.at w.below) ∙ and_left (is_marked marks w.at) _ w.passes in
        true_is_not_false (and_right (is_marked marks w.at) _ w.passes)
        (le-ltb (lent ram) (paragraph_size * w.at + paragraph_size) (omega (arith, covered_inside lines w.at c, room, ram_long))))
        (λ e. e)

    image_is : image_by given ≡ plain
    image_is = ap (image_for flag_bytes (uid_of bin cfg) (tables_for lines)) marked_are

    module _ (out : List ℕ) where
      refusal : refusal_of out given ≡ cond (ltb (length out) (length plain)) (refuse 29 0) no_refusal
      unfolding refusal_of
      refusal =
          silent_behind (tables_rows flag_bytes (flip_table lines) (lent ram) (flash_words flag_bytes)) _
          (supported bin cfg lines accepted (lent ram) (flash_words flag_bytes))
          ∙ rw (inside, image_is, le-ltb image_limit (length plain) (plain_limit bin cfg lines))

      writing : writing_of out given ≡ answer_for (cond (ltb (length out) (length plain)) (refuse 29 0) no_refusal) (length plain)
      unfolding writing_of
      writing = rw (refusal, image_is)

      written : written_of out given ≡ cond (ltb (length out) (length plain)) out (plain ++ drop (length plain) out)
      unfolding written_of
      written =
          cases (ltb (length out) (length plain)) (λ e. rw (refusal, e))
          (λ e. rw (refusal, e, image_is) (put_room plain out (ltb-false _ _ e)))

    -- the writer's answer and buffer with a label, by the image with its block
    pub record Labelled (label out : List ℕ) (w : Writing) (after : List ℕ) : Type 0 where
      pub answer : w ≡ answer_for (cond (ltb (length out) (length (image_on bin cfg label lines))) (refuse 29 0) no_refusal) (length (image_on bin cfg label lines))
      pub leaves : after ≡ cond (ltb (length out) (length (image_on bin cfg label lines))) out (image_on bin cfg label lines ++ drop (length (image_on bin cfg label lines)) out)

    -- an empty label adds no block
    unlabelled : (label out : List ℕ) → eqb (length label) 0 ≡ true → Labelled label out (writing_of out given) (written_of out given)
    unfolding image_for
    unlabelled label out e =
        let i : image_on bin cfg label lines ≡ plain = rw e in
        record { answer = rw i (writing out); leaves = rw i (written out) }

    -- any other is put between the tables and the hunks
    module _ (label out : List ℕ) (e : eqb (length label) 0 ≡ false) where
      abbrev image : List ℕ
      image = image_on bin cfg label lines

      abbrev k : ℕ
      k = frame_size + length label

      longer : length image ≡ length plain + k
      longer = length_labelled bin cfg lines label ∙ rw e (ap (◌+◌ (length plain)) (length_one label))

      abbrev behind : List ℕ
      behind = joined hunk_block (hunks_for bin lines) ++ (end_mark ∷ [])

      abbrev front : List ℕ
      front = header_of flag_bytes (uid_of bin cfg) ++ tables_block (tables_for lines)

      front_long : length front ≡ front_size
      front_long =
          let z : Sized flag_bytes (uid_of bin cfg) (tables_for lines) = sized bin cfg lines in
          length-append (header_of flag_bytes (uid_of bin cfg)) (tables_block (tables_for lines))
          ∙ omega (arith, length_header flag_bytes (uid_of bin cfg) z.flags_long z.uid_long, length_tables_block flag_bytes (uid_of bin cfg) (tables_for lines) z)

      plain_is : plain ≡ front ++ behind
      plain_is = image_parts flag_bytes (uid_of bin cfg) (tables_for lines) (hunks_for bin lines)

      labelled_is : image ≡ front ++ (label_block label ++ behind)
      unfolding joined
      labelled_is =
          rw e (with_parts flag_bytes (uid_of bin cfg) (tables_for lines) (label_block label ∷ []) (hunks_for bin lines))
          ∙ ap (λ (x : List ℕ). front ++ (x ++ behind)) (append-nil (label_block label))

      -- room for both is room for the image behind room for the block
      same_room : ltb (length (drop (roomOf label out) out)) (length plain) ≡ ltb (length out) (length image)
      same_room =
          let d : length (drop (roomOf label out) out) ≡ length out - roomOf label out = length-drop (roomOf label out) out in
          let p : 0 < length plain = omega (arith, ap length plain_is, length-append front behind, front_long) in
          same_test (ltb (length (drop (roomOf label out) out)) (length plain)) (ltb (length out) (length image))
          (λ h. lt-ltb (length out) (length image) (omega (arith, ltb-true (length (drop (roomOf label out) out)) (length plain) h, d, longer)))
          (λ h. lt-ltb (length (drop (roomOf label out) out)) (length plain) (omega (arith, ltb-true (length out) (length image) h, d, longer, p)))

      inserted : ltb (length out) (length image) ≡ false
          → labelPut label (take (roomOf label out) out ++ (plain ++ drop (length plain) (drop (roomOf label out) out))) ≡ image ++ drop (length image) out
      unfolding labelPut
      inserted h =
          let l : length image ≤ length out = ltb-false _ _ h in
          let a : roomOf label out ≡ k = omega (arith, longer) in
          let tail : List ℕ = drop (length plain) (drop k out) in
          let o : List ℕ = take k out ++ ((front ++ behind) ++ tail) in
          let same-o : take (roomOf label out) out ++ (plain ++ drop (length plain) (drop (roomOf label out) out)) ≡ o =
          ap (λ (i : ℕ). take i out ++ (plain ++ drop (length plain) (drop i out))) a ∙ ap (λ (x : List ℕ). take k out ++ (x ++ tail)) plain_is in
          let before : length (take k out) ≡ k = length-take-le k out (omega (arith, longer)) in
          let fits : k + front_size ≤ length o =
          omega (arith, length-append (take k out) ((front ++ behind) ++ tail), length-append (front ++ behind) tail, length-append front behind, before, front_long) in
          let put : labelPut label o ≡ (take front_size (drop k o) ++ label_block label) ++ drop (k + front_size) o = rw (le-ltb (length o) (k + front_size) fits) in
          let n : k + length plain ≡ length image = omega (arith, longer) in
          let end : tail ≡ drop (length image) out = drop-drop (length plain) k out ∙ ap (λ (i : ℕ). drop i out) n in
          ap (labelPut label) same-o ∙ put ∙ insert front (label_block label) behind tail (take k out) k front_size before front_long
          ∙ ap (λ (x : List ℕ). x ++ tail) (sym labelled_is) ∙ ap (◌++◌ image) end

      abbrev wrote : List ℕ
      wrote = labelPut label (take (roomOf label out) out ++ written_of (drop (roomOf label out) out) given)

      labelled_answer : labelledOf label out given ≡ longer_by k (writing_of (drop (roomOf label out) out) given)
      unfolding labelledOf
      labelled_answer = rw e

      labelled_left : labelledLeft label out given ≡ cond (passes (writing_of (drop (roomOf label out) out) given).refusal) wrote out
      unfolding labelledLeft
      labelled_left = rw e

      left_is : cond (ltb (length out) (length image)) out wrote ≡ cond (ltb (length out) (length image)) out (image ++ drop (length image) out)
      left_is =
          cases (ltb (length out) (length image)) (λ h. rw h)
          (λ h.
          let n : ltb (length (drop (roomOf label out) out)) (length plain) ≡ false = same_room ∙ h in
          let w : written_of (drop (roomOf label out) out) given ≡ plain ++ drop (length plain) (drop (roomOf label out) out) = written (drop (roomOf label out) out) ∙ rw n in
          rw h (ap (λ (x : List ℕ). labelPut label (take (roomOf label out) out ++ x)) w ∙ inserted h))

      labelled : Labelled label out (labelledOf label out given) (labelledLeft label out given)
      labelled =
          record {
            answer =
                labelled_answer ∙ ap (longer_by k) (writing (drop (roomOf label out) out))
                ∙ ap (λ (b : Bool). longer_by k (answer_for (cond b (refuse 29 0) no_refusal) (length plain))) same_room
                ∙ longer_answer (ltb (length out) (length image)) (length plain) k (length image) longer;
            leaves =
                labelled_left
                ∙ ap (λ (w : Writing). cond (passes w.refusal) wrote out) (writing (drop (roomOf label out) out))
                ∙ ap (λ (b : Bool). cond (passes (cond b (refuse 29 0) no_refusal)) wrote out) same_room ∙ left_by (ltb (length out) (length image)) wrote out ∙ left_is;
          }

    by_label : (label out : List ℕ) → Labelled label out (labelledOf label out given) (labelledLeft label out given)
    unfolding labelledOf labelledLeft
    by_label label out = cases (eqb (length label) 0) (λ e. rw e (unlabelled label out e)) (λ e. labelled label out e)

    pressed_as :
        (label out : List ℕ) → wrong_label label ≡ false → (d : Drawing) → d ≡ drawing_of lines → (uid : List ℕ) → uid ≡ uid_of bin cfg → (w : Writing) (after : List ℕ) (r : Result Built Declined)
        → (w ≡ labelledOf label out (drawnContent uid d ram)) × (after ≡ labelledLeft label out (drawnContent uid d ram)) → r ≡ outcome_of (answered_of w d.pages)
        → Pressed bin cfg label lines out r after
    unfolding drawing_of
    pressed_as label out right d ed uid eu w after r ew er =
        let n : ℕ = length (image_on bin cfg label lines) in
        let a : w ≡ labelledOf label out given = rw (ed, eu) at ew.0 in
        let b : after ≡ labelledLeft label out given = rw (ed, eu) at ew.1 in
        let c : r ≡ outcome_of (answered_of w (pages lines)) = rw ed at er in
        let l : Labelled label out (labelledOf label out given) (labelledLeft label out given) = by_label label out in
        record {
          answer = c ∙ ap outcome_of (ap (λ (x : Writing). answered_of x (pages lines)) (a ∙ l.answer) ∙ answer lines n (ltb (length out) n) ∙ rw (fits, right));
          leaves = b ∙ l.leaves ∙ rw (fits, right);
        }

-- 20, as the code asks it of a drawing's pages
pub drawn_large : (lines : List Line) (d : Drawing) → d ≡ drawing_of lines → too_large lines ≡ ltb lent_limit (page_size * d.pages)
unfolding too_large drawing_of
drawn_large lines d e = rw e

pub pressed_large :
    (bin cfg label out : List ℕ) (lines : List Line) (d : Drawing) → d ≡ drawing_of lines → lent_limit < page_size * d.pages
    → (r : Declined) → r ≡ declined (refuse 20 0) 0 → Pressed bin cfg label lines out (Err r) out
pressed_large bin cfg label out lines d ed h r er =
    let t : too_large lines ≡ true = drawn_large lines d ed ∙ lt-ltb _ _ h in
    record { answer = ap Err er ∙ rw t; leaves = rw t }

-- 12, behind it
pub pressed_wrong :
    (bin cfg label out : List ℕ) (lines : List Line) (d : Drawing) → d ≡ drawing_of lines → page_size * d.pages ≤ lent_limit
    → (w : Bool) → w ≡ wrong_label label → w ≡ true → (r : Declined) → r ≡ declined (refuse 12 0) 0 → Pressed bin cfg label lines out (Err r) out
pressed_wrong bin cfg label out lines d ed h w ew t r er =
    let f : too_large lines ≡ false = drawn_large lines d ed ∙ le-ltb _ _ h in
    let v : wrong_label label ≡ true = sym ew ∙ t in
    record { answer = ap Err er ∙ rw (f, v); leaves = rw (f, v) }

-- what 12 leaves
pub label_passes : (label : List ℕ) (w : Bool) → w ≡ wrong_label label → w ≡ false → wrong_label label ≡ false
label_passes label w e f = sym e ∙ f

-- the writer's answer with the words that are needed
answered_by : (w : Writing) (pages : ℕ) → outcome_of (answered_of w pages) ≡ outcome_at w.refusal w.length (record { length = w.length; needed = page_size * pages })
answered_by w pages = cases (passes w.refusal) (λ e. rw e) (λ e. rw e)

pub answered_ok : (w : Writing) (pages n needed : ℕ) → Ok n ≡ save_answer w → needed ≡ page_size * pages → Ok (record { length = n; needed = needed }) ≡ outcome_of (answered_of w pages)
answered_ok w pages n needed o e =
    let l : w.length ≡ n = ok_at_value w.refusal w.length w.length n (sym o) in
    rw (← l, e) (sym (answered_by w pages ∙ outcome_at_ok w.refusal w.length _ (ok_at_none w.refusal w.length w.length n (sym o))))

pub answered_err : (w : Writing) (pages : ℕ) (d : Declined) → Err d ≡ save_answer w → Err d ≡ outcome_of (answered_of w pages)
answered_err w pages d o =
    let n : w.refusal.number ≡ 0 → ⊥ = err_at_some w.refusal w.length w.length d (sym o) in
    sym (answered_by w pages ∙ outcome_at_err w.refusal w.length _ n ∙ ap Err (err_at_is w.refusal w.length w.length d (sym o)))

-- as the code comes to the image
pub pressed_fitting :
    (bin cfg label out : List ℕ) (lines : List Line) → Accepted bin lines → (ram : List ℕ) (d : Drawing)
    → (d ≡ drawing_of lines) × (ram ≡ ram_of bin lines (replicate lent_limit 0)) → page_size * d.pages ≤ lent_limit
    → (o : Bool) → o ≡ wrong_label label → o ≡ false → (uid : List ℕ) → uid ≡ uid_of bin cfg → (after : List ℕ)
    → after ≡ labelledLeft label out (drawnContent uid d ram) → (r : Result Built Declined) → r ≡ outcome_of (answered_of (labelledOf label out (drawnContent uid d ram)) d.pages)
    → Pressed bin cfg label lines out r after
pressed_fitting bin cfg label out lines accepted ram d ed h o eo f uid eu after ea r er =
    pressed_as bin lines accepted (drawn_large lines d ed.0 ∙ le-ltb _ _ h) (replicate lent_limit 0) ram (length-replicate {A = ℕ} lent_limit 0) ed.1 cfg label out (label_passes label o eo f) d ed.0 uid eu
    _ after r (refl, ea) er

-- the writer given a drawing and the flag bytes
pub drawn_written :
    (out after uid flags ram : List ℕ) (d : Drawing) (w : Result ℕ Declined) → flags ≡ flag_bytes
    → (w ≡ save_answer (writing_of out (content flags uid (tables d.mapping d.permissions d.flips) ram d.marks)))
    × (after ≡ written_of out (content flags uid (tables d.mapping d.permissions d.flips) ram d.marks))
    → (w ≡ save_answer (writing_of out (drawnContent uid d ram))) × (after ≡ written_of out (drawnContent uid d ram))
drawn_written out after uid flags ram d w e q = rw e at q
