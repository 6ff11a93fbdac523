-- One law for each return of the functions behind the survey, and of the salvage: the buffer, and the answer.
use Prim.Native.Nat.{ℕ, ◌+◌, ◌-◌, ◌*◌, ◌<◌, ◌≤◌}
use mathlib.Core.Path.{◌≡◌, refl, sym, ap, ◌∙◌}
use mathlib.Core.List.{List, [], ◌∷◌, ◌++◌, append_assoc, append-nil}
use mathlib.Core.Bool.{Bool}
use native.Mathlib.Omega.{arith}
use borrow.Author.Tests.{lt-ltb, le-ltb, eq-eqb, ne_eqb, ltb-true}
use borrow.Rule.Slice.PartMut.{put_mid}
use lib.ListN.{length, take, drop, length-append}
use lib.Seq.{length-take-le}
use lib.Dec.{ltb}
use Rattle.std.specs.Prelude.{Result, Ok, Err}
use Rattle.basics.specs.declared.Refusal.{Refusal}
use Rattle.basics.specs.declared.Declined.{Declined}
use Rattle.basics.specs.Laws.Outcomes.{ok_none, ok_value, err_is, err_some}
use Rattle.basics.specs.Lists.{part, flat, put_front}
use Rattle.basics.specs.Refusals.{refuse, no_refusal, first_refusal, declined, passed}
use Rattle.basics.specs.Laws.Tests.{cases}
use Rattle.basics.specs.Laws.Refusals.{refused_front, silent_behind}
use Rattle.basics.specs.Laws.Wrote.{Wrote, wrote_none, wrote_set, wrote_part}
use Rattle.basics.specs.Laws.Puts.{put_short, put_wrote, wrote_put}
use Rattle.places.specs.Limits.{image_limit, card_limit}
use Rattle.header.specs.Header.{header_size, header_rows, header_refusal}
use Rattle.header.specs.Laws.Refusals.{header_accepted, accepted_length}
use Rattle.blocks.specs.Blocks.{frame_size}
use Rattle.blocks.specs.Images.{first_block}
use Rattle.recovery.specs.declared.Found.{Found}
use Rattle.recovery.specs.declared.Salvaged.{Salvaged}
use Rattle.recovery.specs.Salvage.{kept_in, closing, salvage_of, blocks_rows, image_refusal, refusal_of, salvage_answer, fitted, salvaging_of, written_of}
use Rattle.recovery.specs.Card.{answer_of, answered_of}
use Rattle.recovery.specs.Laws.Closed.{closed_is, length_closed}
use Rattle.recovery.specs.Laws.Salvage.{salvage_is}
use Rattle.recovery.specs.Laws.Refusals.{image_first, image_passed}
use Rattle.recovery.specs.Code.Passes.{closed_size, end_put, found_of, survey_of}

-- ---- the buffer

module _ (n : ℕ) where
  size-one : n < image_limit → n + 1 ≡ closed_size n
  size-one h = rw (lt-ltb _ _ h)

module _ (s out : List ℕ) (long : ℕ) (enough : header_size ≤ length s) (el : long ≡ first_block + length (flat (kept_in s))) where
  header_long : length (take header_size s) ≡ 32
  header_long = length-take-le header_size s enough

  parts : take header_size s ++ (flat (kept_in s) ++ closing long) ≡ salvage_of s
  parts = rw el (sym (salvage_is s ∙ closed_is (take header_size s) (kept_in s) header_long))

  module _ (room : closed_size long ≤ length out) (y₁ y₂ : List ℕ) (e₁ : y₁ ≡ put_front (part s 0 32) (take (32 - 0) (drop 0 out))) (e₂ : y₂ ≡ flat (kept_in s)) where
    abbrev after : List ℕ
    after = put_mid 32 (long - 32) (put_mid 0 (32 - 0) out y₁) y₂

    two-parts : Wrote out after (take header_size s ++ flat (kept_in s))
    two-parts =
        let w : Wrote out (put_mid 0 (32 - 0) out y₁) (take header_size s) =
        wrote_put out out [] 0 (32 - 0) y₁ (take header_size s) (wrote_none out) refl (sym header_long) (omega arith) e₁ in
        wrote_part out _ (take header_size s) 32 (long - 32) y₂ (flat (kept_in s)) w (sym header_long) (omega arith) (omega arith) e₂

    pub image-put : (last : List ℕ) → last ≡ end_put long after → last ≡ put_front (salvage_of s) out
    unfolding end_put
    image-put last ep =
        let x : List ℕ = take header_size s ++ flat (kept_in s) in
        ep
        ∙ cases (ltb long image_limit)
        (λ c.
        let h : long < image_limit = ltb-true _ _ c in
        let e : x ++ (0xFF ∷ []) ≡ salvage_of s = append_assoc (take header_size s) (flat (kept_in s)) (0xFF ∷ []) ∙ (rw c at parts) in
        let k : closed_size long ≡ long + 1 = sym (size-one long h) in
        let l : long ≡ length x = sym (length-append (take header_size s) (flat (kept_in s)) ∙ omega (arith, header_long)) in
        rw c (put_wrote out _ (salvage_of s) (rw (← e) (wrote_set out after x long 0xFF 0xFF two-parts l (omega arith) refl))))
        (λ c.
        let e : x ≡ salvage_of s = ap (◌++◌ (take header_size s)) (sym (append-nil (flat (kept_in s)))) ∙ (rw c at parts) in
        rw c (put_wrote out after (salvage_of s) (rw (← e) two-parts)))

-- ---- the answer

module _ (s : List ℕ) (enough : header_size ≤ length s) (found : Found) (ef : found ≡ found_of s) (n : ℕ) (en : n ≡ closed_size found.long) where
  size_is : n ≡ length (salvage_of s)
  size_is =
      en ∙ rw ef (sym (ap length (salvage_is s) ∙ length_closed (take header_size s) (kept_in s) (length-take-le header_size s enough)))

  pub finish-short : (out : List ℕ) → length out < n → (r : Refusal) → r ≡ refuse 29 0 → Err (declined r n) ≡ salvage_answer (fitted (length out) s)
  unfolding fitted
  finish-short out h r er =
      let k : length out < length (salvage_of s) = omega (arith, size_is) in
      rw (lt-ltb _ _ k, er, size_is)

  pub finish-kept : (out : List ℕ) → length out < n → out ≡ put_front (salvage_of s) out
  finish-kept out h = put_short (salvage_of s) out (omega (arith, size_is))

  pub finish-room : (out : List ℕ) → n ≤ length out → closed_size found.long ≤ length out
  finish-room out h = omega (arith, en)

  pub finish-long : found.long ≡ first_block + length (flat (kept_in s))
  finish-long = rw ef

  pub finish-good : (out : List ℕ) → n ≤ length out
      → Ok (record { length = n; kept = found.kept; dropped = found.dropped; stopped = found.stopped }) ≡ salvage_answer (fitted (length out) s)
  unfolding fitted
  finish-good out h =
      let k : length (salvage_of s) ≤ length out = omega (arith, size_is) in
      rw (le-ltb _ _ k, size_is, ef)

-- ---- the salvage

refused_by : (out s : List ℕ) (r : Refusal) → (r.number ≡ 0 → ⊥) → image_refusal s ≡ r → Err (declined r 0) ≡ salvage_answer (salvaging_of out s)
unfolding salvaging_of
refused_by out s r n e = rw (e, ne_eqb _ _ n) (rw (ne_eqb _ _ n))

kept_by : (out s : List ℕ) (r : Refusal) → (r.number ≡ 0 → ⊥) → image_refusal s ≡ r → out ≡ written_of out s
unfolding written_of
kept_by out s r n e =
    let k : refusal_of out s ≡ r = image_first out s (λ z. n (ap (λ (q : Refusal). q.number) (sym e) ∙ z)) ∙ e in
    rw (k, ne_eqb _ _ n)

-- 29 leaves the buffer, as a buffer with no room is left
fitted-by : (out s : List ℕ) → (image_refusal s).number ≡ 0 → put_front (salvage_of s) out ≡ written_of out s
unfolding written_of
fitted-by out s e =
    let k = image_passed out s e in
    cases (ltb (length out) (length (salvage_of s)))
    (λ l. let j : refusal_of out s ≡ refuse 29 0 = k ∙ rw l in rw j (sym (put_short (salvage_of s) out (ltb-true _ _ l))))
    (λ l. let j : refusal_of out s ≡ no_refusal = k ∙ rw l in rw j)

module _ (out s : List ℕ) where
  -- 1 to 4
  module _ (r : Refusal) (e : passed (header_refusal s) ≡ Err r) where
    head-some : r.number ≡ 0 → ⊥
    head-some z = err_some (header_refusal s) tt r e (ap (λ (q : Refusal). q.number) (err_is (header_refusal s) tt r e) ∙ z)

    head-is : image_refusal s ≡ r
    unfolding image_refusal
    head-is = refused_front (header_rows s) _ (err_some (header_refusal s) tt r e) ∙ err_is (header_refusal s) tt r e

    pub head_answers : Err (declined r 0) ≡ salvage_answer (salvaging_of out s)
    head_answers = refused_by out s r head-some head-is

    pub head_keeps : out ≡ written_of out s
    head_keeps = kept_by out s r head-some head-is

  module _ (u : Unit {0}) (e : passed (header_refusal s) ≡ Ok u) where
    zero : (header_refusal s).number ≡ 0
    zero = ok_none (header_refusal s) tt u e

    pub head-enough : header_size ≤ length s
    head-enough = (accepted_length s zero).0

    pub head-room : (notes : List Bool) → length notes ≡ 262144 → length s ≤ frame_size * length notes
    head-room notes l = omega (arith, (accepted_length s zero).1)

    behind-head : image_refusal s ≡ first_refusal (blocks_rows s)
    unfolding image_refusal
    behind-head = silent_behind (header_rows s) _ ((header_accepted s).0 zero)

    -- of the blocks
    module _ (r : Refusal) (d : survey_of s ≡ Err r) where
      denied-some : r.number ≡ 0 → ⊥
      unfolding survey_of
      denied-some z = err_some (first_refusal (blocks_rows s)) (found_of s) r d (ap (λ (q : Refusal). q.number) (err_is (first_refusal (blocks_rows s)) (found_of s) r d) ∙ z)

      denied-is : image_refusal s ≡ r
      unfolding survey_of
      denied-is = behind-head ∙ err_is (first_refusal (blocks_rows s)) (found_of s) r d

      pub denied-answers : Err (declined r 0) ≡ salvage_answer (salvaging_of out s)
      denied-answers = refused_by out s r denied-some denied-is

      pub denied-keeps : out ≡ written_of out s
      denied-keeps = kept_by out s r denied-some denied-is

    -- none
    module _ (found : Found) (g : survey_of s ≡ Ok found) where
      none : (image_refusal s).number ≡ 0
      unfolding survey_of
      none = ap (λ (q : Refusal). q.number) behind-head ∙ ok_none (first_refusal (blocks_rows s)) (found_of s) found g

      pub went-found : found ≡ found_of s
      unfolding survey_of
      went-found = sym (ok_value (first_refusal (blocks_rows s)) (found_of s) found g)

      pub went-answers : (w : Result Salvaged Declined) → w ≡ salvage_answer (fitted (length out) s) → w ≡ salvage_answer (salvaging_of out s)
      unfolding salvaging_of
      went-answers w ew = ew ∙ rw (eq-eqb _ _ none)

      pub went-written : (after : List ℕ) → after ≡ put_front (salvage_of s) out → after ≡ written_of out s
      unfolding written_of
      went-written after ea = ea ∙ fitted-by out s none

-- ---- the program's

module _ (out s : List ℕ) where
  pub long-answers : card_limit < length s → (r : Refusal) → r ≡ refuse 30 0 → Err (declined r 0) ≡ salvage_answer (answer_of out s)
  unfolding answer_of
  long-answers h r er = rw (lt-ltb _ _ h, er)

  pub long-keeps : card_limit < length s → out ≡ answered_of out s
  unfolding answered_of
  long-keeps h = rw (lt-ltb _ _ h)

  pub short-answers : length s ≤ card_limit → (w : Result Salvaged Declined) → w ≡ salvage_answer (salvaging_of out s) → w ≡ salvage_answer (answer_of out s)
  unfolding answer_of
  short-answers h w ew = ew ∙ rw (le-ltb _ _ h)

  pub short-written : length s ≤ card_limit → (after : List ℕ) → after ≡ written_of out s → after ≡ answered_of out s
  unfolding answered_of
  short-written h after ea = ea ∙ rw (le-ltb _ _ h)
