-- The refusals of a salvage in 02's words: 1 to 4; of a block 7, 6 where it is the tables, 12 and 8; no tables block before the stop; what a load
-- refuses of flags and tables; a buffer that is too short. No block refuses by 9, and none by 6 that is a hunk: it is left out.
use Rattle.std.specs.Prelude.{ℕ, ◌+◌, ◌<◌, ◌≡◌, refl, List, [], ◌∷◌, ◌++◌, Bool, not, ◌||◌, ◌⊎◌, length, eqb, ltb}
use Rattle.std.proofs.Common.{sym, ap, ◌∙◌, inl, inr, arith, ltb-true, length-append}
use Rattle.std.proofs.Math.Bool.{true, false}
use Rattle.std.proofs.lemmas.Bool.{eqb-false}
use Rattle.basics.specs.declared.Refusal.{Refusal}
use Rattle.basics.specs.Lists.{flat, joined}
use Rattle.basics.specs.Rows.{Gives, here, later, Silent}
use Rattle.basics.specs.Refusals.{refuse, no_refusal}
use Rattle.basics.specs.Laws.Tests.{cases, and_left, and_right, or_cases, or_assoc, or_none, not-true, true_is_not_false}
use Rattle.basics.specs.Laws.Rows.{gives_first, gives_cases}
use Rattle.places.specs.Limits.{lent_limit}
use Rattle.sums.specs.Crc.{crc324_of}
use Rattle.header.specs.Header.{header_rows, flags_of}
use Rattle.tables.specs.Tables.{flash_words}
use Rattle.hunk.specs.Hunk.{check_hunk, broken}
use Rattle.blocks.specs.Blocks.{sum_said, payload_in, is_tables, is_hunk}
use Rattle.blocks.specs.Judged.{is_encrypted, wrong_metadata, wrong_tables, judge_rows, judged_of}
use Rattle.blocks.specs.Images.{first_block, blocks_in, any_tables}
use Rattle.recovery.specs.Salvage.{left_out, salvage_of, block_rows, kept_rows, end_rows, blocks_rows, image_rows, refusal_rows, salvaging_of}
use Rattle.recovery.specs.Laws.Kept.{hunk_out}
use Rattle.recovery.specs.Laws.Refusals.{refused_exactly}

-- a block at p, with a tables block before it or not
pub data BlockRefuses (earlier : Bool) (p : ℕ) (x : List ℕ) : Refusal → Type 0 where
  encrypted : is_encrypted x ≡ true → BlockRefuses earlier p x (refuse 7 p)
  sum : is_tables x ≡ true → (crc324_of (payload_in x) ≡ sum_said x → ⊥) → BlockRefuses earlier p x (refuse 6 p)
  metadata : wrong_metadata (crc324_of (payload_in x)) x ≡ true → BlockRefuses earlier p x (refuse 12 p)
  tables : wrong_tables earlier x ≡ true → BlockRefuses earlier p x (refuse 8 p)

-- an image
pub data Refuses (out s : List ℕ) : Refusal → Type 0 where
  header : {r : Refusal} → Gives (header_rows s) r → Refuses out s r
  block : {r : Refusal} (before after : List (List ℕ)) (x : List ℕ) → blocks_in s ≡ before ++ (x ∷ after)
      → BlockRefuses (any_tables before) (first_block + length (flat before)) x r → Refuses out s r
  none : any_tables (blocks_in s) ≡ false → Refuses out s (refuse 8 (length s))
  end : {r : Refusal} → Gives (end_rows lent_limit (flash_words (flags_of s)) (flags_of s) (blocks_in s)) r → Refuses out s r
  short : length out < length (salvage_of s) → Refuses out s (refuse 29 0)

-- ---- one block

module _ (e : Bool) (p : ℕ) (x : List ℕ) (d : left_out x ≡ false) where
  -- a hunk that a load refuses would be left out
  no_hunk : {r : Refusal} → Gives (judge_rows lent_limit e p (crc324_of (payload_in x)) x) r → (r.number ≡ 0 → ⊥) → is_hunk x ≡ true → ⊥
  unfolding judged_of
  no_hunk g n h = true_is_not_false (hunk_out e p x h (λ z. n (ap (λ (q : Refusal). q.number) (sym (gives_first no_refusal g)) ∙ z))) d

  by_row : {r : Refusal} → Gives (judge_rows lent_limit e p (crc324_of (payload_in x)) x) r → ((r.number ≡ 0 → ⊥) → is_hunk x ≡ true → ⊥) → BlockRefuses e p x r
  unfolding judge_rows
  by_row (here a) k = encrypted a
  by_row (later a (here b)) k =
      sum (is_tables_lem (or_cases (is_tables x) (is_hunk x) (and_left (is_tables x || is_hunk x) (not (eqb (crc324_of (payload_in x)) (sum_said x))) b)))
      (eqb-false _ _ (not-true _ (and_right (is_tables x || is_hunk x) _ b)))
    where
      is_tables_lem : (is_tables x ≡ true) ⊎ (is_hunk x ≡ true) → is_tables x ≡ true
      is_tables_lem (inl t) = t
      is_tables_lem (inr h) = absurd (k (λ z. omega arith) h)
  by_row (later a (later b (here m))) k = metadata m
  by_row (later a (later b (later m (here c)))) k = tables c
  by_row (later a (later b (later m (later c (here w))))) k = absurd (k (λ z. omega arith) (and_left (is_hunk x) (broken (check_hunk (payload_in x) lent_limit)) w))
  by_row (later a (later b (later m (later c (later _ g))))) k = elim g [ ]

block_by : {r : Refusal} (e : Bool) (p : ℕ) (x : List ℕ) → Gives (block_rows e p x) r → BlockRefuses e p x r
block_by {r} e p x g = cases (left_out x) (λ d. out (rw d at g)) (λ d. let k = rw d at g in by_row e p x d k (no_hunk e p x d k))
  where
    out : Gives [] r → BlockRefuses e p x r
    out k = let z : ◌≡◌ {A = ℕ} 0 1 = ap (λ (q : Refusal). q.number) (gives_first no_refusal k ∙ sym (gives_first (refuse 1 0) k)) in absurd (omega arith)

-- ---- blocks, and an image

record InBlock (e : Bool) (p : ℕ) (xs : List (List ℕ)) (r : Refusal) : Type 0 where
  pub before : List (List ℕ)
  pub block : List ℕ
  pub after : List (List ℕ)
  pub all : xs ≡ before ++ (block ∷ after)
  pub refuses : BlockRefuses (e || any_tables before) (p + length (flat before)) block r

in_block : {r : Refusal} (e : Bool) (p : ℕ) (xs : List (List ℕ)) → Gives (kept_rows e p xs) r → InBlock e p xs r
unfolding kept_rows any_tables joined
in_block e p [] g = elim g [ ]
in_block {r} e p (x ∷ xs) g = go (λ h. in_block (e || is_tables x) (p + length x) xs h) (gives_cases (block_rows e p x) _ g)
  where
    go : (Gives (kept_rows (e || is_tables x) (p + length x) xs) r → InBlock (e || is_tables x) (p + length x) xs r)
        → (Gives (block_rows e p x) r) ⊎ ((Silent (block_rows e p x)) × (Gives (kept_rows (e || is_tables x) (p + length x) xs) r)) → InBlock e p (x ∷ xs) r
    go on (inl h) =
        let k : p + 0 ≡ p = omega arith in
        record { before = []; block = x; after = xs; all = refl; refuses = rw (or_none, k) (block_by e p x h) }
    go on (inr h) =
        let i : InBlock (e || is_tables x) (p + length x) xs r = on h.1 in
        let k : p + length (x ++ flat i.before) ≡ p + length x + length (flat i.before) = omega (arith, length-append x (flat i.before)) in
        let o : e || any_tables (x ∷ i.before) ≡ e || is_tables x || any_tables i.before = or_assoc e (is_tables x) (any_tables i.before) in
        record { before = x ∷ i.before; block = i.block; after = i.after; all = ap (◌∷◌ x) i.all; refuses = rw (k, o) i.refuses }

module _ (out s : List ℕ) where
  reason : {r : Refusal} → Gives (refusal_rows out s) r → Refuses out s r
  unfolding blocks_rows
  reason {r} g = in_image (gives_cases (image_rows s) _ g)
    where
      by_block : InBlock false first_block (blocks_in s) r → Refuses out s r
      by_block i = block i.before i.after i.block i.all i.refuses

      by_end : {q : Refusal} → Gives ((not (any_tables (blocks_in s)), refuse 8 (length s)) ∷ end_rows lent_limit (flash_words (flags_of s)) (flags_of s) (blocks_in s)) q → Refuses out s q
      by_end (here n) = none (not-true (any_tables (blocks_in s)) n)
      by_end (later n k) = end k

      by_length : {q : Refusal} → Gives ((ltb (length out) (length (salvage_of s)), refuse 29 0) ∷ []) q → Refuses out s q
      by_length (here l) = short (ltb-true _ _ l)
      by_length (later _ g) = elim g [ ]

      in_blocks : (Gives (kept_rows false first_block (blocks_in s)) r) ⊎ ((Silent (kept_rows false first_block (blocks_in s))) × (Gives ((not (any_tables (blocks_in s)), refuse 8 (length s)) ∷ end_rows lent_limit (flash_words (flags_of s)) (flags_of s) (blocks_in s)) r)) → Refuses out s r
      in_blocks (inl k) = by_block (in_block false first_block (blocks_in s) k)
      in_blocks (inr k) = by_end k.1

      in_head : (Gives (header_rows s) r) ⊎ ((Silent (header_rows s)) × (Gives (blocks_rows s) r)) → Refuses out s r
      in_head (inl k) = header k
      in_head (inr k) = in_blocks (gives_cases (kept_rows false first_block (blocks_in s)) _ k.1)

      in_image : (Gives (image_rows s) r) ⊎ ((Silent (image_rows s)) × (Gives ((ltb (length out) (length (salvage_of s)), refuse 29 0) ∷ []) r)) → Refuses out s r
      in_image (inl k) = in_head (gives_cases (header_rows s) _ k)
      in_image (inr k) = by_length k.1

  -- a salvage that is refused is refused for one of these reasons
  pub refused_for : (r : Refusal) → (r.number ≡ 0 → ⊥) → (salvaging_of out s).refusal ≡ r → Refuses out s r
  refused_for r n e = reason ((refused_exactly out s r n).0 e)
