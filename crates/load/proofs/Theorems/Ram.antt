-- The RAM after a load, word by word: what demand 2 says of it.
use Rattle.std.specs.Prelude.{Result, Ok, Err}
use Rattle.std.specs.Prelude.{ℕ, ◌-◌, ◌<◌, ◌≤◌, ◌+◌, List, [], ◌∷◌, ◌++◌, ◌≡◌, refl, false, cond, Bool, true, ◌||◌, get_or, length, leb, ltb}
use Rattle.std.proofs.Common.{ap, sym, ◌∙◌, inr, inl, arith, eq-eqb, leb-true, ltb-true, ltb-false, leb-false}
use Rattle.std.proofs.Math.ListN.{get_or-eq_default}
use Rattle.basics.specs.Lists.{lay, Each, none as no_blocks, also as and_block}
use Rattle.basics.specs.Rows.{Silent}
use Rattle.basics.specs.Laws.Tests.{cases, and_left, and_right, or_false_left, or_false_right}
use Rattle.basics.specs.Laws.Lay.{lay_in, lay_out, length_lay, Inside}
use Rattle.basics.specs.Laws.Rows.{silent_left, silent_right}
use Rattle.places.specs.Limits.{lent}
use Rattle.sums.specs.Crc.{crc324_of}
use Rattle.hunk.specs.Hunk.{Hunk, check_hunk, broken}
use Rattle.hunk.specs.Laws.Refusals.{WholeIn, whole_words}
use Rattle.blocks.specs.Blocks.{payload_in, is_hunk, is_tables}
use Rattle.blocks.specs.Judged.{wrong_hunk, judge_rows}
use Rattle.blocks.specs.Images.{first_block, blocks_in, judge_all, hunks_in, overlay}
use Rattle.load.specs.Load.{refusal_of, loads, loading_of, load_ram_of, hunks_laid}
use Rattle.load.specs.Leaves.{names, named, Filled, Leaves}
use Rattle.load.specs.Laws.Refusals.{answer_refusal, Accepted, accepted}
use Rattle.load.proofs.Theorems.Passes.{judged_hunk, stored_over}

pub length_overlay : (hs : List Hunk) (ram : List ℕ) → length (overlay hs ram) ≡ length ram
unfolding overlay
length_overlay [] ram = refl
length_overlay (h ∷ hs) ram =
    length_overlay hs (lay h.address.0 h.words ram) ∙ length_lay h.address.0 h.words ram

-- a word by the hunks that name it: the last of them
abbrev last_word : List Hunk → ℕ → ℕ → ℕ
last_word [] i old = old
last_word (h ∷ hs) i old = last_word hs i (cond (names h i) (get_or h.words (i - h.address.0) 0) old)

lay_at : (h : Hunk) (ram : List ℕ) (i : ℕ) → i < length ram → get_or (lay h.address.0 h.words ram) i 0 ≡ cond (names h i) (get_or h.words (i - h.address.0) 0) (get_or ram i 0)
lay_at h ram i l =
    let a : ℕ = h.address.0 in
    cases (leb a i)
    (λ x.
    let k : a ≤ i = leb-true _ _ x in
    cases (ltb i (a + length h.words))
    (λ y.
    let j : i < a + length h.words = ltb-true _ _ y in
    let d : i ≡ a + (i - a) = omega arith in
    rw (x, y)
    (ap (λ (q : ℕ). get_or (lay a h.words ram) q 0) d ∙ lay_in a h.words ram (i - a) (omega arith) (omega arith)))
    (λ y. rw (x, y) (lay_out a h.words ram i (inr (ltb-false _ _ y)))))
    (λ x. rw x (lay_out a h.words ram i (inl (leb-false _ _ x))))

overlay_at : (hs : List Hunk) (ram : List ℕ) (i : ℕ) → i < length ram → get_or (overlay hs ram) i 0 ≡ last_word hs i (get_or ram i 0)
unfolding overlay
overlay_at [] ram i l = refl
overlay_at (h ∷ hs) ram i l =
    let k : length (lay h.address.0 h.words ram) ≡ length ram = length_lay h.address.0 h.words ram in
    overlay_at hs (lay h.address.0 h.words ram) i (omega arith) ∙ ap (last_word hs i) (lay_at h ram i l)

last_kept : (hs : List Hunk) (i old : ℕ) → named hs i ≡ false → last_word hs i old ≡ old
last_kept [] i old e = refl
last_kept (h ∷ hs) i old e =
    let a : names h i ≡ false = or_false_left (names h i) (named hs i) e in
    ap (λ (b : Bool). last_word hs i (cond b (get_or h.words (i - h.address.0) 0) old)) a
    ∙ last_kept hs i old (or_false_right (names h i) (named hs i) e)

last_later : (xs ys : List Hunk) (h : Hunk) (i old : ℕ) → names h i ≡ true → named ys i ≡ false → last_word (xs ++ (h ∷ ys)) i old ≡ get_or h.words (i - h.address.0) 0
last_later [] ys h i old e f =
    ap (λ (b : Bool). last_word ys i (cond b (get_or h.words (i - h.address.0) 0) old)) e ∙ last_kept ys i (get_or h.words (i - h.address.0) 0) f
last_later (x ∷ xs) ys h i old e f = last_later xs ys h i (cond (names x i) (get_or x.words (i - x.address.0) 0) old) e f

-- past the end nothing is named or changed
past_end : (hs : List Hunk) (ram : List ℕ) (i : ℕ) → length ram ≤ i → get_or (overlay hs ram) i 0 ≡ get_or ram i 0
past_end hs ram i h =
    let l : length (overlay hs ram) ≡ length ram = length_overlay hs ram in
    let k : length (overlay hs ram) ≤ i = omega arith in
    get_or-eq_default (overlay hs ram) 0 k ∙ sym (get_or-eq_default ram 0 h)

unnamed_kept : (hs : List Hunk) (ram : List ℕ) (i : ℕ) → named hs i ≡ false → get_or (overlay hs ram) i 0 ≡ get_or ram i 0
unnamed_kept hs ram i e =
    cases (ltb i (length ram)) (λ l. overlay_at hs ram i (ltb-true _ _ l) ∙ last_kept hs i (get_or ram i 0) e) (λ l. past_end hs ram i (ltb-false _ _ l))

-- the hunks of an image that loads lie in the words lent
whole_of : (s : List ℕ) (m : ℕ) (c : Result ℕ ℕ) → check_hunk s m ≡ c → broken c ≡ false → (n : ℕ) × (check_hunk s m ≡ Ok n)
whole_of s m (Ok n) e b = (n, e)
whole_of s m (Err k) e b = let z : ◌≡◌ {A = ℕ} 0 1 = cc in absurd (omega arith)

block_passed : (m : ℕ) (x : List ℕ) → wrong_hunk m x ≡ false → is_hunk x ≡ true → (n : ℕ) × WholeIn (payload_in x) m n
block_passed m x e h =
    let b : broken (check_hunk (payload_in x) m) ≡ false = rw h at e in
    let w = whole_of (payload_in x) m (check_hunk (payload_in x) m) refl b in
    (w.0, whole_words (payload_in x) m w.0 w.1)

abbrev Lies : ℕ → Hunk → Type 0
Lies m h = Inside h.address.0 h.words m

hunks_lie : (xs : List (List ℕ)) (m : ℕ) (e : Bool) (p : ℕ) → Silent (judge_all m e p xs) → Each (Lies m) (hunks_in xs)
unfolding hunks_in judge_all
hunks_lie [] m e p q = no_blocks
hunks_lie (x ∷ xs) m e p q =
    let rows = judge_rows m e p (crc324_of (payload_in x)) x in
    let on = hunks_lie xs m (e || is_tables x) (p + length x) (silent_right rows _ q) in
    cases (is_hunk x)
    (λ h. rw h (and_block (block_passed m x (judged_hunk m e p _ x (silent_left rows _ q)) h).1.inside on))
    (λ h. rw h on)

blocks_filled : (xs : List (List ℕ)) (m : ℕ) (e : Bool) (p : ℕ) → Silent (judge_all m e p xs) → Each Filled xs
unfolding judge_all
blocks_filled [] m e p q = no_blocks
blocks_filled (x ∷ xs) m e p q =
    let rows = judge_rows m e p (crc324_of (payload_in x)) x in
    and_block (record { all = λ h. (block_passed m x (judged_hunk m e p _ x (silent_left rows _ q)) h).1.all })
    (blocks_filled xs m (e || is_tables x) (p + length x) (silent_right rows _ q))

inside_names : (h : Hunk) (m i : ℕ) → Lies m h → names h i ≡ true → i < m
inside_names h m i (inl z) e =
    let a : h.address.0 ≤ i = leb-true _ _ (and_left _ _ e) in
    let b : i < h.address.0 + length h.words = ltb-true _ _ (and_right (leb h.address.0 i) _ e) in
    absurd (omega arith)
inside_names h m i (inr k) e =
    let b : i < h.address.0 + length h.words = ltb-true _ _ (and_right (leb h.address.0 i) _ e) in
    omega arith

past_named : (hs : List Hunk) (m i : ℕ) → Each (Lies m) hs → m ≤ i → named hs i ≡ false
past_named [] m i no_blocks l = refl
past_named (h ∷ hs) m i (and_block k ks) l =
    cases (names h i) (λ e. absurd (omega (arith, inside_names h m i k e))) (λ e. rw (e, past_named hs m i ks l))

each_last : (xs ys : List Hunk) (h : Hunk) (m : ℕ) → Each (Lies m) (xs ++ (h ∷ ys)) → Lies m h
each_last [] ys h m (and_block k ks) = k
each_last (x ∷ xs) ys h m (and_block k ks) = each_last xs ys h m ks

-- a load that is not refused
pub leaves : (s ram : List ℕ) (f : ℕ) → (loading_of s (lent ram) f).refusal.number ≡ 0 → Leaves s ram (loading_of s (lent ram) f) (load_ram_of s ram f)
unfolding loading_of load_ram_of
leaves s ram f e =
    let n : (refusal_of s (lent ram) f).number ≡ 0 = rw answer_refusal at e in
    let a : Accepted s (lent ram) f = accepted s (lent ram) f n in
    let go : loads s (lent ram) f ≡ true = eq-eqb _ _ n in
    let hs : List Hunk = hunks_in (blocks_in s) in
    let lie : Each (Lies (lent ram)) hs = hunks_lie (blocks_in s) (lent ram) false first_block a.blocks in
    rw go
    (record {
      long = length_overlay hs ram;
      last =
          λ xs ys h i split o q.
          let b : i < lent ram = inside_names h (lent ram) i (each_last xs ys h (lent ram) (rw split at lie)) o in
          (b, rw split (overlay_at (xs ++ (h ∷ ys)) ram i (omega arith) ∙ last_later xs ys h i (get_or ram i 0) o q));
      kept = λ i q. unnamed_kept hs ram i q;
      past = λ i l. unnamed_kept hs ram i (past_named hs (lent ram) i lie l);
      filled = blocks_filled (blocks_in s) (lent ram) false first_block a.blocks;
      words = refl;
      blocks = refl;
    })

-- and what it leaves is what the storing pass alone does
pub laid : (s ram : List ℕ) (f : ℕ) → (loading_of s (lent ram) f).refusal.number ≡ 0 → hunks_laid (blocks_in s) ram ≡ load_ram_of s ram f
unfolding load_ram_of
laid s ram f e =
    let n : (refusal_of s (lent ram) f).number ≡ 0 = rw answer_refusal at e in
    let go : loads s (lent ram) f ≡ true = eq-eqb _ _ n in
    stored_over (blocks_in s) (lent ram) false first_block ram refl (accepted s (lent ram) f n).blocks ∙ rw go
