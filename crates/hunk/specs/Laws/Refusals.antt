-- A check passes exactly when a payload's data blocks fill it and its words lie in the RAM; it names a place exactly when the data blocks
-- before that place do so far and the one there does not (01, refusal 9).
use Rattle.std.specs.Prelude.{Result, Ok, Err}
use Rattle.std.specs.Prelude.{ℕ, ◌+◌, ◌≤◌, ◌<◌, ◌≡◌, refl, true, ◌⊎◌, ◌↔◌, ltb, eqb}
use Rattle.std.proofs.Math.Path.{sym, ap}
use Rattle.std.proofs.Common.{◌∙◌, inl}
use mathlib.Core.List.{List, [], ◌∷◌, ◌++◌, append-nil}
use Rattle.std.proofs.Math.Bool.{false}
use Rattle.std.proofs.Math.Logic.{inr}
use native.Mathlib.Omega.{arith}
use Rattle.std.proofs.Math.ListN.{length, length-append}
use borrow.Author.Tests.{ltb-true, ltb-false, lt-ltb, le-ltb, eqb-true, eqb-false, eq-eqb, ne_eqb, leb-false}
use Rattle.basics.specs.Laws.Tests.{cases, true_is_not_false}
use Rattle.basics.specs.Lists.{joined, lay}
use Rattle.basics.specs.Laws.Each.{joined_append}
use Rattle.basics.specs.Laws.Lay.{Inside}
use Rattle.places.specs.Limits.{lent}
use Rattle.hunk.specs.declared.Form.{Form}
use Rattle.hunk.specs.declared.Form.TheVariants.{Bytes, Decles, Words, Reserved}
use Rattle.hunk.specs.Forms.{is_reserved}
use Rattle.hunk.specs.Hunk.{address, form_at, count_at, size_at, words_at, whole_at, data_starts, end_of, words_of, check_blocks, check_hunk, break_of, store_hunk}
use Rattle.hunk.specs.Laws.Walk.{Intact, intact, past_end, Run, none, also, words_in, length_words, run_in, run_more, data_run, data_stop, data_all, data_end, More, data_split}

-- what a check that passes says: the payload has an address, its data blocks fill it to its end, and their n words lie in m words of RAM
pub record WholeIn (s : List ℕ) (m n : ℕ) : Type 0 where
  pub long : 3 ≤ length s
  pub all : end_of s ≡ length s
  pub count : n ≡ length (words_of s)
  pub inside : Inside (address s).0 (words_of s) m

-- data blocks from the first on up to place k are whole, and their n words lie in m words of RAM
pub record Reached (s : List ℕ) (m k n : ℕ) : Type 0 where
  pub before : List ℕ
  pub run : Run s 3 before k
  pub count : n ≡ length (words_in s before)
  pub inside : Inside (address s).0 (words_in s before) m

-- why the data block at k, behind n words of the hunk, breaks it
pub data Breaks (s : List ℕ) (m k n : ℕ) : Type 0 where
  reserved : form_at s k ≡ Reserved → Breaks s m k n
  cut : length s < k + size_at s k → Breaks s m k n
  outside : m < (address s).0 + (n + count_at s k) → Breaks s m k n

-- the place where a payload breaks: its first byte where it has no address, else that of the first data block that does
pub record BreaksAt (s : List ℕ) (m k : ℕ) : Type 0 where
  pub words : ℕ
  pub long : 3 ≤ length s
  pub here : k < length s
  pub reached : Reached s m k words
  pub why : Breaks s m k words

-- n words of a hunk, and those of these data blocks behind them, lie in the RAM: the check goes on behind them
pass : (s : List ℕ) (m n : ℕ) (ps qs : List ℕ) → (address s).0 + (n + length (words_in s ps)) ≤ m
    → check_blocks s m n (ps ++ qs) ≡ check_blocks s m (n + length (words_in s ps)) qs
unfolding check_blocks joined
pass s m n [] qs h = let e : n ≡ n + 0 = omega arith in rw (← e)
pass s m n (p ∷ ps) qs h =
    let l : length (words_in s (p ∷ ps)) ≡ count_at s p + length (words_in s ps) = length_words s p ps in
    let i : (address s).0 + (n + count_at s p) ≤ m = omega arith in
    let e : n + count_at s p + length (words_in s ps) ≡ n + length (words_in s (p ∷ ps)) = omega arith in
    rw (le-ltb _ _ i) (pass s m (n + count_at s p) ps qs (omega arith) ∙ ap (λ (k : ℕ). check_blocks s m k qs) e)

-- data blocks have words
some_words : {s ps : List ℕ} {p q : ℕ} → Run s p ps q → length (words_in s ps) ≡ 0 → ps ≡ []
some_words none e = refl
some_words {s} {p = p} (also {ps = ps} w r) e = let b : Intact s p = intact s p w in absurd (omega (arith, length_words s p ps))

module _ (s : List ℕ) (m k n : ℕ) (r : Reached s m k n) where
  -- the check goes on behind them
  pub reach_pass : (qs : List ℕ) → check_blocks s m 0 (r.before ++ qs) ≡ check_blocks s m n qs
  reach_pass qs = go r.inside
    where
      go : Inside (address s).0 (words_in s r.before) m → check_blocks s m 0 (r.before ++ qs) ≡ check_blocks s m n qs
      go (inl z) =
          let e : n ≡ 0 = r.count ∙ z in
          rw (some_words r.run z, e)
      go (inr i) = pass s m 0 r.before qs (omega arith) ∙ ap (λ (j : ℕ). check_blocks s m j qs) (omega (arith, r.count))

  -- one more
  pub reach_more : whole_at s k ≡ true → (address s).0 + (n + count_at s k) ≤ m → Reached s m (k + size_at s k) (n + count_at s k)
  unfolding joined
  reach_more w i =
      let l : length (words_in s (r.before ++ (k ∷ []))) ≡ n + count_at s k =
      ap length (joined_append (words_at s) r.before (k ∷ [])) ∙ length-append (words_in s r.before) (words_in s (k ∷ []))
      ∙ omega (arith, length_words s k [], r.count) in
      record { before = r.before ++ (k ∷ []); run = run_more r.run w; count = sym l; inside = inr (omega arith) }

  module _ (long : 3 ≤ length s) where
    blocks_checked : check_hunk s m ≡ check_blocks s m 0 (data_starts s)
    unfolding check_hunk
    blocks_checked = rw (le-ltb _ _ long)

    stopped : whole_at s k ≡ false → check_hunk s m ≡ check_blocks s m n []
    stopped v =
        blocks_checked ∙ ap (check_blocks s m 0) (data_all s r.before k r.run v ∙ sym (append-nil r.before)) ∙ reach_pass []

    -- behind them the payload ends, stands a data block that is cut or reserved, or one with a word outside
    pub reach_end : length s ≤ k → check_hunk s m ≡ Ok n
    unfolding check_blocks
    reach_end h =
        let v : whole_at s k ≡ false = past_end s k h in
        let e : end_of s ≡ k = data_end s r.before k r.run v in
        let f : end_of s ≡ length s = omega (arith, run_in r.run long) in
        stopped v ∙ rw (eq-eqb _ _ f)

    pub reach_wrong : k < length s → whole_at s k ≡ false → check_hunk s m ≡ Err k
    unfolding check_blocks
    reach_wrong h v =
        let e : end_of s ≡ k = data_end s r.before k r.run v in
        let f : k ≡ length s → ⊥ = λ z. omega arith in
        stopped v ∙ rw (e, ne_eqb _ _ f)

    pub reach_past : whole_at s k ≡ true → m < (address s).0 + (n + count_at s k) → check_hunk s m ≡ Err k
    unfolding check_blocks
    reach_past w h =
        let t : More (data_starts s) r.before k = data_split s r.before k r.run w in
        blocks_checked ∙ ap (check_blocks s m 0) t.is ∙ reach_pass (k ∷ t.rest) ∙ rw (lt-ltb _ _ h)

-- at the start
pub reach_none : (s : List ℕ) (m : ℕ) → Reached s m 3 0
unfolding joined
reach_none s m = record { before = []; run = none; count = refl; inside = inl refl }

pub cut_short : (s : List ℕ) (m : ℕ) → length s < 3 → check_hunk s m ≡ Err 0
unfolding check_hunk
cut_short s m h = rw (lt-ltb _ _ h)

-- a check that passes
blocks_whole : (s : List ℕ) (m k n : ℕ) (ps : List ℕ) → check_blocks s m k ps ≡ Ok n
    → (end_of s ≡ length s) × (n ≡ k + length (words_in s ps)) × ((length (words_in s ps) ≡ 0) ⊎ ((address s).0 + n ≤ m))
unfolding check_blocks joined
blocks_whole s m k n [] e =
    cases (eqb (end_of s) (length s))
    (λ t. let f : ◌≡◌ {A = Result ℕ ℕ} (Ok k) (Ok n) = rw t at e in let g : k ≡ n = cc in (eqb-true _ _ t, omega arith, inl refl))
    (λ t. let f : ◌≡◌ {A = Result ℕ ℕ} (Err (end_of s)) (Ok n) = rw t at e in let z : ◌≡◌ {A = ℕ} 0 1 = cc in absurd (omega arith))
blocks_whole s m k n (p ∷ ps) e =
    cases (ltb m ((address s).0 + (k + count_at s p)))
    (λ t. let f : ◌≡◌ {A = Result ℕ ℕ} (Err p) (Ok n) = rw t at e in let z : ◌≡◌ {A = ℕ} 0 1 = cc in absurd (omega arith))
    (λ t.
    let i : (address s).0 + (k + count_at s p) ≤ m = ltb-false _ _ t in
    let w = blocks_whole s m (k + count_at s p) n ps (rw t at e) in
    (w.0, omega (arith, length_words s p ps, w.1), inr (fits w.2 w.1 i)))
  where
    fits : {x : ℕ} → (x ≡ 0) ⊎ ((address s).0 + n ≤ m) → n ≡ k + count_at s p + x → (address s).0 + (k + count_at s p) ≤ m → (address s).0 + n ≤ m
    fits (inl z) q i = omega arith
    fits (inr j) q i = j

pub whole_words : (s : List ℕ) (m n : ℕ) → check_hunk s m ≡ Ok n → WholeIn s m n
unfolding check_hunk words_of
whole_words s m n e =
    cases (ltb (length s) 3) (λ t. let f : ◌≡◌ {A = Result ℕ ℕ} (Err 0) (Ok n) = rw t at e in let z : ◌≡◌ {A = ℕ} 0 1 = cc in absurd (omega arith))
    (λ t.
    let w = blocks_whole s m 0 n (data_starts s) (rw t at e) in
    record { long = ltb-false _ _ t; all = w.0; count = omega (arith, w.1); inside = lies w.2 w.1 })
  where
    lies : (length (words_in s (data_starts s)) ≡ 0) ⊎ ((address s).0 + n ≤ m) → n ≡ 0 + length (words_in s (data_starts s)) → Inside (address s).0 (words_in s (data_starts s)) m
    lies (inl z) q = inl z
    lies (inr i) q = inr (omega arith)

pub words_whole : (s : List ℕ) (m n : ℕ) → WholeIn s m n → check_hunk s m ≡ Ok n
unfolding words_of
words_whole s m n p =
    reach_end s m (end_of s) n (record { before = data_starts s; run = data_run s; count = p.count; inside = p.inside }) p.long (omega (arith, p.all))

pub passes_exactly : (s : List ℕ) (m n : ℕ) → (check_hunk s m ≡ Ok n) ↔ WholeIn s m n
passes_exactly s m n = (whole_words s m n, words_whole s m n)

-- a data block is not whole exactly when it is reserved or cut
is_reserved_lem : (f : Form) → is_reserved f ≡ true → f ≡ Reserved
is_reserved_lem Bytes e = true_is_not_false e refl
is_reserved_lem Decles e = true_is_not_false e refl
is_reserved_lem Words e = true_is_not_false e refl
is_reserved_lem Reserved e = refl

module _ (s : List ℕ) (m k n : ℕ) where
  not_whole : whole_at s k ≡ false → Breaks s m k n
  unfolding whole_at
  not_whole v =
      cases (is_reserved (form_at s k)) (λ e. reserved (is_reserved_lem (form_at s k) e))
      (λ e. cut (leb-false _ _ (rw e at v)))

  whole_not : Breaks s m k n → whole_at s k ≡ true → m < (address s).0 + (n + count_at s k)
  whole_not (reserved e) w = true_is_not_false (ap is_reserved e) (intact s k w).named
  whole_not (cut h) w = let b : Intact s k = intact s k w in absurd (omega arith)
  whole_not (outside h) w = h

-- the place that is named
blocks_broken : {p q : ℕ} {ps : List ℕ} (s : List ℕ) (m k n : ℕ) → 3 ≤ length s → Reached s m p n → Run s p ps q → q ≡ end_of s → check_blocks s m n ps ≡ Err k → BreaksAt s m k
unfolding check_blocks
blocks_broken s m k n = from n
  where
    from : {p q : ℕ} {ps : List ℕ} (n : ℕ) → 3 ≤ length s → Reached s m p n → Run s p ps q
        → q ≡ end_of s → check_blocks s m n ps ≡ Err k → BreaksAt s m k
    from {p} n l r none f e =
        cases (eqb (end_of s) (length s))
        (λ t. let g : ◌≡◌ {A = Result ℕ ℕ} (Ok n) (Err k) = rw t at e in let z : ◌≡◌ {A = ℕ} 0 1 = cc in absurd (omega arith))
        (λ t.
        let g : ◌≡◌ {A = Result ℕ ℕ} (Err (end_of s)) (Err k) = rw t at e in
        let d : k ≡ p = cc in
        let i : p ≤ length s = run_in r.run l in
        let y : p < length s = omega (arith, eqb-false (end_of s) (length s) t) in
        rw d (record { words = n; long = l; here = y; reached = r; why = not_whole s m p n (rw f (data_stop s)) }))
    from {p} n l r (also w rest) f e =
        cases (ltb m ((address s).0 + (n + count_at s p)))
        (λ t.
        let g : ◌≡◌ {A = Result ℕ ℕ} (Err p) (Err k) = rw t at e in
        let d : k ≡ p = cc in
        let b : Intact s p = intact s p w in
        let y : p < length s = omega arith in
        rw d (record { words = n; long = l; here = y; reached = r; why = outside (ltb-true _ _ t) }))
        (λ t. from (n + count_at s p) l (reach_more s m p n r w (ltb-false _ _ t)) rest f (rw t at e))

pub broken_breaks : (s : List ℕ) (m k : ℕ) → check_hunk s m ≡ Err k → ((length s < 3) × (k ≡ 0)) ⊎ BreaksAt s m k
unfolding check_hunk
broken_breaks s m k e =
    cases (ltb (length s) 3)
    (λ t. let f : ◌≡◌ {A = Result ℕ ℕ} (Err 0) (Err k) = rw t at e in let g : k ≡ 0 = cc in inl (ltb-true _ _ t, g))
    (λ t. inr (blocks_broken s m k 0 (ltb-false _ _ t) (reach_none s m) (data_run s) refl (rw t at e)))

pub breaks_broken : (s : List ℕ) (m k : ℕ) → ((length s < 3) × (k ≡ 0)) ⊎ BreaksAt s m k → check_hunk s m ≡ Err k
breaks_broken s m k (inl h) = cut_short s m h.0 ∙ ap Err (sym h.1)
breaks_broken s m k (inr b) =
    cases (whole_at s k)
    (λ w. reach_past s m k b.words b.reached b.long w (whole_not s m k b.words b.why w))
    (λ w. reach_wrong s m k b.words b.reached b.long b.here w)

pub breaks_exactly : (s : List ℕ) (m k : ℕ) → (check_hunk s m ≡ Err k) ↔ (((length s < 3) × (k ≡ 0)) ⊎ BreaksAt s m k)
breaks_exactly s m k = (broken_breaks s m k, breaks_broken s m k)

-- that place lies in the payload, or is its end where it is empty
pub break_within : (s : List ℕ) (m : ℕ) → break_of (check_hunk s m) ≤ length s
break_within s m = by (check_hunk s m) refl
  where
    named : {k : ℕ} → ((length s < 3) × (k ≡ 0)) ⊎ BreaksAt s m k → k ≤ length s
    named (inl h) = omega (arith, h.1)
    named (inr b) = omega (arith, b.here)

    by : (c : Result ℕ ℕ) → check_hunk s m ≡ c → break_of c ≤ length s
    by (Ok n) e = omega arith
    by (Err k) e = named (broken_breaks s m k e)

-- what a store leaves
module _ (s ram : List ℕ) where
  pub store_passed : (n : ℕ) → check_hunk s (lent ram) ≡ Ok n → store_hunk s ram ≡ lay (address s).0 (words_of s) ram
  unfolding store_hunk
  store_passed n e = rw e

  pub store_refused : (k : ℕ) → check_hunk s (lent ram) ≡ Err k → store_hunk s ram ≡ ram
  unfolding store_hunk
  store_refused k e = rw e
