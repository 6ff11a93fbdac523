-- When a CFG is refused, with what, and at which line (01, Numbers that come back): one theorem of the answer.
use Rattle.std.specs.Prelude.{ℕ, zero, suc, ◌+◌, ◌<◌, List, [], ◌∷◌, ◌≡◌, refl, ◌⊎◌, ◌↔◌, Bool, true, false, cond, length, get_or}
use Rattle.std.proofs.Common.{ap, ◌∙◌, sym, inl, inr, arith}
use borrow.Author.Tests.{ltb-true, ne_eqb}
use Rattle.basics.specs.declared.Refusal.{Refusal}
use Rattle.basics.specs.Rows.{Gives, Silent}
use Rattle.basics.specs.Refusals.{refuse, no_refusal}
use Rattle.basics.specs.Laws.Rows.{silent_first, first_by}
use Rattle.basics.specs.Laws.Refusals.{Refusing, gives_refused, refused_exactly, accepted_exactly}
use Rattle.basics.specs.Laws.Tests.{cases, not-true, not-false}
use Rattle.text.specs.Bytes.{allowed, foreign, first_foreign}
use Rattle.text.specs.Lines.{line_of}
use Rattle.text.specs.Laws.Bytes.{until_passes, until_before}
use Rattle.grammar.specs.declared.Says.{Says}
use Rattle.grammar.specs.declared.Says.TheVariants.{Blank}
use Rattle.cfg.specs.File.{Reading}
use Rattle.cfg.specs.File.{says_of, is_outside, outside_from, outside_line, entries_of, refused, accepted, too_long, has_foreign, has_outside, no_entry, too_many, refusal_rows, refusal_of, reading_of}

-- the first byte that is not allowed is on this line
pub record FirstForeign (cfg : List ℕ) (line : ℕ) : Type 0 where
  pub at : ℕ
  pub within : at < length cfg
  pub foreign : allowed (get_or cfg at 0) (get_or cfg (suc at) 0) ≡ false
  pub first : (i : ℕ) → i < at → allowed (get_or cfg i 0) (get_or cfg (suc i) 0) ≡ true
  pub is : line ≡ line_of cfg at

-- this line is the first outside the grammar, by what the lines say; they are counted from n
pub record FirstOutside (n : ℕ) (xs : List Says) (line : ℕ) : Type 0 where
  pub at : ℕ
  pub within : at < length xs
  pub outside : is_outside (get_or xs at Blank) ≡ true
  pub first : (i : ℕ) → i < at → is_outside (get_or xs i Blank) ≡ false
  pub is : line ≡ n + at

pub record Exactly (cfg : List ℕ) (answer : Reading) : Type 0 where
  -- refused so exactly when that row holds and none before it does
  pub refuses : (r : Refusal) → (r.number ≡ 0 → ⊥) → (answer ≡ refused r) ↔ Gives (refusal_rows cfg) r
  -- accepted, with all its entries, exactly when no row holds
  pub accepts : (answer.refusal.number ≡ 0) ↔ Silent (refusal_rows cfg)
  pub entries : Silent (refusal_rows cfg) → answer ≡ accepted (entries_of cfg)
  -- 22 names the line of the first byte that is not allowed, 23 the first line outside the grammar
  pub foreign : (n : ℕ) → answer ≡ refused (refuse 22 (suc n)) → FirstForeign cfg (suc n)
  pub outside : (n : ℕ) → answer ≡ refused (refuse 23 n) → FirstOutside 1 (says_of cfg) n

-- what a line's number stands for
foreign_first : (cfg : List ℕ) (n : ℕ) → first_foreign cfg < length cfg → n ≡ line_of cfg (first_foreign cfg) → FirstForeign cfg n
foreign_first cfg n h e =
    record {
      at = first_foreign cfg;
      within = h;
      foreign = not-true (allowed (get_or cfg (first_foreign cfg) 0) (get_or cfg (suc (first_foreign cfg)) 0)) (until_passes foreign cfg h);
      first = λ i l. not-false (allowed (get_or cfg i 0) (get_or cfg (suc i) 0)) (until_before foreign cfg i l);
      is = e;
    }

before : (x : Says) (xs : List Says) (k : ℕ) → is_outside x ≡ false → ((i : ℕ) → i < k → is_outside (get_or xs i Blank) ≡ false)
    → (i : ℕ) → i < suc k → is_outside (get_or (x ∷ xs) i Blank) ≡ false
before x xs k e f zero l = e
before x xs k e f (suc i) l = f i (omega arith)

outside_first : (n : ℕ) (xs : List Says) → 0 < outside_from n xs → FirstOutside n xs (outside_from n xs)
unfolding outside_from
outside_first n [] h = absurd (omega arith)
outside_first n (x ∷ xs) h =
    cases (is_outside x)
    (λ e. rw e (record { at = 0; within = omega arith; outside = e; first = λ i l. absurd (omega arith); is = omega arith }))
    (λ e.
    let r : FirstOutside (n + 1) xs (outside_from (n + 1) xs) = outside_first (n + 1) xs (rw e at h) in
    rw e
    (record {
      at = suc r.at;
      within = omega (arith, r.within);
      outside = r.outside;
      first = before x xs r.at e r.first;
      is = omega (arith, r.is);
    }))

module _ (cfg : List ℕ) where
  pub each_refuses : Refusing (refusal_rows cfg)
  each_refuses = ((λ z. omega arith), ((λ z. omega arith), ((λ z. omega arith), ((λ z. omega arith), ((λ z. omega arith), tt)))))

  silent : Silent (refusal_rows cfg) → reading_of cfg ≡ accepted (entries_of cfg)
  unfolding reading_of
  silent s = rw (silent_first no_refusal s)

  given : (r : Refusal) → (r.number ≡ 0 → ⊥) → refusal_of cfg ≡ r → reading_of cfg ≡ refused r
  unfolding reading_of
  given r h e = rw (e, ne_eqb r.number 0 h)

  -- the answer's refusal is the table's
  pub refusal_is : (reading_of cfg).refusal ≡ refusal_of cfg
  refusal_is = go (first_by (refusal_rows cfg) no_refusal)
    where
      go : (Gives (refusal_rows cfg) (refusal_of cfg)) ⊎ (Silent (refusal_rows cfg)) → (reading_of cfg).refusal ≡ refusal_of cfg
      go (inl g) = ap (λ (x : Reading). x.refusal) (given (refusal_of cfg) (gives_refused each_refuses g) refl)
      go (inr s) = ap (λ (x : Reading). x.refusal) (silent s) ∙ sym (silent_first no_refusal s)

  refused_as : (r : Refusal) → reading_of cfg ≡ refused r → refusal_of cfg ≡ r
  refused_as r e = sym refusal_is ∙ ap (λ (x : Reading). x.refusal) e

-- of 01's five rows, the one that a number and a line belong to
number_of : (r s : Refusal) → r ≡ s → r.number ≡ s.number
number_of r s e = ap (λ (x : Refusal). x.number) e

place_of : (r s : Refusal) → r ≡ s → r.place ≡ s.place
place_of r s e = ap (λ (x : Refusal). x.place) e

module _ (l m k n : ℕ) where
  row_22 : (a b c d e : Bool) → cond a (refuse 22 0) (cond b (refuse 22 l) (cond c (refuse 23 m) (cond d (refuse 24 0) (cond e (refuse 24 k) no_refusal)))) ≡ refuse 22 (suc n)
      → (b ≡ true) × (suc n ≡ l)
  row_22 true b c d e p = absurd (omega (arith, place_of _ _ p))
  row_22 false true c d e p = (refl, sym (place_of _ _ p))
  row_22 false false true d e p = absurd (omega (arith, number_of _ _ p))
  row_22 false false false true e p = absurd (omega (arith, number_of _ _ p))
  row_22 false false false false true p = absurd (omega (arith, number_of _ _ p))
  row_22 false false false false false p = absurd (omega (arith, number_of _ _ p))

  row_23 : (a b c d e : Bool) → cond a (refuse 22 0) (cond b (refuse 22 l) (cond c (refuse 23 m) (cond d (refuse 24 0) (cond e (refuse 24 k) no_refusal)))) ≡ refuse 23 n
      → (c ≡ true) × (n ≡ m)
  row_23 true b c d e p = absurd (omega (arith, number_of _ _ p))
  row_23 false true c d e p = absurd (omega (arith, number_of _ _ p))
  row_23 false false true d e p = (refl, sym (place_of _ _ p))
  row_23 false false false true e p = absurd (omega (arith, number_of _ _ p))
  row_23 false false false false true p = absurd (omega (arith, number_of _ _ p))
  row_23 false false false false false p = absurd (omega (arith, number_of _ _ p))

pub exactly : (cfg : List ℕ) → Exactly cfg (reading_of cfg)
exactly cfg =
    record {
      refuses = λ r h. (
        λ e. (refused_exactly (refusal_rows cfg) (each_refuses cfg) r h).0 (refused_as cfg r e),
        λ g. given cfg r h ((refused_exactly (refusal_rows cfg) (each_refuses cfg) r h).1 g),
      );
      accepts = (
        λ e. (accepted_exactly (refusal_rows cfg) (each_refuses cfg)).0 (number_of _ _ (sym (refusal_is cfg)) ∙ e),
        λ s. ap (λ (x : Reading). x.refusal.number) (silent cfg s),
      );
      entries = silent cfg;
      foreign =
          λ n e.
          let r : (has_foreign cfg ≡ true) × (suc n ≡ line_of cfg (first_foreign cfg)) = row_22 _ _ _ n (too_long cfg) (has_foreign cfg) (has_outside cfg) (no_entry cfg) (too_many cfg) (refused_as cfg _ e) in
          foreign_first cfg (suc n) (ltb-true _ _ r.0) r.1;
      outside =
          λ n e.
          let r : (has_outside cfg ≡ true) × (n ≡ outside_line cfg) = row_23 _ _ _ n (too_long cfg) (has_foreign cfg) (has_outside cfg) (no_entry cfg) (too_many cfg) (refused_as cfg _ e) in
          rw r.1 (outside_first 1 (says_of cfg) (ltb-true _ _ r.0));
    }
