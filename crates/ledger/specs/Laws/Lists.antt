-- Lines in an array: none, and one more.
use Rattle.std.specs.Prelude.{◌<◌, ◌≤◌, ℕ, ◌≡◌, List, [], ◌++◌, ◌∷◌, ◌⊎◌, get_or, length, replicate, set}
use Rattle.std.proofs.Common.{◌∙◌, ap, sym, inl, inr, arith, length-append, length-set, get_or-set_other, get_or-set_same}
use Rattle.std.proofs.Math.ListN.{get_or-append, get_or-eq_default}
use Rattle.std.proofs.lemmas.List.{get_or-replicate, length-replicate}
use Rattle.std.proofs.Math.Seq.{get_or-append_seam}
use Rattle.basics.specs.Laws.Tables.{get_d_table, length_table, table_of}
use Rattle.basics.specs.Laws.Tests.{compare}
use Rattle.basics.specs.Tables.{table}
use Rattle.places.specs.Limits.{line_limit}
use Rattle.lines.specs.declared.Line.{Line}
use Rattle.ledger.specs.Code.Lists.{added, list_of, no_line, shown}
use Rattle.ledger.specs.declared.Found.{Found}

-- n places
places_none : (n : ℕ) → replicate n no_line ≡ table n (λ i. get_or [] i no_line)
places_none n = table_of no_line n (λ i. get_or [] i no_line) (replicate n no_line) (length-replicate n no_line) (λ i l. get_or-replicate n i no_line no_line l)

module _ (ls : List Line) (x : Line) where
  get_d_more : (i : ℕ) → (i ≡ length ls → ⊥) → get_or ls i no_line ≡ get_or (ls ++ (x ∷ [])) i no_line
  get_d_more i h = go (compare i (length ls))
    where
      go : (i ≡ length ls) ⊎ ((i < length ls) ⊎ (length ls < i)) → get_or ls i no_line ≡ get_or (ls ++ (x ∷ [])) i no_line
      go (inl q) = absurd (h q)
      go (inr (inl l)) = sym (get_or-append ls (x ∷ []) no_line i l)
      go (inr (inr l)) =
          let k : length (ls ++ (x ∷ [])) ≤ i = rw length-append (omega arith) in
          get_or-eq_default ls no_line {n = i} (omega arith) ∙ sym (get_or-eq_default (ls ++ (x ∷ [])) no_line {n = i} k)

  get_d_last : (i : ℕ) → i ≡ length ls → get_or (ls ++ (x ∷ [])) i no_line ≡ x
  get_d_last i q = rw q (get_or-append_seam ls x [] no_line)

  -- the next place may lie past the end
  placed : (t : List Line) (i : ℕ) → i < length t → get_or t i no_line ≡ get_or ls i no_line → get_or (set t (length ls) x) i no_line ≡ get_or (ls ++ (x ∷ [])) i no_line
  placed t i l h = go (compare i (length ls))
    where
      go : (i ≡ length ls) ⊎ ((i < length ls) ⊎ (length ls < i)) → get_or (set t (length ls) x) i no_line ≡ get_or (ls ++ (x ∷ [])) i no_line
      go (inl q) = rw (← q) (get_or-set_same t i x no_line l) ∙ sym (get_d_last i q)
      go (inr (inl d)) = get_or-set_other t (length ls) i x no_line (λ q. omega arith) ∙ h ∙ get_d_more i (λ q. omega arith)
      go (inr (inr d)) = get_or-set_other t (length ls) i x no_line (λ q. omega arith) ∙ h ∙ get_d_more i (λ q. omega arith)

  places_more : (n : ℕ) → set (table n (λ i. get_or ls i no_line)) (length ls) x ≡ table n (λ i. get_or (ls ++ (x ∷ [])) i no_line)
  places_more n =
      let old : List Line = table n (λ i. get_or ls i no_line) in
      let long : length old ≡ n = length_table n (λ i. get_or ls i no_line) in
      table_of no_line n (λ i. get_or (ls ++ (x ∷ [])) i no_line) (set old (length ls) x) (length-set old (length ls) x ∙ long)
      (λ i l. placed old i (omega arith) (get_d_table no_line n (λ j. get_or ls j no_line) i l))

pub shown_none : (ls : List Line) → ls ≡ replicate line_limit no_line → ◌≡◌ {A = Found} (record { count = 0; lines = ls }) (list_of [])
unfolding shown
shown_none ls e = ap (λ (t : List Line). record { count = 0; lines = t }) (e ∙ places_none line_limit)

shown_more : (ls : List Line) (x : Line) → set (shown ls) (length ls) x ≡ shown (ls ++ (x ∷ []))
unfolding shown
shown_more ls x = places_more ls x line_limit

pub added_list : (ls : List Line) (x : Line) → added (list_of ls) x ≡ list_of (ls ++ (x ∷ []))
added_list ls x = λ i. record { count = sym (length-append ls (x ∷ [])) i; lines = shown_more ls x i }
