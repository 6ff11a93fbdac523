-- Owners: after no line and after one more; and, of lines that have no place in common, the least owner that an entry meets is the
-- least number of the lines with which it has a place in common.
use Rattle.std.specs.Prelude.{ℕ, ◌<◌, Bool, true, false, ◌&&◌, ◌||◌, List, [], ◌∷◌, ◌++◌, ◌≡◌, refl, get_or, replicate}
use Rattle.std.proofs.Common.{sym, ap, ◌∙◌}
use Rattle.std.proofs.lemmas.List.{length-replicate, get_or-replicate}
use Rattle.basics.specs.Counts.{any}
use Rattle.basics.specs.Tables.{table}
use Rattle.basics.specs.Laws.Tests.{cases, true_is_not_false, and_true, or_false_left, or_false_right}
use Rattle.basics.specs.Laws.Counts.{any_of}
use Rattle.basics.specs.Laws.Tables.{table_of, table_same, get_d_table}
use Rattle.places.specs.Limits.{paragraphs, flip_entries}
use Rattle.lines.specs.declared.Entry.{Entry}
use Rattle.lines.specs.declared.Line.{Line}
use Rattle.lines.specs.Typed.{All, nil, cons}
use Rattle.lines.specs.Laws.Lines.{all_end, all_map}
use Rattle.owners.specs.Owners.{claims_paragraph, claims_page, only, or_else, first_has, paragraph_owner, page_owner, owners_of, claimed_by, claimed_both, lesser, least_of, least_has, owned_by, least_owner}
use Rattle.owners.specs.Laws.Least.{else_none, else_assoc, only_none, lesser_none, lesser_both, least_same, least_join, least_only, least_nobody}

-- before any line nobody owns a place
pub nobody : (n : ℕ) → replicate {A = ℕ} n 0 ≡ table {A = ℕ} n (λ p. 0)
nobody n = table_of {A = ℕ} 0 n (λ p. 0) (replicate {A = ℕ} n 0) (length-replicate {A = ℕ} n 0) (λ i h. get_or-replicate {A = ℕ} n i 0 0 h)

-- after one more line
pub first_more : (has : Line → ℕ) (f : Entry → Bool) (ls : List Line) (l : Line) → first_has has f (ls ++ (l ∷ [])) ≡ or_else (first_has has f ls) (only (f l.entry) (has l))
first_more has f [] l = else_none (only (f l.entry) (has l))
first_more has f (m ∷ ls) l =
    ap (or_else (only (f m.entry) (has m))) (first_more has f ls l)
    ∙ sym (else_assoc (only (f m.entry) (has m)) (first_has has f ls) (only (f l.entry) (has l)))

pub claimed_more : (n : ℕ) (has : Line → ℕ) (claims : ℕ → Entry → Bool) (ls : List Line) (l : Line) (o : List ℕ) → o ≡ table n (λ p. first_has has (claims p) ls)
    → table n (claimed_by claims o l.entry (has l)) ≡ table n (λ p. first_has has (claims p) (ls ++ (l ∷ [])))
claimed_more n has claims ls l o e =
    table_same 0 n (claimed_by claims o l.entry (has l)) (λ p. first_has has (claims p) (ls ++ (l ∷ [])))
    (λ p h.
    let v : get_or o p 0 ≡ first_has has (claims p) ls = ap (λ (t : List ℕ). get_or t p 0) e ∙ get_d_table 0 n (λ i. first_has has (claims i) ls) p h in
    ap (λ (i : ℕ). or_else i (only (claims p l.entry) (has l))) v ∙ sym (first_more has (claims p) ls l))

pub owners_more : (ls : List Line) (l : Line) → claimed_both (owners_of ls) l ≡ owners_of (ls ++ (l ∷ []))
unfolding claimed_both owners_of
owners_more ls l =
    rw (
      claimed_more paragraphs (λ m. m.source) claims_paragraph ls l (table paragraphs (paragraph_owner ls)) refl,
      claimed_more flip_entries (λ m. m.source) claims_page ls l (table flip_entries (page_owner ls)) refl,
    )

-- two entries claim a place in common: a paragraph, or a page of a chapter
abbrev pub meet_in : ℕ → (ℕ → Entry → Bool) → Entry → Entry → Bool
meet_in n claims m e = any n (λ p. claims p m && claims p e)

unfoldable pub common : Entry → Entry → Bool
common m e = meet_in paragraphs claims_paragraph m e || meet_in flip_entries claims_page m e

-- no line has a place in common with a later one
pub data Apart : List Line → Type 0 where
  none : Apart []
  also : {l : Line} {ls : List Line} → All (λ m. common l.entry m ≡ false) ls → Apart ls → Apart (l ∷ ls)

pub apart_more : {ls : List Line} (l : Line) → Apart ls → All (λ m. common m l.entry ≡ false) ls → Apart (ls ++ (l ∷ []))
apart_more l none nil = also nil none
apart_more l (also a rest) (cons p ps) = also (all_end l a p) (apart_more l rest ps)

least_or : (f g : Entry → Bool) (ls : List Line) → lesser (least_has f ls) (least_has g ls) ≡ least_has (λ m. f m || g m) ls
least_or f g [] = refl
least_or f g (l ∷ ls) =
    lesser_both (f l.entry) (g l.entry) l.source (least_has f ls) (least_has g ls)
    ∙ ap (lesser (only (f l.entry || g l.entry) l.source)) (least_or f g ls)

module _ (n : ℕ) (claims : ℕ → Entry → Bool) where
  -- a place that a line claims is nobody's among lines with which it has none in common
  free : (l : Entry) {ls : List Line} → All (λ m. meet_in n claims l m ≡ false) ls → (p : ℕ) → p < n → claims p l ≡ true
      → first_has (λ m. m.source) (claims p) ls ≡ 0
  free l nil p h c = refl
  free l (cons {l = m} {ls = ls} q qs) p h c =
      cases (claims p m.entry)
      (λ d. true_is_not_false (any_of n (λ i. claims i l && claims i m.entry) p h (and_true (claims p l) (claims p m.entry) c d)) q)
      (λ d. rw d (free l qs p h c))

  owned_one : (a b : Bool) (s o : ℕ) → (a ≡ true → o ≡ 0) → only b (or_else (only a s) o) ≡ lesser (only (a && b) s) (only b o)
  owned_one true true s o h = rw (h refl) (else_none s ∙ sym (lesser_none s))
  owned_one true false s o h = refl
  owned_one false true s o h = refl
  owned_one false false s o h = refl

  -- no line claims a place of a later one
  data Clear : List Line → Type 0 where
    none : Clear []
    also : {l : Line} {ls : List Line} → All (λ m. meet_in n claims l.entry m ≡ false) ls → Clear ls → Clear (l ∷ ls)

  least_owned : (e : Entry) {ls : List Line} → Clear ls
      → least_of n (λ p. only (claims p e) (first_has (λ m. m.source) (claims p) ls)) ≡ least_has (λ m. meet_in n claims m e) ls
  least_owned e none = least_nobody n (λ p. only (claims p e) 0) (λ p h. only_none (claims p e))
  least_owned e (also {l = l} {ls = ls} a rest) =
      least_same n (λ p. only (claims p e) (first_has (λ m. m.source) (claims p) (l ∷ ls)))
      (λ p. lesser (only (claims p l.entry && claims p e) l.source) (only (claims p e) (first_has (λ m. m.source) (claims p) ls)))
      (λ p h. owned_one (claims p l.entry) (claims p e) l.source (first_has (λ m. m.source) (claims p) ls) (free l.entry a p h))
      ∙ least_join n (λ p. only (claims p l.entry && claims p e) l.source) (λ p. only (claims p e) (first_has (λ m. m.source) (claims p) ls))
      ∙ ap (λ (i : ℕ). lesser i (least_of n (λ p. only (claims p e) (first_has (λ m. m.source) (claims p) ls))))
      (least_only n (λ p. claims p l.entry && claims p e) l.source)
      ∙ ap (lesser (only (meet_in n claims l.entry e) l.source)) (least_owned e rest)

  least_read : (e : Entry) (ls : List Line) → least_of n (owned_by claims (table n (λ p. first_has (λ m. m.source) (claims p) ls)) e)
      ≡ least_of n (λ p. only (claims p e) (first_has (λ m. m.source) (claims p) ls))
  least_read e ls =
      least_same n (owned_by claims (table n (λ p. first_has (λ m. m.source) (claims p) ls)) e) (λ p. only (claims p e) (first_has (λ m. m.source) (claims p) ls))
      (λ p h. ap (only (claims p e)) (get_d_table 0 n (λ i. first_has (λ m. m.source) (claims i) ls) p h))

clear_paragraphs : {ls : List Line} → Apart ls → Clear paragraphs claims_paragraph ls
unfolding common
clear_paragraphs none = none
clear_paragraphs (also a rest) = also (all_map (λ m q. or_false_left _ _ q) a) (clear_paragraphs rest)

clear_pages : {ls : List Line} → Apart ls → Clear flip_entries claims_page ls
unfolding common
clear_pages none = none
clear_pages (also {l = l} a rest) = also (all_map (λ m q. or_false_right (meet_in paragraphs claims_paragraph l.entry m) _ q) a) (clear_pages rest)

pub least_met : (e : Entry) (ls : List Line) → Apart ls → least_owner (owners_of ls) e ≡ least_has (λ m. common m e) ls
unfolding least_owner owners_of common
least_met e ls a =
    rw (
      least_read paragraphs claims_paragraph e ls,
      least_owned paragraphs claims_paragraph e (clear_paragraphs a),
      least_read flip_entries claims_page e ls,
      least_owned flip_entries claims_page e (clear_pages a),
    )
    (least_or (λ m. meet_in paragraphs claims_paragraph m e) (λ m. meet_in flip_entries claims_page m e) ls)
