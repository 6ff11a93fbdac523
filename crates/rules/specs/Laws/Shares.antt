-- Rule 27 by owners: lines that share claim a place in common, and the least owner that a line meets is the least number of the earlier
-- lines with which it shares.
use Prim.Native.Nat.{ℕ, suc, ◌<◌, ◌+◌, ◌-◌, ◌*◌, ◌≤◌, max, ◌/◌, ◌%◌}
use Rattle.std.specs.Prelude.{Bool, false, ◌||◌, ◌&&◌, not, ◌≡◌, refl, List, [], ◌∷◌, ltb, leb}
use Rattle.std.proofs.Math.Bool.{true, cond}
use Rattle.std.proofs.Common.{◌∙◌, arith}
use Rattle.std.proofs.Math.Path.{sym}
use Rattle.std.proofs.Math.Logic.{⊎_elim}
use Rattle.std.proofs.Math.Dec.{eqb}
use borrow.Author.Tests.{ltb-true, ltb-false, eqb-true, eq-eqb, leb-true, eqb-false, le-leb, ne_eqb}
use Rattle.basics.specs.Lists.{Each, none, also}
use Rattle.basics.specs.Laws.Tests.{cases, and_left, and_right, and_true, or_left, or_right, or_false_left, or_false_right, same_test, or_cases}
use Rattle.basics.specs.Laws.Counts.{any_of, Place, any_at}
use Rattle.places.specs.Limits.{paragraphs, paragraph_size, flip_entries, chapter_pages, chapter_size}
use Rattle.lines.specs.declared.Entry.{Entry}
use Rattle.lines.specs.declared.Line.{Line}
use Rattle.lines.specs.Lines.{layer, first, last, holds}
use Rattle.lines.specs.Laws.Lines.{Within, within, holding, all_map}
use Rattle.lines.specs.Typed.{All, nil, cons}
use Rattle.owners.specs.Owners.{claims_paragraph, claims_page, only, lesser, least_has, least_owner, owners_of}
use Rattle.owners.specs.Laws.Owners.{meet_in, common, Apart, least_met}
use Rattle.rules.specs.Rules.{meets, shares, shares_earlier}
use Rattle.rules.specs.Code.Shapes.{Fine}
use Rattle.rules.specs.Code.Clashes.{Numbered}
use Rattle.rules.specs.Laws.Shapes.{aligned}

module _ (m e : Entry) (fm : Fine m) (fe : Fine e) where
  -- two plain entries that meet have the first paragraph of the higher one
  abbrev higher : ℕ
  higher = max (first m) (first e)

  module _ (p : layer m ≡ 0) (q : layer e ≡ 0) (x : first m ≤ last e) (y : first e ≤ last m) where
    higher_below : higher / paragraph_size < paragraphs
    higher_below = omega (arith, fm.ends, fe.ends, fm.ordered, fe.ordered)

    starts : higher % paragraph_size ≡ 0
    starts =
        cases (ltb (first m) (first e))
        (λ h. let k : higher ≡ first e = omega (arith, ltb-true (first m) (first e) h) in rw k (aligned fe).start)
        (λ h. let k : higher ≡ first m = omega (arith, ltb-false (first m) (first e) h) in rw k (aligned fm).start)

    claims : (f : Entry) → layer f ≡ 0 → first f ≤ higher → higher ≤ last f → claims_paragraph (higher / paragraph_size) f ≡ true
    claims f o u v =
        and_true (eqb (layer f) 0) (holds f (paragraph_size * (higher / paragraph_size))) (eq-eqb (layer f) 0 o)
        (holding f (paragraph_size * (higher / paragraph_size)) (record { from = omega (arith, starts); to = omega (arith, starts) }))

    met_plain : meet_in paragraphs claims_paragraph m e ≡ true
    met_plain =
        any_of paragraphs (λ i. claims_paragraph i m && claims_paragraph i e) (higher / paragraph_size) higher_below
        (and_true (claims_paragraph (higher / paragraph_size) m) (claims_paragraph (higher / paragraph_size) e)
        (claims m p (omega arith) (omega (arith, fm.ordered)))
        (claims e q (omega arith) (omega (arith, fe.ordered))))

  -- two PAGE entries of one chapter and page have that place
  abbrev place : ℕ
  place = chapter_pages * (first e / chapter_size) + (layer e - 1)

  top : layer e ≤ chapter_pages
  top = ⊎_elim (λ p. omega (arith, p.on)) (λ p. omega (arith, p.on, p.digit)) fe.shape

  module _ (p : layer m ≡ layer e) (q : layer e ≡ 0 → ⊥) (x : first m / chapter_size ≡ first e / chapter_size) where
    claims_page_lem : (f : Entry) → layer f ≡ layer e → first f / chapter_size ≡ first e / chapter_size → claims_page place f ≡ true
    claims_page_lem f o c =
        let a : place / chapter_pages ≡ first e / chapter_size = omega (arith, top, q) in
        let b : suc (place % chapter_pages) ≡ layer e = omega (arith, top, q) in
        and_true (eqb (layer f) (suc (place % chapter_pages))) (eqb (first f / chapter_size) (place / chapter_pages))
        (eq-eqb (layer f) (suc (place % chapter_pages)) (o ∙ sym b))
        (eq-eqb (first f / chapter_size) (place / chapter_pages) (c ∙ sym a))

    met_page : meet_in flip_entries claims_page m e ≡ true
    met_page =
        any_of flip_entries (λ i. claims_page i m && claims_page i e) place (omega (arith, fe.ends, fe.ordered, top))
        (and_true (claims_page place m) (claims_page place e) (claims_page_lem m p x) (claims_page_lem e refl refl))

  abbrev plainly : Bool
  plainly = meet_in paragraphs claims_paragraph m e

  abbrev pagely : Bool
  pagely = meet_in flip_entries claims_page m e

  met : shares m e ≡ true → plainly || pagely ≡ true
  unfolding shares
  met h =
      let p : layer m ≡ layer e = eqb-true (layer m) (layer e) (and_left _ _ h) in
      let r : cond (eqb (layer m) 0) (meets (first m) (last m) (first e) (last e)) (eqb (first m / chapter_size) (first e / chapter_size)) ≡ true =
      and_right (eqb (layer m) (layer e)) _ h in
      cases (eqb (layer m) 0)
      (λ z.
      let o : layer m ≡ 0 = eqb-true (layer m) 0 z in
      let s : meets (first m) (last m) (first e) (last e) ≡ true = rw z at r in
      or_left plainly pagely
      (met_plain o (sym p ∙ o) (leb-true (first m) (last e) (and_left _ _ s)) (leb-true (first e) (last m) (and_right (leb (first m) (last e)) _ s))))
      (λ z.
      let s : eqb (first m / chapter_size) (first e / chapter_size) ≡ true = rw z at r in
      or_right plainly pagely (met_page p (λ w. eqb-false (layer m) 0 z (p ∙ w)) (eqb-true (first m / chapter_size) (first e / chapter_size) s)))

  shared_plain : plainly ≡ true → shares m e ≡ true
  unfolding shares
  shared_plain h =
      let w : Place paragraphs (λ i. claims_paragraph i m && claims_paragraph i e) = any_at paragraphs _ h in
      let cm : claims_paragraph w.at m ≡ true = and_left _ _ w.passes in
      let ce : claims_paragraph w.at e ≡ true = and_right (claims_paragraph w.at m) _ w.passes in
      let u : Within m (paragraph_size * w.at) = within m (paragraph_size * w.at) (and_right (eqb (layer m) 0) _ cm) in
      let v : Within e (paragraph_size * w.at) = within e (paragraph_size * w.at) (and_right (eqb (layer e) 0) _ ce) in
      simp (
        eqb-true (layer m) 0 (and_left _ _ cm),
        eqb-true (layer e) 0 (and_left _ _ ce),
        le-leb (first m) (last e) (omega (arith, u.from, v.to)),
        le-leb (first e) (last m) (omega (arith, v.from, u.to)),
      )

  shared_page : pagely ≡ true → shares m e ≡ true
  unfolding shares
  shared_page h =
      let w : Place flip_entries (λ i. claims_page i m && claims_page i e) = any_at flip_entries _ h in
      let cm : claims_page w.at m ≡ true = and_left _ _ w.passes in
      let ce : claims_page w.at e ≡ true = and_right (claims_page w.at m) _ w.passes in
      let x : layer m ≡ suc (w.at % chapter_pages) = eqb-true (layer m) (suc (w.at % chapter_pages)) (and_left _ _ cm) in
      let y : layer e ≡ suc (w.at % chapter_pages) = eqb-true (layer e) (suc (w.at % chapter_pages)) (and_left _ _ ce) in
      let c : first m / chapter_size ≡ w.at / chapter_pages = eqb-true _ _ (and_right (eqb (layer m) (suc (w.at % chapter_pages))) _ cm) in
      let d : first e / chapter_size ≡ w.at / chapter_pages = eqb-true _ _ (and_right (eqb (layer e) (suc (w.at % chapter_pages))) _ ce) in
      simp (
        eq-eqb (layer m) (layer e) (x ∙ sym y),
        ne_eqb (layer m) 0 (omega arith),
        eq-eqb (first m / chapter_size) (first e / chapter_size) (c ∙ sym d),
      )

  -- sharing is a place in common
  pub shares_common : shares m e ≡ common m e
  unfolding common
  shares_common = same_test (shares m e) (plainly || pagely) met (λ h. ⊎_elim shared_plain shared_page (or_cases plainly pagely h))

-- a line that shares with none of the earlier ones
none_shared : (ls : List Line) (e : Entry) → shares_earlier ls e ≡ false → All (λ m. shares m e ≡ false) ls
none_shared [] e h = nil
none_shared (m ∷ ms) e h = cons (or_false_left _ _ h) (none_shared ms e (or_false_right (shares m.entry e) _ h))

both_all : {P Q : Entry → Type 0} {ls : List Line} → All P ls → All Q ls → All (λ m. (P m) × (Q m)) ls
both_all nil nil = nil
both_all (cons p ps) (cons q qs) = cons (p, q) (both_all ps qs)

pub none_common : (ls : List Line) (e : Entry) → All Fine ls → Fine e → shares_earlier ls e ≡ false → All (λ m. common m e ≡ false) ls
none_common ls e a f h = all_map (λ m q. sym (shares_common m e q.0 f) ∙ q.1) (both_all a (none_shared ls e h))

least_common : {ls : List Line} (e : Entry) → All Fine ls → Fine e → least_has (λ m. common m e) ls ≡ least_has (λ m. shares m e) ls
least_common e nil f = refl
least_common e (cons {l = l} p ps) f = rw (shares_common l.entry e p f, least_common e ps f)

-- the least owner that a line meets, among lines of which none shares with an earlier one
pub met_least : (ls : List Line) (e : Entry) → All Fine ls → Fine e → Apart ls → least_owner (owners_of ls) e ≡ least_has (λ m. shares m e) ls
met_least ls e a f p = least_met e ls p ∙ least_common e a f

-- numbers that are not 0 tell whether there is one
least_numbered : (b c : Bool) (s n : ℕ) → 0 < s → c ≡ not (eqb n 0) → b || c ≡ not (eqb (lesser (only b s) n) 0)
least_numbered true c s n h e =
    simp (ne_eqb s 0 (omega arith))
    (cases (eqb n 0) (λ z. rw (z, ne_eqb s 0 (omega arith)))
    (λ z. rw z (cases (ltb s n) (λ l. rw (l, ne_eqb s 0 (omega arith))) (λ l. rw (l, z)))))
least_numbered false c s n h e = e

pub shared_numbered : (ls : List Line) (e : Entry) → Each Numbered ls → shares_earlier ls e ≡ not (eqb (least_has (λ m. shares m e) ls) 0)
shared_numbered [] e none = refl
shared_numbered (m ∷ ms) e (also p ps) =
    least_numbered (shares m.entry e) (shares_earlier ms e) m.source (least_has (λ k. shares k e) ms) p (shared_numbered ms e ps)
