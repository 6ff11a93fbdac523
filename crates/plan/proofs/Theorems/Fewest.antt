-- The plan of accepted lines takes no more lines than they are: a line lays one kind on paragraphs that had none, or adds one page.
use Prim.Native.Nat.{ℕ, suc, ◌+◌, ◌*◌, ◌/◌, ◌%◌, ◌-◌, ◌≤◌, ◌<◌}
use Rattle.std.specs.Prelude.{◌≡◌, refl, List, [], ◌∷◌, true, false, ◌&&◌, ◌||◌, ◌⊎◌, length, get_or, eqb}
use Rattle.std.proofs.Math.Path.{sym, ap}
use Rattle.std.proofs.Common.{◌∙◌}
use Rattle.std.proofs.Math.Bool.{not}
use Rattle.std.proofs.Math.Option.{none, some}
use Rattle.std.proofs.Math.Logic.{inl, inr, ⊎_elim}
use native.Mathlib.Omega.{arith}
use borrow.Author.Tests.{eq-eqb, ne_eqb, eqb-true, eqb-false}
use Rattle.basics.specs.Counts.{any, count}
use Rattle.basics.specs.Options.{is_some}
use Rattle.basics.specs.Laws.Counts.{any_same, count_same, count_but}
use Rattle.basics.specs.Laws.Tests.{cases}
use Rattle.lines.specs.declared.Line.{Line}
use Rattle.lines.specs.Lines.{first, layer, holds, line_at}
use Rattle.lines.specs.Kinds.{kind_by, kind_of}
use Rattle.lines.specs.Typed.{All, nil, cons}
use Rattle.lines.specs.Laws.Lines.{Within, within, holding}
use Rattle.rules.specs.Chapters.{line_in, uses, kind_at}
use Rattle.rules.specs.Code.Shapes.{Fine, PageLine}
use Rattle.rules.specs.Laws.Shapes.{aligned}
use Rattle.rules.specs.Laws.Rules.{Good, chapter_of_lem, one_owner}
use Rattle.plan.specs.Plan.{kinds, has_page}
use Rattle.plan.specs.Fewest.{starts, fewest}
use Rattle.plan.specs.OfLines.{plan_of}
use Rattle.plan.specs.Laws.Runs.{Laid, kept, begun, more, laid_starts}

-- a line holds an address on a layer; of two that do, the numbers are one
abbrev Here : Line → ℕ → ℕ → Type 0
Here l t a = eqb (layer l.entry) t && holds l.entry a ≡ true

abbrev Single : List Line → Type 0
Single ls = (d : Line) (t a i j : ℕ) → i < length ls → j < length ls → Here (get_or ls i d) t a → Here (get_or ls j d) t a → i ≡ j

single_rest : (l : Line) (ls : List Line) → Single (l ∷ ls) → Single ls
single_rest l ls s d t a i j b c h k = let e : suc i ≡ suc j = s d t a (suc i) (suc j) (omega arith) (omega arith) h k in omega arith

nobody : (d : Line) (t a : ℕ) (ls : List Line) → ((j : ℕ) → j < length ls → Here (get_or ls j d) t a → ⊥) → line_at ls t a ≡ none
nobody d t a [] n = refl
nobody d t a (m ∷ ms) n =
    cases (eqb (layer m.entry) t && holds m.entry a) (λ e. absurd (n 0 (omega arith) e))
    (λ e. rw e (nobody d t a ms (λ j b h. n (suc j) (omega arith) h)))

-- the kind of a paragraph of the console
kind_of_lem : (ls : List Line) (p : ℕ) → kinds (plan_of ls) p ≡ kind_at ls p
kind_of_lem ls p = ap (λ (n : ℕ). kind_at ls n) (omega arith)

-- one line more
module _ (l : Line) (ls : List Line) (fine : Fine l.entry) (single : Single (l ∷ ls)) where
  held : (t p : ℕ) → layer l.entry ≡ t → holds l.entry (256 * p) ≡ true → line_in (l ∷ ls) t p ≡ some l
  held t p o h = rw (eq-eqb (layer l.entry) t o, h)

  not_held : (t p : ℕ) → holds l.entry (256 * p) ≡ false → line_in (l ∷ ls) t p ≡ line_in ls t p
  not_held t p h = cases (eqb (layer l.entry) t) (λ e. rw (e, h)) (λ e. rw e)

  other_layer : (t p : ℕ) → (layer l.entry ≡ t → ⊥) → line_in (l ∷ ls) t p ≡ line_in ls t p
  other_layer t p d = rw (ne_eqb (layer l.entry) t d)

  uses_other : (x t : ℕ) → (layer l.entry ≡ t → ⊥) → uses (l ∷ ls) x t ≡ uses ls x t
  unfolding uses
  uses_other x t d =
      any_same 16 (λ k. is_some (line_in (l ∷ ls) t (16 * x + k))) (λ k. is_some (line_in ls t (16 * x + k)))
      (λ k h. ap is_some (other_layer t (16 * x + k) d))

  -- a plain line
  module _ (on : layer l.entry ≡ 0) where
    vacant : (p : ℕ) → holds l.entry (256 * p) ≡ true → line_in ls 0 p ≡ none
    vacant p h =
        let e : Here l 0 (256 * p) = rw (eq-eqb (layer l.entry) 0 on) h in
        nobody l 0 (256 * p) ls
        (λ j b k. let z : 0 ≡ suc j = single l 0 (256 * p) 0 (suc j) (omega arith) (omega arith) e k in omega arith)

    laid_kind : (p : ℕ) → holds l.entry (256 * p) ≡ true → kinds (plan_of (l ∷ ls)) p ≡ kind_by l.entry
    laid_kind p h = kind_of_lem (l ∷ ls) p ∙ ap kind_of (held 0 p on h)

    line_laid : (p : ℕ) → Laid (kinds (plan_of (l ∷ ls))) (kinds (plan_of ls)) (λ n. n ≡ first l.entry / 256) p
    line_laid p =
        cases (holds l.entry (256 * p))
        (λ h.
        let z : kinds (plan_of ls) p ≡ 0 = kind_of_lem ls p ∙ ap kind_of (vacant p h) in
        let w : Within l.entry (256 * p) = within l.entry (256 * p) h in
        cases (eqb p (first l.entry / 256)) (λ e. begun z (eqb-true p (first l.entry / 256) e))
        (λ e.
        let d : p ≡ first l.entry / 256 → ⊥ = eqb-false p (first l.entry / 256) e in
        let s : first l.entry % 256 ≡ 0 = (aligned fine).start in
        let b : holds l.entry (256 * (p - 1)) ≡ true =
        holding l.entry (256 * (p - 1)) (record { from = omega (arith, w.from); to = omega (arith, w.to) }) in
        more z (λ r. omega (arith, w.from)) (laid_kind (p - 1) b ∙ sym (laid_kind p h))))
        (λ h. kept (kind_of_lem (l ∷ ls) p ∙ ap kind_of (not_held 0 p h) ∙ sym (kind_of_lem ls p)))

    plain_more : fewest (plan_of (l ∷ ls)) ≤ fewest (plan_of ls) + 1
    unfolding fewest
    plain_more =
        let s : count (has_page (plan_of (l ∷ ls))) 256 ≡ count (has_page (plan_of ls)) 256 =
        count_same (has_page (plan_of (l ∷ ls))) (has_page (plan_of ls)) 256 (λ n h. uses_other (n / 16) (suc (n % 16)) (λ e. omega arith)) in
        omega (
          arith,
          count_but (starts (kinds (plan_of (l ∷ ls)))) (starts (kinds (plan_of ls))) (first l.entry / 256) 256 (λ p h e. laid_starts line_laid p e),
        )

  -- a PAGE line
  module _ (page : PageLine l.entry) where
    abbrev place : ℕ
    place = 16 * (first l.entry / 4096) + page.page

    elsewhere : (x k : ℕ) → (first l.entry / 4096 ≡ x → ⊥) → k < 16 → holds l.entry (256 * (16 * x + k)) ≡ false
    elsewhere x k d h =
        cases (holds l.entry (256 * (16 * x + k)))
        (λ e.
        let c : first l.entry / 4096 ≡ 256 * (16 * x + k) / 4096 = chapter_of_lem page.shape (256 * (16 * x + k)) (within l.entry (256 * (16 * x + k)) e) in
        absurd (d (c ∙ omega arith)))
        (λ e. e)

    uses_here : (x y : ℕ) → y < 16 → uses (l ∷ ls) x (suc y) ≡ true → (uses ls x (suc y) ≡ true) ⊎ (16 * x + y ≡ place)
    unfolding uses
    uses_here x y h e =
        cases (eqb (layer l.entry) (suc y))
        (λ q.
        let o : layer l.entry ≡ suc y = eqb-true (layer l.entry) (suc y) q in
        cases (eqb (first l.entry / 4096) x)
        (λ r. let z : first l.entry / 4096 ≡ x = eqb-true (first l.entry / 4096) x r in inr (omega (arith, page.on)))
        (λ r.
        inl
        (sym
        (any_same 16 (λ k. is_some (line_in (l ∷ ls) (suc y) (16 * x + k))) (λ k. is_some (line_in ls (suc y) (16 * x + k)))
        (λ k m. ap is_some (not_held (suc y) (16 * x + k) (elsewhere x k (eqb-false (first l.entry / 4096) x r) m))))
        ∙ e)))
        (λ q. inl (sym (uses_other x (suc y) (eqb-false (layer l.entry) (suc y) q)) ∙ e))

    page_more : fewest (plan_of (l ∷ ls)) ≤ fewest (plan_of ls) + 1
    unfolding fewest starts
    page_more =
        let k : (p : ℕ) → kinds (plan_of (l ∷ ls)) p ≡ kinds (plan_of ls) p =
        λ p. kind_of_lem (l ∷ ls) p ∙ ap kind_of (other_layer 0 p (λ e. omega (arith, page.on))) ∙ sym (kind_of_lem ls p) in
        let s : count (starts (kinds (plan_of (l ∷ ls)))) 256 ≡ count (starts (kinds (plan_of ls))) 256 =
        count_same (starts (kinds (plan_of (l ∷ ls)))) (starts (kinds (plan_of ls))) 256 (λ p h. again p _ _ _ _ (k p) (k (p - 1))) in
        omega (
          arith,
          count_but (has_page (plan_of (l ∷ ls))) (has_page (plan_of ls)) place 256
              (λ n h e. ⊎_elim (λ u. inl u) (λ u. inr (omega arith)) (uses_here (n / 16) (n % 16) (omega arith) e)),
        )
      where
        again : (p a b c d : ℕ) → a ≡ b → c ≡ d → not (eqb a 0) && (eqb p 0 || not (eqb c a)) ≡ not (eqb b 0) && (eqb p 0 || not (eqb d b))
        again p a b c d e f = rw (e, f)

  line_more : fewest (plan_of (l ∷ ls)) ≤ fewest (plan_of ls) + 1
  line_more = ⊎_elim (λ p. plain_more p.on) (λ p. page_more p) fine.shape

no_lines : fewest (plan_of []) ≡ 0
unfolding fewest starts count uses any
no_lines = refl

lines_most : (ls : List Line) → All Fine ls → Single ls → fewest (plan_of ls) ≤ length ls
lines_most [] nil s = omega (arith, no_lines)
lines_most (l ∷ ls) (cons f fs) s = omega (arith, line_more l ls f s, lines_most ls fs (single_rest l ls s))

pub plan_fewest : {lines : List Line} → Good lines → fewest (plan_of lines) ≤ length lines
plan_fewest {lines} g = lines_most lines g.fine (λ d t c i j. one_owner g d t c i j)
