-- The plan of accepted lines takes a line, where there is one.
use Rattle.std.specs.Prelude.{◌*◌, ◌+◌, ◌/◌, ◌<◌, ◌≤◌, suc, zero, ℕ, ◌≡◌, refl, List, ◌∷◌, false, true, eqb}
use Rattle.std.proofs.Common.{◌∙◌, ap, ap₂, sym, ⊎_elim, arith, eq-eqb, eqb-true}
use Rattle.std.proofs.Math.Option.{some}
use Rattle.std.proofs.lemmas.Bool.{eqb-false}
use Rattle.basics.specs.Counts.{count}
use Rattle.basics.specs.Laws.Counts.{count_mono, count_more}
use Rattle.basics.specs.Laws.Tests.{cases, true_is_not_false}
use Rattle.lines.specs.Kinds.{kind_by}
use Rattle.lines.specs.Laws.Lines.{Within, holding}
use Rattle.lines.specs.Lines.{first, holds, layer, line_at}
use Rattle.lines.specs.Typed.{All, cons}
use Rattle.lines.specs.declared.Entry.{Entry}
use Rattle.lines.specs.declared.Entry.TheVariants.{Paged, Ram, Rom}
use Rattle.lines.specs.declared.Line.{Line}
use Rattle.lines.specs.declared.Width.TheVariants.{Eight, Sixteen}
use Rattle.rules.specs.Chapters.{kind_at, uses}
use Rattle.rules.specs.Code.Shapes.{Fine, PageLine, PlainLine}
use Rattle.rules.specs.Laws.Rules.{Good, uses_of}
use Rattle.rules.specs.Laws.Shapes.{aligned}
use Rattle.plan.specs.Fewest.{fewest, starts}
use Rattle.plan.specs.Laws.Runs.{starts_of}
use Rattle.plan.specs.OfLines.{plan_of}
use Rattle.plan.specs.Plan.{has_page, kinds}

-- a kind has a start at it or before it
start_before : (kind : ℕ → ℕ) (p : ℕ) → (kind p ≡ 0 → ⊥) → 1 ≤ count (starts kind) (suc p)
start_before kind p h =
    cases (starts kind p) (λ e. omega (arith, count_more (starts kind) p (suc p) e (omega arith))) (λ e. back p h e)
  where
    back : (n : ℕ) → (kind n ≡ 0 → ⊥) → starts kind n ≡ false → 1 ≤ count (starts kind) (suc n)
    back zero k e = true_is_not_false (starts_of kind zero (record { some = k; edge = λ z. absurd (z refl) })) e
    back (suc n) k e =
        cases (eqb (kind n) (kind (suc n)))
        (λ q.
        let z : kind n ≡ kind (suc n) = eqb-true (kind n) (kind (suc n)) q in
        let m : 1 ≤ count (starts kind) (suc n) =
        cases (starts kind n) (λ s. omega (arith, count_more (starts kind) n (suc n) s (omega arith))) (λ s. back n (λ w. k (sym z ∙ w)) s) in
        omega (arith, count_mono (starts kind) (suc n) (suc (suc n)) (omega arith)))
        (λ q.
        true_is_not_false
        (starts_of kind (suc n)
        (record {
          some = k;
          edge = λ w z. eqb-false (kind n) (kind (suc n)) q (ap kind (omega arith) ∙ z);
        }))
        e)

-- the kind of a paragraph of the console
kind_of_lem : (ls : List Line) (p : ℕ) → kinds (plan_of ls) p ≡ kind_at ls p
kind_of_lem ls p = ap (λ (n : ℕ). kind_at ls n) (omega arith)

no_kind : (e : Entry) → kind_by e ≡ 0 → ⊥
no_kind (Rom lo hi at) h = omega arith
no_kind (Paged lo hi at y) h = omega arith
no_kind (Ram lo hi Sixteen) h = omega arith
no_kind (Ram lo hi Eight) h = omega arith

pub plan_some : (l : Line) (ls : List Line) → Good (l ∷ ls) → 1 ≤ fewest (plan_of (l ∷ ls))
unfolding fewest
plan_some l ls g = by g.fine
  where
    by : All Fine (l ∷ ls) → 1 ≤ count (starts (kinds (plan_of (l ∷ ls)))) 256 + count (has_page (plan_of (l ∷ ls))) 256
    by (cons f fs) = ⊎_elim plainly pagely f.shape
      where
        from : Within l.entry (first l.entry)
        from = record { from = omega arith; to = f.ordered }

        plainly : PlainLine l.entry → 1 ≤ count (starts (kinds (plan_of (l ∷ ls)))) 256 + count (has_page (plan_of (l ∷ ls))) 256
        plainly p =
            let e : 256 * (first l.entry / 256) ≡ first l.entry = omega (arith, (aligned f).start) in
            let h : holds l.entry (256 * (first l.entry / 256)) ≡ true = rw e (holding l.entry (first l.entry) from) in
            let k : kinds (plan_of (l ∷ ls)) (first l.entry / 256) ≡ kind_by l.entry =
            kind_of_lem (l ∷ ls) (first l.entry / 256) ∙ rw (eq-eqb (layer l.entry) 0 p.on, h) in
            let n : first l.entry / 256 < 256 = omega (arith, f.ends, f.ordered) in
            omega (
              arith,
              start_before (kinds (plan_of (l ∷ ls))) (first l.entry / 256) (λ z. no_kind l.entry (sym k ∙ z)),
              count_mono (starts (kinds (plan_of (l ∷ ls)))) (suc (first l.entry / 256)) 256 n,
            )

        pagely : PageLine l.entry → 1 ≤ count (starts (kinds (plan_of (l ∷ ls)))) 256 + count (has_page (plan_of (l ∷ ls))) 256
        pagely p =
            let h : line_at (l ∷ ls) (suc p.page) (first l.entry) ≡ some l = rw (eq-eqb (layer l.entry) (suc p.page) p.on, holding l.entry (first l.entry) from) in
            let u : uses (l ∷ ls) (first l.entry / 4096) (suc p.page) ≡ true = uses_of g.fine (suc p.page) (first l.entry) l h in
            let n : ℕ = 16 * (first l.entry / 4096) + p.page in
            let e : has_page (plan_of (l ∷ ls)) n ≡ true = ap₂ (λ (a b : ℕ). uses (l ∷ ls) a (suc b)) (omega (arith, p.digit)) (omega (arith, p.digit)) ∙ u in
            omega (arith, count_more (has_page (plan_of (l ∷ ls))) n 256 e (omega (arith, f.ends, f.ordered, p.digit)))
