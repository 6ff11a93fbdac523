-- The plan of accepted lines is valid.
use Rattle.std.specs.Prelude.{ℕ, suc, ◌+◌, ◌*◌, ◌<◌, ◌≡◌, List, true, false, eqb}
use Rattle.std.proofs.Math.Path.{refl}
use Rattle.std.proofs.Common.{sym, ◌∙◌, ⊎_elim, arith}
use Rattle.std.proofs.Math.Option.{Option, none, some}
use borrow.Author.Tests.{eqb-false, le-leb}
use Rattle.basics.specs.Laws.Counts.{any_at, Place}
use Rattle.basics.specs.Laws.Tests.{cases, or_left, or_right}
use Rattle.lines.specs.declared.Entry.{Entry}
use Rattle.lines.specs.declared.Entry.TheVariants.{Rom, Paged, Ram}
use Rattle.lines.specs.declared.Line.{Line}
use Rattle.lines.specs.declared.Width.TheVariants.{Sixteen, Eight}
use Rattle.lines.specs.Kinds.{kind_by, kind_of}
use Rattle.rules.specs.Chapters.{line_in, uses, paged, kind_at, under, bare}
use Rattle.rules.specs.Laws.Rules.{Good, Used, Flips, used_at, found_open, found_flips, under_or_bare}
use Rattle.plan.specs.Plan.{range_is, is_bare}
use Rattle.plan.specs.Valid.{Valid, quiet, may_flip, allowed}
use Rattle.plan.specs.OfLines.{plan_of}
use Rattle.plan.proofs.Theorems.Tables.{pages_are, range_is_lem}

entry_allowed : (p : ℕ) (e : Entry) → quiet p ≡ false → allowed p (kind_by e) ≡ true
unfolding allowed
entry_allowed p (Rom lo hi at) h = rw h
entry_allowed p (Paged lo hi at y) h = rw h
entry_allowed p (Ram lo hi Sixteen) h = rw h
entry_allowed p (Ram lo hi Eight) h = rw h

line_allowed : (p : ℕ) (o : Option Line) → ((l : Line) → o ≡ some l → quiet p ≡ false) → allowed p (kind_of o) ≡ true
unfolding allowed
line_allowed p none h = refl
line_allowed p (some l) h = entry_allowed p l.entry (h l refl)

module _ {lines : List Line} (g : Good lines) (x : ℕ) where
  kinds_allowed : (k : ℕ) → k < 16 → allowed (16 * x + k) (kind_at lines (16 * x + k)) ≡ true
  unfolding quiet
  kinds_allowed k h = line_allowed (16 * x + k) (line_in lines 0 (16 * x + k)) (λ l e. found_open g.fine 0 (256 * (16 * x + k)) l e)

  pages_flip : paged lines x ≡ true → may_flip x ≡ true
  unfolding may_flip paged
  pages_flip e =
      let p : Place 16 (λ y. uses lines x (suc y)) = any_at 16 _ e in
      let u : Used lines x (suc p.at) = used_at g.fine x (suc p.at) p.passes in
      let f : Flips u.at = found_flips g.fine p.at u.at u.line u.found in
      let b : x ≡ 3 → ⊥ = λ q. f.not_three (u.chapter ∙ q) in
      cases (eqb x 2) (λ q. or_left _ _ q) (λ q. or_right (eqb x 2) _ (le-leb 4 x (omega (arith, f.above, u.chapter, eqb-false x 2 q))))

  bare_is : is_bare x (plan_of lines x) ≡ bare lines x
  unfolding range_is bare
  bare_is = refl

pub plan_valid : {lines : List Line} → Good lines → Valid (plan_of lines)
plan_valid {lines} g x h =
    record {
      kinds = kinds_allowed g x;
      pages = λ e. pages_flip g x (sym (pages_are lines x) ∙ e);
      range =
          λ e.
          rw (range_is_lem lines x, bare_is g x)
          (⊎_elim (λ a. or_left _ _ a) (λ a. or_right (under lines x) _ a) (under_or_bare g x (sym (pages_are lines x) ∙ e)));
    }
