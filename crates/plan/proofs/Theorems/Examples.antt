-- Worked plans. The plan with as many pages as accepted lines can need: ROM wherever reads are not silent, which three lines lay, and a
-- page for each line that is left; so the bound in Pages can be reached. And the plan of layout's worked lines, RAM beside a page.
use Rattle.std.specs.Prelude.{ℕ, ◌+◌, ◌*◌, ◌<◌, ◌≡◌, refl, true, cond, not, ◌&&◌, ◌||◌, eqb, leb, ltb}
use Rattle.basics.specs.Counts.{any, all, count}
use Rattle.basics.specs.Laws.Counts.{all_at}
use Rattle.basics.specs.Laws.Tests.{cases, and_left, and_right, or_left}
use Rattle.places.specs.Limits.{line_limit, page_limit}
use Rattle.cart.specs.Reads.{silent}
use Rattle.lines.specs.Lines.{holds}
use Rattle.rules.specs.Chapters.{uses}
use Rattle.layout.specs.Laws.Examples.{ecs}
use Rattle.plan.specs.Plan.{Plan, kinds, has_page, has_plain, has_pages, range_is, is_under}
use Rattle.plan.specs.Valid.{Valid, quiet, may_flip, allowed}
use Rattle.plan.specs.Image.{size, base, pages_of}
use Rattle.plan.specs.Fewest.{starts, fewest}
use Rattle.plan.specs.OfLines.{plan_of}

-- pages from page 0 of chapter 5 on
abbrev pub most : Plan
most x = record { kind = λ k. cond (quiet (16 * x + k)) 0 1; page = λ y. leb 80 (16 * x + y) && ltb (16 * x + y) (77 + line_limit) }

pub record Most : Type 0 where
  pub valid : Valid most
  pub lines : fewest most ≡ line_limit
  pub pages : pages_of most ≡ page_limit

kind_allowed : (p : ℕ) → allowed p (cond (quiet p) 0 1) ≡ true
unfolding allowed
kind_allowed p = cases (quiet p) (λ e. rw e) (λ e. rw e)

paged_under : all 16 (λ x. not (has_pages (most x)) || (may_flip x && is_under x (most x))) ≡ true
unfolding all any has_pages may_flip range_is quiet silent
paged_under = refl

paged_at : (x : ℕ) → x < 16 → has_pages (most x) ≡ true → may_flip x && is_under x (most x) ≡ true
paged_at x h e = rw e at (all_at 16 (λ i. not (has_pages (most i)) || (may_flip i && is_under i (most i))) paged_under x h)

most_lines_lem : fewest most ≡ line_limit
unfolding fewest starts count quiet silent
most_lines_lem = refl

most_pages : pages_of most ≡ page_limit
unfolding base size count has_plain any quiet silent
most_pages = refl

pub most_is : Most
most_is =
    record {
      valid =
          λ x h.
          record {
            kinds = λ k l. kind_allowed (16 * x + k);
            pages = λ e. and_left (may_flip x) _ (paged_at x h e);
            range = λ e. or_left _ _ (and_right (may_flip x) _ (paged_at x h e));
          };
      lines = most_lines_lem;
      pages = most_pages;
    }

-- RAM 16 at $4000-$47FF and page 1 of chapter 4
pub record EcsPlan : Type 0 where
  pub kinds : all 256 (λ p. eqb (kinds (plan_of ecs) p) (cond (leb 0x40 p && ltb p 0x48) 3 0)) ≡ true
  pub pages : count (has_page (plan_of ecs)) 256 ≡ 1
  pub page : has_page (plan_of ecs) 0x41 ≡ true
  pub lines : fewest (plan_of ecs) ≡ 2

ecs_kinds : all 256 (λ p. eqb (kinds (plan_of ecs) p) (cond (leb 0x40 p && ltb p 0x48) 3 0)) ≡ true
unfolding all holds
ecs_kinds = refl

ecs_pages : count (has_page (plan_of ecs)) 256 ≡ 1
unfolding count uses any holds
ecs_pages = refl

ecs_page : has_page (plan_of ecs) 0x41 ≡ true
unfolding uses any holds
ecs_page = refl

ecs_lines : fewest (plan_of ecs) ≡ 2
unfolding fewest starts count uses any holds
ecs_lines = refl

pub ecs_is : EcsPlan
ecs_is = record { kinds = ecs_kinds; pages = ecs_pages; page = ecs_page; lines = ecs_lines }
