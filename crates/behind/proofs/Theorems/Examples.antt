-- Worked: sixteen pages in chapter 5, and in chapter 6 ROM under page 3, eighteen lines. The plan behind has page 0 of chapter 5 plain, in one
-- line with the ROM of chapter 6, and so takes seventeen.
use Rattle.std.specs.Prelude.{◌*◌, ◌+◌, ◌≡◌, refl, cond, false, true, eqb}
use Rattle.basics.specs.Counts.{all, any, count}
use Rattle.basics.specs.Tables.{made}
use Rattle.cart.specs.Reads.{silent}
use Rattle.plan.specs.Fewest.{fewest, starts}
use Rattle.plan.specs.Image.{base, chapter_flip, chapter_permissions, covered_of, holds_page, holds_plain, page_at, size, turns}
use Rattle.plan.specs.Plan.{Plan, has_page, has_pages, has_plain, range_is}
use Rattle.plan.specs.Valid.{allowed, may_flip, quiet}
use Rattle.behind.specs.Behind.{absent, base_behind, behind, chapter_behind, has_entries, hidden}
use Rattle.behind.specs.Builds.{plan_tables}

abbrev pub sixteen : Plan
sixteen x =
    record {
      kind = λ k. cond (eqb x 6) 1 0;
      page = λ y. cond (eqb x 5) true (cond (eqb x 6) (eqb y 3) false);
    }

abbrev pub again : Plan
again = behind (plan_tables sixteen) (covered_of sixteen)

pub record Seventeen : Type 0 where
  pub written : fewest sixteen ≡ 18
  pub page_zero : has_page again (16 * 5 + 0) ≡ false
  pub page_one : has_page again (16 * 5 + 1) ≡ true
  pub fewer : fewest again ≡ 17

written_so : fewest sixteen ≡ 18
unfolding fewest starts count
written_so = refl

zero_so : has_page again (16 * 5 + 0) ≡ false
unfolding all any count made quiet silent may_flip allowed range_is has_plain has_pages size page_at base chapter_flip turns chapter_permissions holds_plain holds_page has_entries absent hidden chapter_behind base_behind
zero_so = refl

one_so : has_page again (16 * 5 + 1) ≡ true
unfolding all any count made quiet silent may_flip allowed range_is has_plain has_pages size page_at base chapter_flip turns chapter_permissions holds_plain holds_page has_entries absent hidden chapter_behind base_behind
one_so = refl

fewer_so : fewest again ≡ 17
unfolding fewest starts all any count made quiet silent may_flip allowed range_is has_plain has_pages size page_at base chapter_flip turns chapter_permissions holds_plain holds_page has_entries absent hidden chapter_behind base_behind
fewer_so = refl

pub seventeen : Seventeen
seventeen = record { written = written_so; page_zero = zero_so; page_one = one_so; fewer = fewer_so }
