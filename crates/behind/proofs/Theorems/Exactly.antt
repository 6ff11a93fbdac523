-- Which images some plan builds: exactly those that the plan behind the image builds (W-213, Theorem).
use Rattle.std.specs.Prelude.{◌≤◌, ℕ, ◌≡◌, Bool, ◌↔◌}
use Rattle.std.proofs.Common.{◌∙◌, subst, sym, arith}
use Rattle.std.proofs.Math.Path.{fun_ext}
use Rattle.tables.specs.Tables.{Tables}
use Rattle.plan.specs.Fewest.{fewest}
use Rattle.plan.specs.Image.{covered_of, pages_of}
use Rattle.plan.specs.Plan.{Plan}
use Rattle.plan.specs.Valid.{Valid}
use Rattle.behind.specs.Behind.{behind}
use Rattle.behind.specs.Builds.{Builds, plan_tables}
use Rattle.behind.proofs.Theorems.Alike.{base_alike, covered_alike, ram_alike, tables_alike}
use Rattle.behind.proofs.Theorems.Behind.{behind_alike, behind_star, behind_valid, lines_same, star_some}
use Rattle.behind.proofs.Theorems.Fewer.{star_fewer}
use Rattle.behind.specs.Laws.Star.{star}

-- the plan behind the image of a plan takes no more lines
module _ (q : Plan) (v : Valid q) where
  abbrev r : Plan
  r = behind (plan_tables q) (covered_of q)

  lines_are : fewest r ≡ fewest (star q)
  lines_are = lines_same r (star q) (behind_star q v)

  pub fewest_behind : (t : Tables) (named : ℕ → Bool) → plan_tables q ≡ t → ((p : ℕ) → covered_of q p ≡ named p) → fewest (behind t named) ≤ fewest q
  fewest_behind t named e f =
      subst (λ (n : ℕ → Bool). fewest (behind t n) ≤ fewest q) (fun_ext f)
      (subst (λ (s : Tables). fewest (behind s (covered_of q)) ≤ fewest q) e (omega (arith, lines_are, star_fewer q)))

  -- it has as many Locutus pages
  pub pages_behind : (t : Tables) (named : ℕ → Bool) → plan_tables q ≡ t → ((p : ℕ) → covered_of q p ≡ named p) → pages_of (behind t named) ≡ pages_of q
  pages_behind t named e f =
      subst (λ (n : ℕ → Bool). pages_of (behind t n) ≡ pages_of q) (fun_ext f)
      (subst (λ (s : Tables). pages_of (behind s (covered_of q)) ≡ pages_of q) e (base_alike r q (behind_alike q v) 16 (omega arith)))

  -- and builds it
  module _ (blank : ℕ → Bool) where
    rebuilt : Builds (plan_tables q) (covered_of q) blank q → Builds (plan_tables q) (covered_of q) blank r
    rebuilt b =
        record {
          tables = tables_alike r q (behind_alike q v);
          names = covered_alike r q (behind_alike q v);
          zeros = λ p e. b.zeros p (sym (ram_alike r q (behind_alike q v) p) ∙ e);
          some = omega (arith, lines_are, star_some q b.some);
          few = omega (arith, lines_are, star_fewer q, b.few);
        }

    built : (t : Tables) (named : ℕ → Bool) → plan_tables q ≡ t → covered_of q ≡ named → Builds t named blank q → Builds t named blank (behind t named)
    built t named e f b =
        let c : Builds (plan_tables q) (covered_of q) blank q =
        subst (λ (s : Tables). Builds s (covered_of q) blank q) (sym e) (subst (λ (n : ℕ → Bool). Builds t n blank q) (sym f) b) in
        subst (λ (n : ℕ → Bool). Builds t n blank (behind t n)) f
        (subst (λ (s : Tables). Builds s (covered_of q) blank (behind s (covered_of q))) e (rebuilt c))

module _ (blank : ℕ → Bool) (t : Tables) (named : ℕ → Bool) where
  pub exactly : ((q : Plan) × Valid q × Builds t named blank q) ↔ Builds t named blank (behind t named)
  exactly = (
    (λ w. built w.0 w.1 blank t named w.2.tables (fun_ext w.2.names) w.2),
    (λ b. (behind t named, behind_valid t named, b)),
  )
