-- The rules' answer: refused with a number and a place exactly when that row holds and none before it does, accepted exactly when no
-- row holds; and tables of rows one behind the other.
use Rattle.std.specs.Prelude.{ℕ, zero, suc, List, [], ◌∷◌, ◌++◌, Bool, ◌≡◌, ◌↔◌}
use Rattle.std.proofs.Common.{ap, arith}
use Rattle.basics.specs.declared.Refusal.{Refusal}
use Rattle.basics.specs.Tables.{made}
use Rattle.basics.specs.Rows.{Row, Gives, Silent}
use Rattle.basics.specs.Refusals.{refuse, no_refusal, first_refusal}
use Rattle.basics.specs.Laws.Rows.{silent_first}
use Rattle.basics.specs.Laws.Refusals.{Refusing, refusing_append, silent_behind, refused_exactly, accepted_exactly}
use Rattle.places.specs.Limits.{chapters}
use Rattle.lines.specs.declared.Line.{Line}
use Rattle.rules.specs.Rules.{rows_of, line_rows, share_rows, chapter_rows, breaks_plain, refusal_rows, refusal_of}

pub record Exactly (words : ℕ) (lines : List Line) (answer : Refusal) : Type 0 where
  -- refused so exactly when that row holds and none before it does
  pub refuses : (r : Refusal) → (r.number ≡ 0 → ⊥) → (answer ≡ r) ↔ Gives (refusal_rows words lines) r
  -- accepted exactly when no row holds
  pub accepts : (answer ≡ no_refusal) ↔ Silent (refusal_rows words lines)

-- every row refuses with a number
pub rows_refuse : (words : ℕ) (l : Line) → Refusing (rows_of words l)
rows_refuse words l = ((λ z. omega arith), ((λ z. omega arith), tt))

pub line_rows_lem : (words : ℕ) (lines : List Line) → Refusing (line_rows words lines)
line_rows_lem words [] = tt
line_rows_lem words (l ∷ ls) = refusing_append (rows_of words l) (line_rows words ls) (rows_refuse words l) (line_rows_lem words ls)

pub share_rows_lem : (earlier lines : List Line) → Refusing (share_rows earlier lines)
share_rows_lem earlier [] = tt
share_rows_lem earlier (l ∷ ls) = ((λ z. omega arith), share_rows_lem (earlier ++ (l ∷ [])) ls)

chapter_rows_lem : (f : ℕ → Bool) (i n : ℕ) → Refusing (made {A = Row Refusal} i n (λ x. (f x, refuse 28 x)))
unfolding made
chapter_rows_lem f i zero = tt
chapter_rows_lem f i (suc n) = ((λ z. omega arith), chapter_rows_lem f (suc i) n)

pub each_refuses : (words : ℕ) (lines : List Line) → Refusing (refusal_rows words lines)
each_refuses words lines =
    refusing_append (line_rows words lines) (share_rows [] lines ++ chapter_rows lines) (line_rows_lem words lines)
    (refusing_append (share_rows [] lines) (chapter_rows lines) (share_rows_lem [] lines) (chapter_rows_lem (breaks_plain lines) 0 chapters))

pub exactly : (words : ℕ) (lines : List Line) → Exactly words lines (refusal_of words lines)
unfolding refusal_of
exactly words lines =
    record {
      refuses = refused_exactly (refusal_rows words lines) (each_refuses words lines);
      accepts = (
        λ e. (accepted_exactly (refusal_rows words lines) (each_refuses words lines)).0 (ap (λ (r : Refusal). r.number) e),
        λ s. silent_first no_refusal s,
      );
    }

-- a table that refuses nothing leaves the answer to what stands behind it
pub passed_front : (rs qs : List (Row Refusal)) → Refusing rs → (first_refusal rs).number ≡ 0 → first_refusal (rs ++ qs) ≡ first_refusal qs
passed_front rs qs r e = silent_behind rs qs ((accepted_exactly rs r).0 e)
