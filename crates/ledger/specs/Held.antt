-- A plan that stands in two arrays of 256: the kind of each console paragraph, and whether chapter n / 16 has page n % 16.
use Rattle.std.specs.Prelude.{◌*◌, ◌+◌, ℕ, List, Bool, false, get_or}
use Rattle.places.specs.Limits.{chapter_pages, chapter_paragraphs}
use Rattle.plan.specs.Fewest.{starts}
use Rattle.plan.specs.Plan.{Plan, kinds}
use Rattle.ledger.specs.declared.Sketch.{Sketch}

abbrev pub plan_in : List ℕ → List Bool → Plan
plan_in ks ps x = record { kind = λ k. get_or ks (chapter_paragraphs * x + k) 0; page = λ y. get_or ps (chapter_pages * x + y) false }

-- the plan of a sketch
abbrev pub sketched : Sketch → Plan
sketched s = plan_in s.kinds s.pages

-- a run of plain paragraphs starts at paragraph p
abbrev pub starts_in : List ℕ → List Bool → ℕ → Bool
starts_in ks ps p = starts (kinds (plan_in ks ps)) p

-- the words of a RAM; 0 past its end
abbrev pub words_in : List ℕ → ℕ → ℕ
words_in ram i = get_or ram i 0
