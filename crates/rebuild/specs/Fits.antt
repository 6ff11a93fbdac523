-- Whether a plan builds tables, named words and the values there (02, W-213).
use Rattle.std.specs.Prelude.{◌*◌, ◌/◌, ℕ, List, Bool, ◌&&◌, ◌||◌, cond, not, eqb, leb, get_or}
use Rattle.basics.specs.Counts.{all}
use Rattle.places.specs.Limits.{flip_entries, lent_limit, line_limit, locutus_paragraphs, page_size, paragraph_size, paragraphs}
use Rattle.tables.specs.Tables.{Tables}
use Rattle.plan.specs.Fewest.{fewest}
use Rattle.plan.specs.Image.{covered_of, flips_of, mapping_of, pages_of, permissions_of, ram_covered_of}
use Rattle.plan.specs.Plan.{Plan}
use Rattle.canon.specs.Made.{blank_in}

-- two tables of n numbers are the same
abbrev pub agree : ℕ → List ℕ → List ℕ → Bool
agree n a b = all n (λ i. eqb (get_or a i 0) (get_or b i 0))

-- the plan's tables are these
abbrev pub tables_fit : Plan → Tables → Bool
tables_fit q t =
    agree paragraphs (mapping_of q) t.mapping && (agree paragraphs (permissions_of q) t.permissions && agree flip_entries (flips_of q) t.flips)

-- the words that are named are those of the paragraphs that the plan covers
abbrev pub names_fit : Plan → (ℕ → Bool) → Bool
names_fit q named = all lent_limit (λ i. cond (named i) (covered_of q (i / paragraph_size)) (not (covered_of q (i / paragraph_size))))

-- the plan's RAM is all zeros
abbrev pub ram_fits : Plan → (ℕ → ℕ) → Bool
ram_fits q w = all locutus_paragraphs (λ p. not (ram_covered_of q p) || blank_in w p)

-- so many lines as a CFG may have, and pages as Locutus has
abbrev pub lines_fit : Plan → Bool
lines_fit q = leb 1 (fewest q) && (leb (fewest q) line_limit && leb (page_size * pages_of q) lent_limit)

-- all of it: tables, which words are named, and the words
unfoldable pub fits : Plan → Tables → (ℕ → Bool) → (ℕ → ℕ) → Bool
fits q t named w = lines_fit q && (tables_fit q t && (names_fit q named && ram_fits q w))
