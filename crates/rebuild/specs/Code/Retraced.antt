-- What is drawn, beside an image's tables and named words; and the plan behind, with its lines.
use Rattle.std.specs.Prelude.{◌*◌, ◌+◌, ◌/◌, ℕ, List, Bool, ◌&&◌, cond, false, not, leb, get_or, take}
use Rattle.basics.specs.Counts.{all}
use Rattle.basics.specs.Tables.{table}
use Rattle.places.specs.Limits.{flip_entries, lent_limit, line_limit, locutus_paragraphs, page_size, paragraph_size, paragraphs}
use Rattle.tables.specs.Tables.{Tables}
use Rattle.layout.specs.Drawing.{drawing_of}
use Rattle.layout.specs.declared.Drawing.{Drawing}
use Rattle.plan.specs.Plan.{Plan}
use Rattle.behind.specs.Behind.{behind}
use Rattle.ledger.specs.Code.Lists.{listing_of}
use Rattle.ledger.specs.Held.{words_in}
use Rattle.ledger.specs.declared.Listing.{Listing}
use Rattle.retrace.specs.Code.Named.{named_in, word_named}
use Rattle.retrace.specs.Code.Shown.{marked_in, sketch_of}
use Rattle.rebuild.specs.Fits.{agree, fits, ram_fits}
use Rattle.rebuild.specs.declared.Retraced.{Retraced}

-- the words that are named are those of the marked paragraphs
abbrev pub marks_fit : List Bool → (ℕ → Bool) → Bool
marks_fit marks named = all lent_limit (λ i. cond (named i) (get_or marks (i / paragraph_size) false) (not (get_or marks (i / paragraph_size) false)))

-- no word of paragraph p is named
abbrev pub unnamed_in : List ℕ → List ℕ → ℕ → Bool
unnamed_in zeros ones p = all paragraph_size (λ i. not (word_named zeros ones (paragraph_size * p + i)))

-- the tables, pages and marks of a drawing
unfoldable pub drawing_fits : Drawing → Tables → (ℕ → Bool) → Bool
drawing_fits d t named =
    leb (page_size * d.pages) lent_limit
    && ((agree paragraphs d.mapping t.mapping && (agree paragraphs d.permissions t.permissions && agree flip_entries d.flips t.flips))
    && marks_fit d.marks named)

-- lines, where they are not too many, and a plan
unfoldable pub listing_fits : Listing → Plan → Tables → (ℕ → Bool) → (ℕ → ℕ) → Bool
listing_fits l q t named w =
    (leb 1 l.count && leb l.count line_limit) && (drawing_fits (drawing_of (take l.count l.lines)) t named && ram_fits q w)

-- the plan behind tables, where two RAMs name words
abbrev pub plan_named : Tables → List ℕ → List ℕ → Plan
plan_named t zeros ones = behind t (marked_in (table locutus_paragraphs (named_in zeros ones)))

unfoldable pub retraced_of : Tables → List ℕ → List ℕ → Retraced
retraced_of t zeros ones =
    record {
      sketch = sketch_of (plan_named t zeros ones);
      listing = listing_of (plan_named t zeros ones);
      fits = fits (plan_named t zeros ones) t (word_named zeros ones) (words_in zeros);
    }
