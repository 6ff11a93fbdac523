-- Who owns which paragraph, and which page of which chapter: two arrays of line numbers, initially zero (01, Forms for specific places).
use Rattle.std.specs.Prelude.{ℕ, zero, suc, ◌*◌, ◌/◌, ◌%◌, Bool, cond, ◌&&◌, List, [], ◌∷◌, eqb, ltb, get_or}
use Rattle.basics.specs.Tables.{table}
use Rattle.places.specs.Limits.{paragraphs, paragraph_size, flip_entries, chapter_pages, chapter_size}
use Rattle.lines.specs.declared.Entry.{Entry}
use Rattle.lines.specs.declared.Line.{Line}
use Rattle.lines.specs.Lines.{first, layer, holds}
use Rattle.owners.specs.declared.Owners.{Owners}

-- a plain line claims the paragraphs whose first words it holds; a line of page y in chapter x claims place n = 16x + y
abbrev pub claims_paragraph : ℕ → Entry → Bool
claims_paragraph p e = eqb (layer e) 0 && holds e (paragraph_size * p)

abbrev pub claims_page : ℕ → Entry → Bool
claims_page n e = eqb (layer e) (suc (n % chapter_pages)) && eqb (first e / chapter_size) (n / chapter_pages)

-- a number, where a test passes; of two numbers the first, but 0 stands for none
abbrev pub only : Bool → ℕ → ℕ
only b n = cond b n 0

abbrev pub or_else : ℕ → ℕ → ℕ
or_else m n = cond (eqb m 0) n m

-- what the first line that passes a test has; 0 where none does
abbrev pub first_has : (Line → ℕ) → (Entry → Bool) → List Line → ℕ
first_has has f [] = 0
first_has has f (l ∷ ls) = or_else (only (f l.entry) (has l)) (first_has has f ls)

-- the number of the first line that claims a paragraph, or a page of a chapter; 0 where nobody does
abbrev pub paragraph_owner : List Line → ℕ → ℕ
paragraph_owner lines p = first_has (λ l. l.source) (claims_paragraph p) lines

abbrev pub page_owner : List Line → ℕ → ℕ
page_owner lines n = first_has (λ l. l.source) (claims_page n) lines

unfoldable pub owners_of : List Line → Owners
owners_of lines = record { paragraphs = table paragraphs (paragraph_owner lines); pages = table flip_entries (page_owner lines) }

-- what one more line makes of owned places: a number goes to those that it claims and nobody owns
abbrev pub claimed_by : (ℕ → Entry → Bool) → List ℕ → Entry → ℕ → ℕ → ℕ
claimed_by claims owners e number p = or_else (get_or owners p 0) (only (claims p e) number)

unfoldable pub claimed_both : Owners → Line → Owners
claimed_both o l =
    record {
      paragraphs = table paragraphs (claimed_by claims_paragraph o.paragraphs l.entry l.source);
      pages = table flip_entries (claimed_by claims_page o.pages l.entry l.source);
    }

-- of two numbers, and of those of n places, the least that is not 0; 0 where none is
abbrev pub lesser : ℕ → ℕ → ℕ
lesser m n = cond (eqb m 0) n (cond (eqb n 0) m (cond (ltb m n) m n))

unfoldable pub least_of : ℕ → (ℕ → ℕ) → ℕ
least_of zero f = 0
least_of (suc n) f = lesser (f n) (least_of n f)

-- the least number of the lines that pass a test
abbrev pub least_has : (Entry → Bool) → List Line → ℕ
least_has f [] = 0
least_has f (l ∷ ls) = lesser (only (f l.entry) l.source) (least_has f ls)

-- the least owner of the places that an entry claims
abbrev pub owned_by : (ℕ → Entry → Bool) → List ℕ → Entry → ℕ → ℕ
owned_by claims owners e p = only (claims p e) (get_or owners p 0)

unfoldable pub least_owner : Owners → Entry → ℕ
least_owner o e =
    lesser (least_of paragraphs (owned_by claims_paragraph o.paragraphs e)) (least_of flip_entries (owned_by claims_page o.pages e))
