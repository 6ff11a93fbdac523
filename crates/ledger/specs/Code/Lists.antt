-- Lines in an array, and the canonical lines so far.
use Rattle.std.specs.Prelude.{◌+◌, ℕ, List, ◌++◌, get_or, length, set}
use Rattle.basics.specs.Tables.{table}
use Rattle.places.specs.Limits.{flip_entries, line_limit, paragraphs}
use Rattle.places.specs.Places.{bin_word, console}
use Rattle.lines.specs.declared.Entry.TheVariants.{Rom}
use Rattle.lines.specs.declared.Line.{Line}
use Rattle.plan.specs.Plan.{Plan, has_page}
use Rattle.canon.specs.Canonical.{mapping_entries, starts_rom}
use Rattle.canon.specs.Laws.Lines.{canonical_lines, page_line, rom_line}
use Rattle.basics.specs.Listed.{listed}
use Rattle.ledger.specs.declared.Found.{Found}
use Rattle.ledger.specs.declared.Listing.{Listing}

-- what stands where no line does
abbrev pub no_line : Line
no_line = record { source = 0; entry = Rom (bin_word 0) (bin_word 0) (console 0) }

-- lines at the front of as many places as there may be, and blank lines behind them
unfoldable pub shown : List Line → List Line
shown ls = table line_limit (λ i. get_or ls i no_line)

abbrev pub list_of : List Line → Found
list_of ls = record { count = length ls; lines = shown ls }

abbrev pub added : Found → Line → Found
added f l = record { count = f.count + 1; lines = set f.lines f.count l }

-- those of ROM; with those of pages, all of [mapping]
abbrev pub rom_lines : Plan → List Line
rom_lines q = listed paragraphs (starts_rom q) (rom_line q)

abbrev pub mapping_lines : Plan → List Line
mapping_lines q = rom_lines q ++ listed flip_entries (has_page q) (page_line q)

-- no plan has more lines of [mapping] than one for each paragraph and one for each page; those of RAM are no more than the paragraphs
abbrev pub most_mapping : ℕ
most_mapping = paragraphs + flip_entries

abbrev pub most_lines : ℕ
most_lines = most_mapping + paragraphs

-- all canonical lines
unfoldable pub listing_of : Plan → Listing
listing_of q = record { mapping = length (mapping_entries q); count = length (canonical_lines q); lines = shown (canonical_lines q) }
