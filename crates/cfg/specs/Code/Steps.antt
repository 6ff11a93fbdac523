-- What the private functions of the file reader promise: what the lines so far say, and what one line adds.
use Rattle.std.specs.Prelude.{Option, Some, None, Bool, true, false, ℕ, ◌+◌, List, [], ◌∷◌, cond, eqb, ltb, get_or, length, set}
use Rattle.std.specs.Option.{option_or}
use Rattle.basics.specs.declared.Refusal.{Refusal}
use Rattle.basics.specs.Lists.{part}
use Rattle.basics.specs.Rows.{Row}
use Rattle.basics.specs.Refusals.{refuse, no_refusal, first_refusal, passes}
use Rattle.places.specs.Limits.{line_limit}
use Rattle.text.specs.Lines.{line_end}
use Rattle.lines.specs.declared.Line.{Line}
use Rattle.lines.specs.declared.Entry.{Entry}
use Rattle.grammar.specs.declared.Section.{Section}
use Rattle.grammar.specs.declared.Says.{Says}
use Rattle.grammar.specs.declared.Says.TheVariants.{Blank, Heading, Claims, Outside}
use Rattle.grammar.specs.declared.Section.TheVariants.{Nowhere}
use Rattle.grammar.specs.Grammar.{line_says}
use Rattle.cfg.specs.declared.Scan.{Scan}
use Rattle.cfg.specs.File.{Reading}
use Rattle.cfg.specs.File.{section_after, outside_from, entries_from, blank_line, shown, refused}

-- the section that lines end in, where the first stands in section s
unfoldable pub section_from : Section → List Says → Section
section_from s [] = s
section_from s (x ∷ xs) = section_from (section_after x s) xs

-- a line's number, where 0 stands for no line; and the line of the first entry that is one too many
abbrev pub named : ℕ → Option ℕ
named n = cond (eqb n 0) None (Some n)

abbrev pub past_limit : List Line → Option ℕ
past_limit es = cond (ltb line_limit (length es)) (Some (get_or es line_limit blank_line).source) None

abbrev pub number_in : Option ℕ → ℕ
number_in None = 0
number_in (Some n) = n

abbrev pub is_there : Option ℕ → Bool
is_there None = false
is_there (Some n) = true

-- what lines that say so leave behind them
abbrev pub scan_of : List Says → Scan
scan_of xs =
    record {
      line = length xs;
      section = section_from Nowhere xs;
      outside = named (outside_from 1 xs);
      extra = past_limit (entries_from 1 xs);
      count = length (entries_from 1 xs);
      lines = shown (entries_from 1 xs);
    }

-- one line more: it is counted, and noted by what it says
abbrev pub onward : Scan → Scan
onward st = record { line = st.line + 1; section = st.section; outside = st.outside; extra = st.extra; count = st.count; lines = st.lines }

abbrev pub in_section : Scan → Section → Scan
in_section st s = record { line = st.line; section = s; outside = st.outside; extra = st.extra; count = st.count; lines = st.lines }

abbrev pub with_entry : Scan → Entry → Scan
with_entry st e =
    record {
      line = st.line;
      section = st.section;
      outside = st.outside;
      extra = cond (eqb st.count line_limit) (Some st.line) st.extra;
      count = st.count + 1;
      lines = set st.lines st.count (record { source = st.line; entry = e });
    }

abbrev pub with_outside : Scan → Scan
with_outside st =
    record { line = st.line; section = st.section; outside = option_or st.outside (Some st.line); extra = st.extra; count = st.count; lines = st.lines }

abbrev pub noted : Scan → Says → Scan
noted st Blank = st
noted st (Heading s) = in_section st s
noted st (Claims e) = with_entry st e
noted st Outside = with_outside st

-- the line that stands at a place of a text
abbrev pub noted_line : Scan → List ℕ → ℕ → Scan
noted_line st s at = noted (onward st) (line_says st.section (part s at (line_end s at)))

-- refusals 23 and 24 of what all lines say
abbrev pub scan_rows : Scan → List (Row Refusal)
scan_rows st =
    (is_there st.outside, refuse 23 (number_in st.outside)) ∷ (eqb st.count 0, refuse 24 0) ∷ (is_there st.extra, refuse 24 (number_in st.extra)) ∷ []

abbrev pub judged : Scan → Reading
judged st =
    cond (passes (first_refusal (scan_rows st))) (record { refusal = no_refusal; count = st.count; lines = st.lines })
    (refused (first_refusal (scan_rows st)))
