-- The CFG of lines in an array, and what functions write of it.
use Rattle.std.specs.Prelude.{◌-◌, min, ℕ, List, [], ◌++◌, ◌∷◌, map, drop, length, replicate, take}
use Rattle.basics.specs.Lists.{joined, put_front}
use Rattle.places.specs.Limits.{line_limit}
use Rattle.text.specs.Bytes.{text}
use Rattle.lines.specs.declared.Entry.{Entry}
use Rattle.lines.specs.declared.Line.{Line}
use Rattle.print.specs.Cfg.{cfg_text, entry_line, line_text}
use Rattle.print.specs.Code.Texts.{page_digit}
use Rattle.sheet.specs.declared.Sheet.{Sheet}

-- the entries of lines; a page's number is one digit
abbrev pub entries_in : List Line → List Entry
entries_in ls = map (λ l. page_digit l.entry) ls

-- of so many lines the first are of [mapping], those behind them of [memattr]
abbrev pub cfg_of_lines : List Line → ℕ → ℕ → List ℕ
cfg_of_lines ls m n = cfg_text (entries_in (take m ls)) (entries_in (take n (drop m ls)))

abbrev pub cfg_lines : ℕ → ℕ → List Line → List ℕ
cfg_lines mapping count ls =
    cfg_of_lines ls (min mapping (min count line_limit)) (min count line_limit - min mapping (min count line_limit))

-- the most bytes of a written CFG, and some more
abbrev pub sheet_size : ℕ
sheet_size = 4096

-- a written CFG at the front of so many zeros
unfoldable pub sheet_of : List ℕ → Sheet
sheet_of x = record { bytes = put_front x (replicate sheet_size 0); length = length x }

-- what is written of one entry, of lines, of a section with this first line, of both sections
unfoldable pub entry_bytes : Entry → List ℕ
entry_bytes e = entry_line (page_digit e)

abbrev pub lines_bytes : List Line → List ℕ
lines_bytes ls = joined (λ l. entry_bytes l.entry) ls

abbrev pub headed : List ℕ → List Line → List ℕ
headed name [] = []
headed name (l ∷ ls) = name ++ lines_bytes (l ∷ ls)

abbrev pub mapping_name : List ℕ
mapping_name = line_text (text "[mapping]")

abbrev pub memattr_name : List ℕ
memattr_name = line_text (text "[memattr]")

-- both sections
abbrev pub both_headed : List Line → List Line → List ℕ
both_headed xs ys = headed mapping_name xs ++ headed memattr_name ys

abbrev pub sections_bytes : List Line → ℕ → ℕ → List ℕ
sections_bytes ls m n = headed mapping_name (take m (drop 0 ls)) ++ headed memattr_name (take n (drop m ls))
