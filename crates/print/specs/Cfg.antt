-- A CFG as it is written (02, W-213): the entries of [mapping], then those of [memattr]; each section named once if used; LF ends.
use Rattle.std.specs.Prelude.{◌+◌, ◌<◌, ℕ, List, [], ◌++◌, ◌∷◌, length}
use Rattle.basics.specs.Lists.{joined}
use Rattle.text.specs.Bytes.{lf, text}
use Rattle.lines.specs.declared.Entry.{Entry}
use Rattle.lines.specs.declared.Entry.TheVariants.{Paged, Ram, Rom}
use Rattle.lines.specs.declared.Line.{Line}
use Rattle.grammar.specs.Print.{entry_text}

abbrev pub line_text : List ℕ → List ℕ
line_text x = x ++ (lf ∷ [])

abbrev pub entry_line : Entry → List ℕ
entry_line e = line_text (entry_text e)

abbrev pub section_text : List ℕ → List Entry → List ℕ
section_text name [] = []
section_text name (e ∷ es) = line_text name ++ joined entry_line (e ∷ es)

unfoldable pub cfg_text : List Entry → List Entry → List ℕ
cfg_text mapping memattr = section_text (text "[mapping]") mapping ++ section_text (text "[memattr]") memattr

-- entries that a section's lines can say: offsets have five digits, addresses four, a page one
abbrev pub InMapping : Entry → Type 0
InMapping (Rom lo hi at) = (lo.0 < 0x100000) × (hi.0 < 0x100000) × (at.0 < 0x10000)
InMapping (Paged lo hi at y) = (lo.0 < 0x100000) × (hi.0 < 0x100000) × (at.0 < 0x10000) × (y.0 < 16)
InMapping (Ram lo hi w) = ⊥

abbrev pub InMemattr : Entry → Type 0
InMemattr (Rom lo hi at) = ⊥
InMemattr (Paged lo hi at y) = ⊥
InMemattr (Ram lo hi w) = (lo.0 < 0x10000) × (hi.0 < 0x10000)

-- entries on lines one after the other, from line n on
abbrev pub numbered : ℕ → List Entry → List Line
numbered n [] = []
numbered n (e ∷ es) = record { source = n; entry = e } ∷ numbered (n + 1) es

-- the line that names [memattr], and the lines of all entries
abbrev pub memattr_at : List Entry → ℕ
memattr_at [] = 1
memattr_at (e ∷ es) = 2 + length (e ∷ es)

abbrev pub lines_in : List Entry → List Entry → List Line
lines_in mapping memattr = numbered 2 mapping ++ numbered (1 + memattr_at mapping) memattr
