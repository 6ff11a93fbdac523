-- What a line says, by its words and the section that it stands in (01, What a CFG may say).
use Rattle.std.specs.Prelude.{Option, Some, None, ℕ, ◌+◌, ◌*◌, cond, ◌&&◌, Bool, List, [], ◌∷◌, leb, eqb, length}
use Prim.Native.Char.{code}
use Rattle.places.specs.Places.{bin_word, console, page}
use Rattle.text.specs.Spelling.{is, digit_of}
use Rattle.lines.specs.declared.Width.{Width}
use Rattle.lines.specs.declared.Width.TheVariants.{Sixteen, Eight}
use Rattle.lines.specs.declared.Entry.{Entry}
use Rattle.lines.specs.declared.Entry.TheVariants.{Rom, Paged, Ram}
use Rattle.grammar.specs.declared.Says.{Says}
use Rattle.grammar.specs.declared.Says.TheVariants.{Outside, Claims, Heading, Blank}
use Rattle.grammar.specs.declared.Section.TheVariants.{Mapping, Memattr, Nowhere}
use Rattle.grammar.specs.declared.Section.{Section}
use Rattle.grammar.specs.Words.{words_of, word}

-- hex digits to the word's end, after those that make n
unfoldable pub hex_from : ℕ → List ℕ → Option ℕ
hex_from n [] = Some n
hex_from n (b ∷ w) = cond (eqb (digit_of b) 16) None (hex_from (n * 16 + digit_of b) w)

abbrev pub hex_of : List ℕ → Option ℕ
hex_of w = hex_from 0 w

-- `$` and 1 to `most` hex digits
unfoldable pub dollar : ℕ → List ℕ → Option ℕ
dollar most [] = None
dollar most (b ∷ w) = cond (leb 1 (length w) && leb (length w) most && eqb b (code "$")) (hex_of w) None

-- an offset in the BIN has 1 to 5 digits, an address 1 to 4; a page number is one digit, with no `$`
abbrev pub offset : List ℕ → Option ℕ
offset w = dollar 5 w

abbrev pub address : List ℕ → Option ℕ
address w = dollar 4 w

unfoldable pub one_digit : List ℕ → Option ℕ
one_digit w = cond (eqb (length w) 1) (hex_of w) None

-- the bits of a RAM word
unfoldable pub bits : List ℕ → Option ℕ
bits w = cond (is "16" w) (Some 16) (cond (is "8" w) (Some 8) None)

abbrev pub width_of : ℕ → Width
width_of n = cond (eqb n 16) Sixteen Eight

-- a number, where the word before it is spelt so
abbrev pub after : Bool → Option ℕ → Option ℕ
after spelt n = cond spelt n None

-- an entry from its numbers
abbrev pub rom : ℕ → ℕ → ℕ → Entry
rom lo hi at = Rom (bin_word lo) (bin_word hi) (console at)

abbrev pub paged : ℕ → ℕ → ℕ → ℕ → Entry
paged lo hi at y = Paged (bin_word lo) (bin_word hi) (console at) (page y)

abbrev pub ram : ℕ → ℕ → Width → Entry
ram lo hi w = Ram (console lo) (console hi) w

-- where a number is missing, the line is outside the grammar
unfoldable pub ◌>>=◌ : Option ℕ → (ℕ → Says) → Says
◌>>=◌ (Some n) entry = entry n
◌>>=◌ None entry = Outside

-- `$lo - $hi = $addr`
unfoldable pub rom_line : List (List ℕ) → Says
rom_line ws = do
  lo ← offset (word ws 0)
  hi ← after (is "-" (word ws 1)) (offset (word ws 2))
  at ← after (is "=" (word ws 3)) (address (word ws 4))
  Claims (rom lo hi at)

-- `$lo - $hi = $addr PAGE d`
unfoldable pub paged_line : List (List ℕ) → Says
paged_line ws = do
  lo ← offset (word ws 0)
  hi ← after (is "-" (word ws 1)) (offset (word ws 2))
  at ← after (is "=" (word ws 3)) (address (word ws 4))
  y ← after (is "PAGE" (word ws 5)) (one_digit (word ws 6))
  Claims (paged lo hi at y)

-- `$lo - $hi = RAM 16` or `RAM 8`
unfoldable pub ram_line : List (List ℕ) → Says
ram_line ws = do
  lo ← address (word ws 0)
  hi ← after (is "-" (word ws 1)) (address (word ws 2))
  n ← after (is "=" (word ws 3)) (after (is "RAM" (word ws 4)) (bits (word ws 5)))
  Claims (ram lo hi (width_of n))

-- an entry of [mapping] has five words, or seven with its page
unfoldable pub mapping_line : List (List ℕ) → Says
mapping_line ws = cond (eqb (length ws) 5) (rom_line ws) (cond (eqb (length ws) 7) (paged_line ws) Outside)

-- an entry of [memattr] has six
unfoldable pub memattr_line : List (List ℕ) → Says
memattr_line ws = cond (eqb (length ws) 6) (ram_line ws) Outside

-- a section's name
unfoldable pub heading_line : List ℕ → Says
heading_line w = cond (is "[mapping]" w) (Heading Mapping) (cond (is "[memattr]" w) (Heading Memattr) Outside)

abbrev pub entry_line : Section → List (List ℕ) → Says
entry_line Nowhere ws = Outside
entry_line Mapping ws = mapping_line ws
entry_line Memattr ws = memattr_line ws

-- a line of no words is blank, one of a single word a heading, any other an entry
unfoldable pub words_say : Section → List (List ℕ) → Says
words_say s ws = cond (eqb (length ws) 0) Blank (cond (eqb (length ws) 1) (heading_line (word ws 0)) (entry_line s ws))

-- what a line says in a section; Nowhere is before any section
abbrev pub line_says : Section → List ℕ → Says
line_says s line = words_say s (words_of line)
