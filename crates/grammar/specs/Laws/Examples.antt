-- Lines a publisher may send, and what each says: one table under one statement.
use Prim.Native.String.{String}
use Rattle.std.specs.Prelude.{List, ◌∷◌, [], map, ◌≡◌, refl}
use Rattle.lines.specs.declared.Width.TheVariants.{Sixteen, Eight}
use Rattle.grammar.specs.declared.Section.{Section}
use Rattle.grammar.specs.declared.Says.{Says}
use Rattle.grammar.specs.declared.Section.TheVariants.{Nowhere, Mapping, Memattr}
use Rattle.grammar.specs.declared.Says.TheVariants.{Blank, Heading, Outside, Claims}
use Rattle.text.specs.Bytes.{text}
use Rattle.text.specs.Spelling.{same}
use Rattle.grammar.specs.Grammar.{rom, paged, ram, hex_from, dollar, one_digit, bits, ◌>>=◌, rom_line, paged_line, ram_line, mapping_line, memattr_line, heading_line, words_say, line_says}
use Rattle.grammar.specs.Words.{cut}

-- a line, the section that it stands in, and what it says
pub record Example : Type 0 where
  pub section : Section
  pub line : String
  pub says : Says

infix 20 ◌within◌says◌
abbrev ◌within◌says◌ : String → Section → Says → Example
◌within◌says◌ l s a = record { section = s; line = l; says = a }

abbrev pub examples : List Example
examples =
    -- blank lines and comments
    ("" within Nowhere says Blank) ∷
    (" \t " within Nowhere says Blank) ∷
    (" \t; $0 - $FF = $5000" within Mapping says Blank) ∷
    -- headings
    ("[mapping]" within Nowhere says Heading Mapping) ∷
    ("\t[memattr] ; RAM" within Mapping says Heading Memattr) ∷
    ("[Mapping]" within Nowhere says Outside) ∷
    ("[ mapping ]" within Nowhere says Outside) ∷
    ("[vars]" within Nowhere says Outside) ∷
    ("[mapping]\r" within Nowhere says Outside) ∷
    ("[mapping] $0 - $FF = $5000" within Nowhere says Outside) ∷
    -- plain lines
    ("$0000 - $00FF = $5000" within Mapping says Claims (rom 0 0xFF 0x5000)) ∷
    ("$0-$fF=$5000;x" within Mapping says Claims (rom 0 0xFF 0x5000)) ∷
    ("\t$12345 - $1abCD\t=\t$D000 " within Mapping says Claims (rom 0x12345 0x1ABCD 0xD000)) ∷
    ("$000000 - $00FF = $5000" within Mapping says Outside) ∷
    ("$0000 - $00FF = $05000" within Mapping says Outside) ∷
    ("$ 0000 - $00FF = $5000" within Mapping says Outside) ∷
    ("$ - $00FF = $5000" within Mapping says Outside) ∷
    ("$000G - $00FF = $5000" within Mapping says Outside) ∷
    ("0000 - $00FF = $5000" within Mapping says Outside) ∷
    ("$0000 $00FF = $5000" within Mapping says Outside) ∷
    ("$0000 - $00FF - $5000" within Mapping says Outside) ∷
    ("$0000 - $00FF = $5000 $6000" within Mapping says Outside) ∷
    ("$0000 - $00FF = $5000" within Memattr says Outside) ∷
    ("$0000 - $00FF = $5000" within Nowhere says Outside) ∷
    -- PAGE lines
    ("$0000 - $0FFF = $C000 PAGE 2" within Mapping says Claims (paged 0 0xFFF 0xC000 2)) ∷
    ("$0-$FFF=$C000\tPAGE\ta;x" within Mapping says Claims (paged 0 0xFFF 0xC000 10)) ∷
    ("$0 - $FFF = $5000PAGE 1" within Mapping says Outside) ∷
    ("$0 - $FFF = $5000 PAGE1" within Mapping says Outside) ∷
    ("$0 - $FFF = $5000 PAGE 10" within Mapping says Outside) ∷
    ("$0 - $FFF = $5000 PAGE $1" within Mapping says Outside) ∷
    ("$0 - $FFF = $5000 PAGE" within Mapping says Outside) ∷
    ("$0 - $FFF = $5000 page 1" within Mapping says Outside) ∷
    ("$0 - $FFF = $5000 PAGE 1 2" within Mapping says Outside) ∷
    -- RAM lines
    ("$8000 - $80FF = RAM 16" within Memattr says Claims (ram 0x8000 0x80FF Sixteen)) ∷
    ("$d0-$dF=RAM\t8" within Memattr says Claims (ram 0xD0 0xDF Eight)) ∷
    ("$08000 - $80FF = RAM 16" within Memattr says Outside) ∷
    ("$8000 - $80FF = RAM16" within Memattr says Outside) ∷
    ("$8000 - $80FF = RAM 016" within Memattr says Outside) ∷
    ("$8000 - $80FF = RAM 08" within Memattr says Outside) ∷
    ("$8000 - $80FF = RAM 32" within Memattr says Outside) ∷
    ("$8000 - $80FF = ram 8" within Memattr says Outside) ∷
    ("$8000 - $80FF = RAM 8" within Mapping says Outside) ∷
    []

pub each_says : map (λ (e : Example). line_says e.section (text e.line)) examples ≡ map (λ (e : Example). e.says) examples
unfolding words_say mapping_line memattr_line heading_line rom_line paged_line ram_line ◌>>=◌ dollar one_digit bits hex_from same cut
each_says = refl
