-- CFG files, and what reading each answers: one table under one statement. Bench case 8.
use Prim.Native.String.{String}
use Rattle.std.specs.Prelude.{ℕ, List, ◌∷◌, [], map, ◌≡◌, refl}
use Rattle.basics.specs.Refusals.{refuse, no_refusal}
use Rattle.text.specs.Bytes.{text, until}
use Rattle.text.specs.Lines.{lines_of}
use Rattle.text.specs.Spelling.{same}
use Rattle.basics.specs.Counts.{count}
use Rattle.lines.specs.declared.Entry.{Entry}
use Rattle.lines.specs.declared.Line.{Line}
use Rattle.lines.specs.declared.Width.TheVariants.{Eight}
use Rattle.grammar.specs.Grammar.{rom, paged, ram, hex_from, dollar, one_digit, bits, ◌>>=◌, rom_line, paged_line, ram_line, mapping_line, memattr_line, heading_line, words_say}
use Rattle.grammar.specs.Words.{cut}
use Rattle.cfg.specs.File.{Reading}
use Rattle.cfg.specs.File.{accepted, refused, reading_of, says_from, outside_from, entries_from}
use Rattle.cfg.specs.Examples.{entries}

-- a file, and what comes back
pub record Example : Type 0 where
  pub file : String
  pub answer : Reading

infix 20 ◌answers◌
abbrev ◌answers◌ : String → Reading → Example
◌answers◌ f r = record { file = f; answer = r }

abbrev line : ℕ → Entry → Line
line n e = record { source = n; entry = e }

abbrev pub examples : List Example
examples =
    -- the files of bench cases 6 and 7
    ("[mapping]\n$0000 - $00FF = $5000\n" answers accepted (line 2 (rom 0 0xFF 0x5000) ∷ [])) ∷
    ("[mapping]\n$0000 - $0FFF = $C000 PAGE 2" answers accepted (line 2 (paged 0 0xFFF 0xC000 2) ∷ [])) ∷
    -- sections recur, lines may end in CR LF, blank lines count
    ("[mapping]\r\n\r\n$0-$FF=$5000\r\n[memattr] ; RAM\n$8000-$80FF=RAM 8\n\n[mapping]\n$0-$FF=$6000"
    answers accepted (line 3 (rom 0 0xFF 0x5000) ∷ line 5 (ram 0x8000 0x80FF Eight) ∷ line 8 (rom 0 0xFF 0x6000) ∷ [])) ∷
    -- 22, also in a comment, also after a line outside the grammar
    ("[mapping]\n$0-$FF=$5000 ; \u{7f}\n" answers refused (refuse 22 2)) ∷
    ("[mapping]\r$0-$FF=$5000\n" answers refused (refuse 22 1)) ∷
    ("[mapping]\n$0-$FF=$5000\r\r\n" answers refused (refuse 22 2)) ∷
    ("[mapping]\n$0-$FF=$5000\r" answers refused (refuse 22 2)) ∷
    ("[mopping]\n\n\0\n" answers refused (refuse 22 3)) ∷
    -- 23
    ("$0-$FF=$5000\n[mapping]\n" answers refused (refuse 23 1)) ∷
    ("[mapping]\n\n$8000-$80FF=RAM 8\n$0" answers refused (refuse 23 3)) ∷
    -- 24
    ("" answers refused (refuse 24 0)) ∷
    ("[mapping]\n; nothing\n[memattr]\n" answers refused (refuse 24 0)) ∷
    []

pub each_answers : map (λ (e : Example). reading_of (text e.file)) examples ≡ map (λ (e : Example). e.answer) examples
unfolding reading_of count until lines_of says_from outside_from entries_from words_say mapping_line memattr_line heading_line rom_line paged_line ram_line ◌>>=◌ dollar one_digit bits hex_from same cut
each_answers = refl

-- 128 entries pass rule 24, and 129 do not: the line of the 129th is 130, behind that of the section's name (02, W-210)
pub case8 : ((reading_of (entries 128)).refusal ≡ no_refusal) × ((reading_of (entries 128)).count ≡ 128) × (reading_of (entries 129) ≡ refused (refuse 24 130))
unfolding reading_of count until lines_of says_from outside_from entries_from words_say mapping_line memattr_line heading_line rom_line paged_line ram_line ◌>>=◌ dollar one_digit bits hex_from same cut
case8 = (refl, refl, refl)
