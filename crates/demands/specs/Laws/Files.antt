-- The files of bench cases 6 and 7: the lines that they say, and what the layout and the plain cartridge make of them.
use Rattle.std.specs.Prelude.{ℕ, ◌<◌, ◌/◌, ◌%◌, ◌+◌, List, ◌∷◌, [], ◌≡◌, refl, cond, true, length, get_or, eqb}
use Rattle.std.proofs.Common.{arith, eqb-true, ne_eqb}
use Rattle.basics.specs.Counts.{any, all, count}
use Rattle.basics.specs.Tables.{made}
use Rattle.basics.specs.Laws.Tables.{get_d_table}
use Rattle.basics.specs.Laws.Counts.{all_at}
use Rattle.text.specs.Bytes.{until}
use Rattle.text.specs.Lines.{lines_of}
use Rattle.text.specs.Spelling.{same}
use Rattle.lines.specs.declared.Line.{Line}
use Rattle.lines.specs.Lines.{holds}
use Rattle.lines.specs.Typed.{cons, nil}
use Rattle.grammar.specs.Grammar.{rom, paged as pagedEntry, hex_from, dollar, one_digit, bits, ◌>>=◌, rom_line, paged_line, ram_line, mapping_line, memattr_line, heading_line, words_say}
use Rattle.grammar.specs.Words.{cut}
use Rattle.cfg.specs.File.{entries_of, reading_of, says_from, outside_from, entries_from}
use Rattle.rules.specs.Accepted.{Accepted}
use Rattle.rules.specs.Chapters.{paged, uses, under, bare}
use Rattle.rules.specs.Rules.{refusal_of, touches_silent, plain_shape, shares, breaks_plain, page_shape}
use Rattle.layout.specs.Layout.{needed, pages, used, mapping_table, mapping_at, flippable, page_of, permissions_table, permissions_at, flip_table, flip_entry, answering}
use Rattle.plays.specs.Plain.{plain_answers, fresh, plain_read, shown_line, number_after}
use Rattle.demands.specs.Bench.{six, seven, seven_accesses, seven_answers}

-- the entry stands on line 2
abbrev pub six_lines : List Line
six_lines = record { source = 2; entry = rom 0 0xFF 0x5000 } ∷ []

abbrev pub seven_lines : List Line
seven_lines = record { source = 2; entry = pagedEntry 0 0xFFF 0xC000 2 } ∷ []

pub six_says : entries_of six ≡ six_lines
unfolding lines_of says_from entries_from words_say mapping_line heading_line rom_line ◌>>=◌ dollar hex_from same cut
six_says = refl

pub seven_says : entries_of seven ≡ seven_lines
unfolding lines_of says_from entries_from words_say mapping_line heading_line paged_line ◌>>=◌ dollar one_digit hex_from same cut
seven_says = refl

-- they are read
pub six_read : (reading_of six).refusal.number ≡ 0
unfolding reading_of count until lines_of says_from outside_from entries_from words_say mapping_line memattr_line heading_line rom_line paged_line ram_line ◌>>=◌ dollar one_digit bits hex_from same cut
six_read = refl

pub seven_read : (reading_of seven).refusal.number ≡ 0
unfolding reading_of count until lines_of says_from outside_from entries_from words_say mapping_line memattr_line heading_line rom_line paged_line ram_line ◌>>=◌ dollar one_digit bits hex_from same cut
seven_read = refl

-- case 6
pub six_accepted : (bin : List ℕ) → length bin ≡ 512 → Accepted bin six_lines
unfolding refusal_of touches_silent plain_shape shares breaks_plain paged uses under bare holds any all made
six_accepted bin e = let t : 0x5000 < 0x10000 = omega arith in record { few = omega arith; typed = cons t nil; judged = rw e }

pub six_words : needed six_lines ≡ 4096
unfolding pages used uses holds count any
six_words = refl

pub six_mapping : get_or (mapping_table six_lines) 0x50 0 ≡ 0
unfolding mapping_at flippable page_of used paged uses holds count any
six_mapping = get_d_table 0 256 (mapping_at six_lines 0) 0x50 (omega arith)

pub six_permission : get_or (permissions_table six_lines) 0x50 0 ≡ 1
unfolding permissions_at flippable paged uses holds any
six_permission = get_d_table 0 256 (permissions_at six_lines 0) 0x50 (omega arith)

-- case 7
pub seven_accepted : (bin : List ℕ) → length bin ≡ 8192 → Accepted bin seven_lines
unfolding refusal_of page_shape shares breaks_plain paged uses under bare holds any all made
seven_accepted bin e = let t : 0xC000 < 0x10000 = omega arith in record { few = omega arith; typed = cons t nil; judged = rw e }

pub seven_words : needed seven_lines ≡ 4096
unfolding pages used uses holds count any
seven_words = refl

pub seven_entry : get_or (flip_table seven_lines) 194 0 ≡ 0x0009
unfolding flip_entry answering page_of used paged uses holds count any
seven_entry = get_d_table 0 256 (λ n. flip_entry seven_lines (n / 16) (n % 16)) 194 (omega arith)

seven_row : all 16 (λ y. eqb (flip_entry seven_lines 12 y) (cond (eqb y 2) 0x0009 0x0008)) ≡ true
unfolding flip_entry answering page_of used paged under uses holds count all any
seven_row = refl

pub seven_others : (y : ℕ) → y < 16 → (y ≡ 2 → ⊥) → get_or (flip_table seven_lines) (192 + y) 0 ≡ 0x0008
seven_others y h d =
    let x : (192 + y) / 16 ≡ 12 = omega arith in
    let k : (192 + y) % 16 ≡ y = omega arith in
    let r : eqb (flip_entry seven_lines 12 y) (cond (eqb y 2) 0x0009 0x0008) ≡ true =
    all_at 16 (λ z. eqb (flip_entry seven_lines 12 z) (cond (eqb z 2) 0x0009 0x0008)) seven_row y h in
    let e : flip_entry seven_lines 12 y ≡ cond (eqb y 2) 0x0009 0x0008 = eqb-true _ _ r in
    rw (get_d_table 0 256 (λ n. flip_entry seven_lines (n / 16) (n % 16)) (192 + y) (omega arith), x, k, e, ne_eqb y 2 d)

pub seven_plain : (bin : List ℕ) → plain_answers bin seven_lines fresh seven_accesses ≡ seven_answers bin
unfolding plain_read shown_line number_after holds
seven_plain bin = refl
