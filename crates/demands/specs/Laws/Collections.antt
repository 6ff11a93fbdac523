-- Collections at the edges of W-210 (02), in its numerals. Three lines lay ROM wherever reads are not silent, in fourteen chapters; then so many
-- PAGE lines, from page 0 of chapter 5 on, show the BIN's first page. With 125 of them there are 128 lines, which need 139 pages, the most
-- that lines can need, and are refused with 20; with 114 of them 128 pages are needed, all that Locutus has, and the title is built.
use Prim.Native.Char.{code}
use Rattle.std.specs.Prelude.{ℕ, zero, suc, ◌+◌, ◌-◌, ◌*◌, ◌/◌, ◌%◌, cond, true, false, List, [], ◌∷◌, ◌++◌, ◌≡◌, refl, ltb, length}
use Rattle.std.proofs.Common.{ap, ◌∙◌, arith}
use Rattle.basics.specs.declared.Refusal.{Refusal}
use Rattle.basics.specs.Rows.{Row}
use Rattle.basics.specs.Counts.{any, all, count}
use Rattle.basics.specs.Refusals.{refuse, no_refusal}
use Rattle.basics.specs.Tables.{made}
use Rattle.basics.specs.Laws.Refusals.{silent_behind}
use Rattle.text.specs.Bytes.{text, until}
use Rattle.text.specs.Lines.{lines_of}
use Rattle.text.specs.Spelling.{same}
use Rattle.lines.specs.declared.Line.{Line}
use Rattle.lines.specs.Bin.{bin_words}
use Rattle.lines.specs.Lines.{holds}
use Rattle.grammar.specs.Grammar.{rom, paged as pagedEntry, hex_from, dollar, one_digit, bits, ◌>>=◌, rom_line, paged_line, ram_line, mapping_line, memattr_line, heading_line, words_say}
use Rattle.grammar.specs.Words.{cut}
use Rattle.cfg.specs.File.{entries_of, reading_of, says_from, outside_from, entries_from, refusal_rows as cfgRows}
use Rattle.cfg.specs.Laws.Refusals as Cfg
use Rattle.cfg.proofs.Theorems.Entries.{Holds, accepted_holds, all_typed}
use Rattle.rules.specs.Accepted.{Accepted}
use Rattle.rules.specs.Chapters.{paged, uses, under, bare}
use Rattle.rules.specs.Rules.{refusal_rows as ruleRows, refusal_of as ruledBy, touches_silent, plain_shape, shares, breaks_plain, page_shape}
use Rattle.rules.specs.Laws.Refusals as Rules
use Rattle.layout.specs.Layout.{needed, pages, used}
use Rattle.build.specs.Building.{Building}
use Rattle.build.specs.Building.{wrong_bin, too_large, room_rows, refusal_of, building_of, built}
use Rattle.demands.specs.Pressing.{Pressing}
use Rattle.demands.specs.Bench.{Case}
use Rattle.demands.specs.Laws.Bench.{built_so}

-- a hex digit, in upper case
abbrev digit : ℕ → ℕ
digit n = cond (ltb n 10) (code "0" + n) (code "A" - 10 + n)

abbrev page_line : ℕ → List ℕ
page_line n = text "$0000 - $0FFF = $" ++ (digit (5 + n / 16) ∷ (text "000 PAGE " ++ (digit (n % 16) ∷ text "\n")))

abbrev page_lines : ℕ → List ℕ
page_lines zero = []
page_lines (suc n) = page_lines n ++ page_line n

abbrev pub collection : ℕ → List ℕ
collection n = text "[mapping]\n$0000 - $0AFF = $0500\n$0000 - $0FFF = $2000\n$0000 - $BFFF = $4000\n" ++ page_lines n

-- the lines that it says
abbrev pages_on : ℕ → List Line
pages_on zero = []
pages_on (suc n) = pages_on n ++ (record { source = 5 + n; entry = pagedEntry 0 0xFFF ((5 + n / 16) * 4096) (n % 16) } ∷ [])

abbrev lines_on : ℕ → List Line
lines_on n =
    record { source = 2; entry = rom 0 0xAFF 0x500 } ∷ record { source = 3; entry = rom 0 0xFFF 0x2000 } ∷ record { source = 4; entry = rom 0 0xBFFF 0x4000 }
    ∷ pages_on n

-- built, with any label that 12 passes, into a buffer that takes any image
pub record Built (p : Pressing) : Type 0 where
  pub accepted : p.building.refusal ≡ no_refusal
  pub needed : p.building.needed ≡ 524288

-- BINs have $C000 words
pub record Collections : Type 0 where
  pub lines_128 : length (entries_of (collection 125)) ≡ 128
  pub pages_139 : pages (entries_of (collection 125)) ≡ 139
  pub words_139 : needed (entries_of (collection 125)) ≡ 569344
  pub refused_139 : (bin label out : List ℕ) → length bin ≡ 98304 → building_of bin (collection 125) label out ≡ record { refusal = refuse 20 0; length = 0; needed = 0 }
  pub pages_128 : pages (entries_of (collection 114)) ≡ 128
  pub built_128 : (p : Pressing) → Case (collection 114) 98304 0 p → Built p

says_125 : entries_of (collection 125) ≡ lines_on 125
unfolding lines_of says_from entries_from words_say mapping_line heading_line rom_line paged_line ◌>>=◌ dollar one_digit hex_from same cut
says_125 = refl

says_114 : entries_of (collection 114) ≡ lines_on 114
unfolding lines_of says_from entries_from words_say mapping_line heading_line rom_line paged_line ◌>>=◌ dollar one_digit hex_from same cut
says_114 = refl

read_125 : (reading_of (collection 125)).refusal.number ≡ 0
unfolding reading_of count until lines_of says_from outside_from entries_from words_say mapping_line memattr_line heading_line rom_line paged_line ram_line ◌>>=◌ dollar one_digit bits hex_from same cut
read_125 = refl

read_114 : (reading_of (collection 114)).refusal.number ≡ 0
unfolding reading_of count until lines_of says_from outside_from entries_from words_say mapping_line memattr_line heading_line rom_line paged_line ram_line ◌>>=◌ dollar one_digit bits hex_from same cut
read_114 = refl

judged_125 : ruledBy 0xC000 (lines_on 125) ≡ no_refusal
unfolding ruledBy touches_silent plain_shape shares breaks_plain page_shape paged uses under bare holds any all made
judged_125 = refl

judged_114 : ruledBy 0xC000 (lines_on 114) ≡ no_refusal
unfolding ruledBy touches_silent plain_shape shares breaks_plain page_shape paged uses under bare holds any all made
judged_114 = refl

laid_125 : pages (lines_on 125) ≡ 139
unfolding pages used uses holds count any
laid_125 = refl

laid_114 : pages (lines_on 114) ≡ 128
unfolding pages used uses holds count any
laid_114 = refl

fine : (bin : List ℕ) → length bin ≡ 98304 → wrong_bin bin ≡ false
unfolding wrong_bin
fine bin e = rw e

-- 139 pages
module _ (bin label out : List ℕ) (e : length bin ≡ 98304) where
  abbrev cfg : List ℕ
  cfg = collection 125

  ruled : ruledBy (bin_words bin) (entries_of cfg) ≡ no_refusal
  ruled = rw (says_125, e) judged_125

  large : too_large (entries_of cfg) ≡ true
  unfolding too_large
  large = rw (says_125, laid_125)

  abbrev behind : List (Row Refusal)
  behind = ruleRows (bin_words bin) (entries_of cfg) ++ room_rows bin cfg label out

  refusal : refusal_of bin cfg label out ≡ refuse 20 0
  unfolding refusal_of
  refusal =
      rw (fine bin e)
      (silent_behind (cfgRows cfg) behind ((Cfg.exactly cfg).accepts.0 read_125)
      ∙ silent_behind (ruleRows (bin_words bin) (entries_of cfg)) (room_rows bin cfg label out) ((Rules.exactly (bin_words bin) (entries_of cfg)).accepts.0 ruled)
      ∙ rw large)

  refused : building_of bin cfg label out ≡ record { refusal = refuse 20 0; length = 0; needed = 0 }
  unfolding building_of
  refused = rw refusal

-- 128 pages
module _ (p : Pressing) (c : Case (collection 114) 98304 0 p) where
  says : entries_of p.cfg ≡ lines_on 114
  says = ap entries_of c.file ∙ says_114

  read : (reading_of p.cfg).refusal.number ≡ 0
  read = rw c.file read_114

  accepts : Accepted p.bin (entries_of p.cfg)
  accepts =
      let h : Holds p.cfg (reading_of p.cfg) = accepted_holds p.cfg read in
      record { few = omega (arith, h.counted, h.most); typed = all_typed h.fitting; judged = rw (says, c.long) judged_114 }

  words : needed (entries_of p.cfg) ≡ 524288
  words = rw (says, laid_114)

  so : p.building ≡ built p.bin p.cfg p.label
  so = built_so p c.pressed (fine p.bin c.long) read accepts (omega (arith, words)) c.label c.room

  largest : Built p
  largest = record { accepted = ap (λ (b : Building). b.refusal) so; needed = ap (λ (b : Building). b.needed) so ∙ words }

pub collections : Collections
collections =
    record {
      lines_128 = rw says_125;
      pages_139 = rw says_125 laid_125;
      words_139 = rw (says_125, laid_125);
      refused_139 = refused;
      pages_128 = rw says_114 laid_114;
      built_128 = largest;
    }
