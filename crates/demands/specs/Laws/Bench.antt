-- The bench cases, computed; 6 and 7 by what `build` and `load` promise.
use Rattle.std.specs.Prelude.{ℕ, ◌+◌, ◌≤◌, List, ◌++◌, ◌≡◌, refl, false, length, get_or}
use Rattle.std.proofs.Common.{ap, ◌∙◌, arith}
use borrow.Author.Tests.{le-ltb}
use Rattle.basics.specs.declared.Refusal.{Refusal}
use Rattle.basics.specs.Rows.{Row, Silent, also, none}
use Rattle.basics.specs.Refusals.{refuse, no_refusal, first_refusal}
use Rattle.basics.specs.Laws.Rows.{silent_append}
use Rattle.basics.specs.Laws.Refusals.{silent_behind}
use Rattle.places.specs.Limits.{image_limit, lent_limit}
use Rattle.sums.specs.Crc.{crc_from, crc_byte, crc_bits, crc_bit}
use Rattle.switches.specs.Flips.{asks}
use Rattle.jlp.specs.Accelerators.{fresh_jlp}
use Rattle.cart.specs.declared.Cartridge.{Cartridge}
use Rattle.tables.specs.Tables.{cartridge_with}
use Rattle.cfg.specs.File.{entries_of, reading_of, refusal_rows as cfgRows}
use Rattle.cfg.specs.Laws.Refusals as Cfg
use Rattle.cfg.specs.Laws.Examples.{case8}
use Rattle.lines.specs.declared.Line.{Line}
use Rattle.lines.specs.Bin.{bin_words}
use Rattle.rules.specs.Accepted.{Accepted}
use Rattle.rules.specs.Rules.{refusal_rows as ruleRows}
use Rattle.rules.specs.Laws.Refusals as Rules
use Rattle.layout.specs.Layout.{needed}
use Rattle.label.specs.Label.{wrong_label}
use Rattle.build.specs.Building.{Building}
use Rattle.build.specs.Building.{wrong_bin, too_large, too_short, pressed_image, room_rows, refusal_rows, refusal_of, built, tables_for}
use Rattle.build.specs.Laws.Image.{within_limit}
use Rattle.build.proofs.Theorems.Refusals as Build
use Rattle.plays.specs.Plain.{plain_answers, fresh}
use Rattle.demands.specs.Pressing.{Pressing, Pressed}
use Rattle.demands.specs.Bench.{Bench, Case, six, Six, seven, Seven, seven_accesses}
use Rattle.demands.specs.Laws.Pressed.{is_built, pressed_tables, pressed_plays}
use Rattle.demands.specs.Laws.Files.{six_lines, six_says, six_read, six_accepted, six_words, six_mapping, six_permission, seven_lines, seven_says, seven_read, seven_accepted, seven_words, seven_entry, seven_others, seven_plain}

-- a CFG that is read, with lines that the rules accept for this BIN and words that Locutus has, beside a label that a block can hold,
-- builds into a buffer that takes any image
module _ (p : Pressing) (q : Pressed p) (fine : wrong_bin p.bin ≡ false) (read : (reading_of p.cfg).refusal.number ≡ 0)
    (accepted : Accepted p.bin (entries_of p.cfg)) (few : needed (entries_of p.cfg) ≤ lent_limit) (right : wrong_label p.label ≡ false)
    (room : image_limit ≤ length p.out) where
  not_large : too_large (entries_of p.cfg) ≡ false
  unfolding too_large
  not_large = le-ltb lent_limit (needed (entries_of p.cfg)) few

  fits : too_short p.bin p.cfg p.label p.out ≡ false
  unfolding too_short pressed_image
  fits =
      le-ltb (length p.out) (length (pressed_image p.bin p.cfg p.label))
      (omega (arith, room, within_limit p.bin p.cfg (entries_of p.cfg) p.label right))

  silent : Silent (refusal_rows p.bin p.cfg p.label p.out)
  silent =
      also fine
      (silent_append ((Cfg.exactly p.cfg).accepts.0 read)
      (silent_append ((Rules.exactly (bin_words p.bin) (entries_of p.cfg)).accepts.0 accepted.judged) (also not_large (also right (also fits none)))))

  number_0 : p.building.refusal.number ≡ 0
  number_0 = ap (λ (b : Building). b.refusal.number) q.answer ∙ (Build.answers p.bin p.cfg p.label p.out).accepted.1 silent

  pub built_so : p.building ≡ built p.bin p.cfg p.label
  built_so = is_built p q number_0

fine_512 : (bin : List ℕ) → length bin ≡ 512 → wrong_bin bin ≡ false
unfolding wrong_bin
fine_512 bin e = rw e

fine_8192 : (bin : List ℕ) → length bin ≡ 8192 → wrong_bin bin ≡ false
unfolding wrong_bin
fine_8192 bin e = rw e

case_6 : (p : Pressing) → Case six 512 4096 p → Six p
case_6 p c =
    let says : entries_of p.cfg ≡ six_lines = ap entries_of c.file ∙ six_says in
    let b : p.building ≡ built p.bin p.cfg p.label =
    built_so p c.pressed (fine_512 p.bin c.long) (rw c.file six_read) (rw says (six_accepted p.bin c.long)) (rw (says, six_words) (omega arith)) c.label c.room in
    let n : p.building.refusal ≡ no_refusal = ap (λ (x : Building). x.refusal) b in
    let w : p.building.needed ≡ 4096 = ap (λ (x : Building). x.needed) b ∙ ap needed says ∙ six_words in
    let t : p.loading.cartridge ≡ cartridge_with (fresh_jlp 0 0) (tables_for six_lines) =
    pressed_tables p c.pressed (ap (λ (r : Refusal). r.number) n) (rw w c.lent) ∙ ap (λ (ls : List Line). cartridge_with (fresh_jlp 0 0) (tables_for ls)) says in
    record {
      accepted = n;
      needed = w;
      mapping = ap (λ (x : Cartridge). get_or x.mapping 0x50 0) t ∙ six_mapping;
      permission = ap (λ (x : Cartridge). get_or x.permissions 0x50 0) t ∙ six_permission;
    }

case_7 : (p : Pressing) → Case seven 8192 4096 p → Seven p
case_7 p c =
    let says : entries_of p.cfg ≡ seven_lines = ap entries_of c.file ∙ seven_says in
    let b : p.building ≡ built p.bin p.cfg p.label =
    built_so p c.pressed (fine_8192 p.bin c.long) (rw c.file seven_read) (rw says (seven_accepted p.bin c.long)) (rw (says, seven_words) (omega arith)) c.label c.room in
    let n : p.building.refusal ≡ no_refusal = ap (λ (x : Building). x.refusal) b in
    let z : p.building.refusal.number ≡ 0 = ap (λ (r : Refusal). r.number) n in
    let w : p.building.needed ≡ 4096 = ap (λ (x : Building). x.needed) b ∙ ap needed says ∙ seven_words in
    let t : p.loading.cartridge ≡ cartridge_with (fresh_jlp 0 0) (tables_for seven_lines) =
    pressed_tables p c.pressed z (rw w c.lent) ∙ ap (λ (ls : List Line). cartridge_with (fresh_jlp 0 0) (tables_for ls)) says in
    record {
      accepted = n;
      entry = ap (λ (x : Cartridge). get_or x.flips 194 0) t ∙ seven_entry;
      others = λ y h d. ap (λ (x : Cartridge). get_or x.flips (192 + y) 0) t ∙ seven_others y h d;
      reads =
          pressed_plays p c.pressed z (rw w c.lent) seven_accesses
          ∙ ap (λ (ls : List Line). plain_answers p.bin ls fresh seven_accesses) says ∙ seven_plain p.bin;
    }

-- 510 bytes are 255 words: hi lies past the BIN
fine_510 : (bin : List ℕ) → length bin ≡ 510 → wrong_bin bin ≡ false
unfolding wrong_bin
fine_510 bin e = rw e

module _ (bin cfg label out : List ℕ) (e : length bin ≡ 510) (read : Silent (cfgRows cfg)) (says : entries_of cfg ≡ six_lines) where
  abbrev behind : List (Row Refusal)
  behind = ruleRows (bin_words bin) (entries_of cfg) ++ room_rows bin cfg label out

  by_the_rules : refusal_of bin cfg label out ≡ first_refusal behind
  unfolding refusal_of
  by_the_rules = rw (fine_510 bin e) (silent_behind (cfgRows cfg) behind read)

  past_bin_lem : first_refusal behind ≡ refuse 25 2
  past_bin_lem = rw (says, e)

case_6_short : (p : Pressing) → Case six 510 0 p → p.building.refusal ≡ refuse 25 2
case_6_short p c =
    let read : Silent (cfgRows p.cfg) = (Cfg.exactly p.cfg).accepts.0 (rw c.file six_read) in
    let says : entries_of p.cfg ≡ six_lines = ap entries_of c.file ∙ six_says in
    ap (λ (b : Building). b.refusal) c.pressed.answer ∙ Build.refusal_is p.bin p.cfg p.label p.out
    ∙ by_the_rules p.bin p.cfg p.label p.out c.long read says ∙ past_bin_lem p.bin p.cfg p.label p.out c.long read says

pub bench : Bench
unfolding crc_from crc_byte crc_bits crc_bit asks
bench =
    record {
      dowcrc_16 = refl;
      dowcrc_4 = refl;
      crc32_16 = refl;
      crc32_4 = refl;
      flip_mapping_lem = refl;
      flip_permissions_lem = refl;
      flip_location = refl;
      narrow = refl;
      asks_83 = refl;
      asks_elsewhere = refl;
      asks_beside = refl;
      rom = case_6;
      rom_short = case_6_short;
      page_2 = case_7;
      entries_128 = case8.0;
      entries_129 = case8.2;
    }
