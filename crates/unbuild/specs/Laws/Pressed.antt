-- What the image that a build presses holds: the tables of its lines, the words of the paragraphs that they cover, and JLP field 0.
use Rattle.std.specs.Prelude.{◌%◌, ◌*◌, ◌+◌, ◌/◌, ◌<◌, ◌≤◌, ℕ, ◌≡◌, Bool, false, true, ltb}
use Rattle.std.proofs.Common.{◌∙◌, sym, arith, lt-ltb}
use Rattle.std.proofs.Math.Path.{ap, refl}
use mathlib.Core.List.{List, [], ◌∷◌, append-nil, map}
use Rattle.basics.specs.Laws.Tables.{get_d_table}
use Rattle.basics.specs.Laws.Tests.{and_false, cases}
use Rattle.basics.specs.Lists.{Each, none as no-others}
use Rattle.places.specs.Limits.{lent, lent_limit, locutus_paragraphs, paragraph_size}
use Rattle.places.specs.Places.{console}
use Rattle.sums.specs.Crc.{crc324_of}
use Rattle.header.specs.Flags.{jlp_field}
use Rattle.header.specs.Header.{flags_of}
use Rattle.header.specs.Laws.Header.{flags_back}
use Rattle.hunk.specs.Hunk.{Hunk}
use Rattle.tables.specs.Laws.Tables.{tables_back}
use Rattle.tables.specs.Tables.{tables_in, tables_payload}
use Rattle.blocks.specs.Blocks.{tables_type, type_of}
use Rattle.blocks.specs.Images.{blocks_in, hunks_in, image_of, payload_of_tables}
use Rattle.blocks.specs.Laws.ReadBack as Made
use Rattle.load.specs.Leaves.{named}
use Rattle.load.specs.Load.{flash_asked}
use Rattle.metadata.specs.Records.{is_cut, starts, starts_from}
use Rattle.label.specs.Label.{wrong_label}
use Rattle.save.specs.Chosen.{Sized, chosen, hunk_block, image_with, tables_block}
use Rattle.save.specs.Laws.Chosen.{Lies, chosen_each}
use Rattle.trip.specs.Laws.LoadImage.{hunks_all, hunks_back, image_blocks}
use Rattle.trip.specs.Laws.Overlay.{EachLies}
use Rattle.trip.proofs.Theorems.RoundTrip.{LoadsChosen, load_chosen}
use Rattle.lines.specs.declared.Line.{Line}
use Rattle.cfg.specs.File.{entries_of}
use Rattle.rules.specs.Accepted.{Accepted}
use Rattle.layout.specs.Drawing.{word_at}
use Rattle.layout.specs.Laws.Uses.{covered_inside, length_words}
use Rattle.layout.specs.Layout.{covered, line_held, needed, paragraph_held, paragraph_words, written_of}
use Rattle.build.specs.Building.{flag_bytes, image_on, pressed_image, tables_for, uid_of}
use Rattle.build.specs.Laws.Image.{lie, sized, supported, within_limit}
use Rattle.unbuild.specs.Content.{image_jlp, image_tables, loaded_word, names_word, whole_ram}
use Rattle.unbuild.specs.Laws.Named.{lent_whole, named_chosen}

pub record Holding (image : List ℕ) (bin : List ℕ) (lines : List Line) : Type 0 where
  pub tables : image_tables image ≡ tables_for lines
  pub names : (i : ℕ) → names_word image i ≡ covered lines (i / paragraph_size)
  pub words : (i : ℕ) → covered lines (i / paragraph_size) ≡ true → loaded_word image i ≡ word_at bin lines i
  pub jlp : image_jlp image ≡ 0

-- there is no label
pub no_label : wrong_label [] ≡ false
unfolding wrong_label is_cut starts starts_from
no_label = refl

module _ (bin cfg : List ℕ) (lines : List Line) (accepted : Accepted bin lines) (small : needed lines ≤ lent_limit) where
  abbrev on : ℕ → Bool
  on = covered lines

  abbrev words : ℕ → List ℕ
  words = paragraph_words bin lines

  abbrev hunks : List Hunk
  hunks = chosen locutus_paragraphs on words

  abbrev image : List ℕ
  image = image_on bin cfg [] lines

  room : needed lines ≤ lent whole_ram
  room = omega (arith, lent_whole)

  each_lies : EachLies (lent whole_ram) locutus_paragraphs on words
  each_lies q h e = lie bin cfg lines (lent whole_ram) room q h e

  each_hunk : Each (Lies (lent whole_ram)) hunks
  each_hunk = chosen_each on words locutus_paragraphs each_lies

  blocks_are : blocks_in image ≡ tables_block (tables_for lines) ∷ map hunk_block hunks
  blocks_are =
      image_blocks flag_bytes (uid_of bin cfg) (tables_for lines) [] hunks (sized bin cfg lines) (within_limit bin cfg lines [] no_label)
      whole_ram (flash_asked image) (supported bin cfg lines accepted (lent whole_ram) (flash_asked image)) no-others each_hunk

  hunks_are : hunks_in (blocks_in image) ≡ hunks
  hunks_are =
      ap hunks_in blocks_are ∙ hunks_all flag_bytes (uid_of bin cfg) (tables_for lines) (map hunk_block hunks) (sized bin cfg lines)
      ∙ hunks_back (lent whole_ram) (omega (arith, lent_whole)) hunks each_hunk

  payload_is : payload_of_tables (blocks_in image) ≡ tables_payload (tables_for lines)
  unfolding payload_of_tables
  payload_is =
      let t : type_of (tables_block (tables_for lines)) ≡ 0x01 =
      Made.type_back tables_type (crc324_of (tables_payload (tables_for lines))) (tables_payload (tables_for lines)) in
      ap payload_of_tables blocks_are ∙ rw t (Made.payload_back tables_type (crc324_of (tables_payload (tables_for lines))) (tables_payload (tables_for lines)))

  tables_are : image_tables image ≡ tables_for lines
  tables_are =
      let z : Sized flag_bytes (uid_of bin cfg) (tables_for lines) = sized bin cfg lines in
      ap tables_in payload_is
      ∙ tables_back (tables_for lines) z.mapping_long z.permissions_long z.flips_long (tables_payload (tables_for lines)) []
      (sym (append-nil (tables_payload (tables_for lines))))

  covered_low : (p : ℕ) → on p ≡ true → p < locutus_paragraphs
  covered_low p e = omega (arith, covered_inside lines p e)

  names_are : (i : ℕ) → names_word image i ≡ covered lines (i / 256)
  names_are i =
      ap (λ (hs : List Hunk). named hs i) hunks_are
      ∙ named_chosen on words locutus_paragraphs i (λ p h e. length_words bin lines p)
      ∙ cases (on (i / 256)) (λ e. rw (e, lt-ltb (i / 256) locutus_paragraphs (covered_low (i / 256) e)))
      (λ e. rw e (and_false (ltb (i / 256) locutus_paragraphs) false refl))

  words_are : (i : ℕ) → covered lines (i / 256) ≡ true → loaded_word image i ≡ word_at bin lines i
  unfolding paragraph_words
  words_are i e =
      let r : LoadsChosen flag_bytes (tables_for lines) 0 on words image whole_ram (flash_asked image) =
      load_chosen flag_bytes (uid_of bin cfg) (tables_for lines) [] on words whole_ram (flash_asked image) (sized bin cfg lines) (within_limit bin cfg lines [] no_label)
      (supported bin cfg lines accepted (lent whole_ram) (flash_asked image)) no-others each_lies in
      r.back.given i (covered_low (i / 256) e) e
      ∙ get_d_table 0 256 (λ j. written_of bin (line_held lines (i / 256)) (console (256 * paragraph_held lines (i / 256) + j))) (i % 256) (omega arith)

  flags_are : flags_of image ≡ flag_bytes
  unfolding image_with image_of
  flags_are = flags_back flag_bytes (uid_of bin cfg) (sized bin cfg lines).flags_long (sized bin cfg lines).uid_long image _ refl

  pub image_holds : Holding image bin lines
  image_holds = record { tables = tables_are; names = names_are; words = words_are; jlp = ap (λ (f : List ℕ). jlp_field f) flags_are }

-- the image that a build presses
pub pressed_holds : (bin cfg : List ℕ) → Accepted bin (entries_of cfg) → needed (entries_of cfg) ≤ lent_limit → Holding (pressed_image bin cfg []) bin (entries_of cfg)
unfolding pressed_image
pressed_holds bin cfg a l = image_holds bin cfg (entries_of cfg) a l
