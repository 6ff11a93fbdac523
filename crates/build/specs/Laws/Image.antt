-- The image of lines that the rules accept: its parts have their sizes, its hunks lie in the words reported, it is shorter than the
-- limit, and it asks for nothing that a load refuses with 10.
use Rattle.std.specs.Prelude.{ℕ, ◌/◌, ◌%◌, ◌≤◌, ◌<◌, ◌+◌, List, [], ◌∷◌, refl, ◌≡◌, true, length, get_or, eqb}
use Rattle.std.proofs.Common.{◌∙◌, arith, length-append}
use Rattle.std.proofs.Math.Bool.{false}
use Rattle.basics.specs.Lists.{joined, flat}
use Rattle.basics.specs.Rows.{Silent}
use Rattle.basics.specs.Laws.Tables.{length_table}
use Rattle.basics.specs.Laws.Tests.{cases}
use Rattle.basics.specs.Laws.Counts.{any_nothing}
use Rattle.places.specs.Limits.{locutus_paragraphs, image_limit}
use Rattle.switches.specs.Flips.{PFE}
use Rattle.tables.specs.Tables.{unsupported, tables_rows, flips_one}
use Rattle.tables.specs.Laws.Refusals.{field_none}
use Rattle.blocks.specs.Blocks.{frame_size, metadata_type}
use Rattle.blocks.specs.Laws.ReadBack.{length_block}
use Rattle.label.specs.Label.{label_block, label_blocks, wrong_label}
use Rattle.label.specs.Laws.Label.{label_fits}
use Rattle.save.specs.Chosen.{paragraph_hunk, image_for, Sized}
use Rattle.save.specs.Laws.Chosen.{Lies, length_image, length_with}
use Rattle.save.specs.Laws.Within.{image_most}
use Rattle.lines.specs.declared.Line.{Line}
use Rattle.rules.specs.Accepted.{Accepted}
use Rattle.rules.specs.Laws.Rules.{good}
use Rattle.layout.specs.Layout.{mapping_at, permissions_at, flip_entry, needed, covered, paragraph_words, flip_table}
use Rattle.layout.specs.Laws.Uses.{length_words, covered_inside}
use Rattle.layout.specs.Laws.Tables.{unflipped, flip_entry_lem}
use Rattle.build.specs.Building.{flag_bytes, uid_of, tables_for, hunks_for, image_on}

-- the bytes of a label's blocks
pub length_one : (label : List ℕ) → length (flat (label_block label ∷ [])) ≡ frame_size + length label
unfolding joined
length_one label = length-append (label_block label) [] ∙ omega (arith, length_block metadata_type label)

length_put : (label : List ℕ) → length (flat (label_blocks label)) ≤ frame_size + length label
unfolding joined
length_put label = cases (eqb (length label) 0) (λ e. rw e (omega arith)) (λ e. rw e (omega (arith, length_one label)))

module _ (bin cfg : List ℕ) (lines : List Line) where
  pub sized : Sized flag_bytes (uid_of bin cfg) (tables_for lines)
  unfolding uid_of
  sized =
      record {
        flags_long = refl;
        uid_long = refl;
        mapping_long = length_table 256 (mapping_at lines 0);
        permissions_long = length_table 256 (permissions_at lines 0);
        flips_long = length_table 256 (λ n. flip_entry lines (n / 16) (n % 16));
      }

  pub lie : (n : ℕ) → needed lines ≤ n → (q : ℕ) → q < locutus_paragraphs → covered lines q ≡ true → Lies n (paragraph_hunk q (paragraph_words bin lines q))
  lie n h q b e = record { whole = length_words bin lines q; within = omega (arith, covered_inside lines q e) }

  -- the label's block comes to the length of the image
  pub length_labelled : (label : List ℕ)
      → length (image_on bin cfg label lines) ≡ length (image_for flag_bytes (uid_of bin cfg) (tables_for lines) (hunks_for bin lines)) + length (flat (label_blocks label))
  length_labelled label =
      omega
      (arith, length_with flag_bytes (uid_of bin cfg) (tables_for lines) (label_blocks label) (hunks_for bin lines), length_image flag_bytes (uid_of bin cfg) (tables_for lines) (hunks_for bin lines))

  plain_most : length (image_for flag_bytes (uid_of bin cfg) (tables_for lines) (hunks_for bin lines)) ≤ 1600000
  plain_most = image_most flag_bytes (uid_of bin cfg) (tables_for lines) sized (covered lines) (paragraph_words bin lines) (length_words bin lines)

  pub plain_limit : length (image_for flag_bytes (uid_of bin cfg) (tables_for lines) (hunks_for bin lines)) ≤ image_limit
  plain_limit = omega (arith, plain_most)

  pub within_limit : (label : List ℕ) → wrong_label label ≡ false → length (image_on bin cfg label lines) ≤ image_limit
  within_limit label right = omega (arith, plain_most, length_labelled label, length_put label, label_fits label right)

  module _ (accepted : Accepted bin lines) where
    -- no PFE in chapter 1
    unset : (y : ℕ) → y < 16 → PFE (get_or (flip_table lines) (16 + y) 0) ≡ false
    unset y b =
        let e : flip_entry lines ((16 + y) / 16) ((16 + y) % 16) ≡ 0 = unflipped (good accepted) ((16 + y) / 16) ((16 + y) % 16) (omega arith) in
        rw (flip_entry_lem lines (16 + y) (omega arith), e)

    fine : unsupported flag_bytes (flip_table lines) ≡ false
    unfolding unsupported
    fine =
        let f : flips_one (flip_table lines) ≡ false = any_nothing 16 _ unset in
        rw f

    -- and no JLP field, so that any number of words may be lent, of RAM and of flash
    pub supported : (m f : ℕ) → Silent (tables_rows flag_bytes (flip_table lines) m f)
    supported m f = field_none flag_bytes (flip_table lines) m f refl fine
