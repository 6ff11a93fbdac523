-- What building answers and what it leaves in the lent buffer (01, How an image is laid out by the builder; Numbers that come back).
use Rattle.std.specs.Prelude.{ℕ, ◌%◌, List, ◌∷◌, [], ◌++◌, Bool, cond, ◌||◌, replicate, length, drop, eqb, ltb, Result, Ok, Err}
use Rattle.basics.specs.declared.Refusal.{Refusal}
use Rattle.basics.specs.declared.Declined.{Declined}
use Rattle.basics.specs.Bytes.{le32}
use Rattle.basics.specs.Rows.{Row}
use Rattle.basics.specs.Refusals.{refuse, no_refusal, first_refusal, passes, outcome_at}
use Rattle.places.specs.Limits.{locutus_paragraphs, bin_limit, lent_limit}
use Rattle.sums.specs.Crc.{crc32_of}
use Rattle.tables.specs.Tables.{Tables, tables}
use Rattle.hunk.specs.Hunk.{Hunk}
use Rattle.label.specs.Label.{label_blocks, wrong_label}
use Rattle.save.specs.Chosen.{chosen, image_with}
use Rattle.lines.specs.declared.Line.{Line}
use Rattle.lines.specs.Bin.{bin_words}
use Rattle.cfg.specs.File.{entries_of, refusal_rows as cfgRows}
use Rattle.rules.specs.Rules.{refusal_rows as ruleRows}
use Rattle.layout.specs.Layout.{mapping_table, permissions_table, flip_table, covered, paragraph_words, needed}
use Rattle.build.specs.declared.Built.{Built}

-- What a build answers: its refusal; the image's length, also where the buffer is too short for it; and the words of RAM that the
-- image needs. And how the code says it.
pub record Building : Type 0 where
  pub refusal : Refusal
  pub length : ℕ
  pub needed : ℕ

abbrev pub outcome_of : Building → Result Built Declined
outcome_of b = outcome_at b.refusal b.length (record { length = b.length; needed = b.needed })

-- and back
abbrev pub building_from : Result Built Declined → Building
building_from (Ok b) = record { refusal = no_refusal; length = b.length; needed = b.needed }
building_from (Err d) = record { refusal = d.refusal; length = d.length; needed = 0 }

-- the flag bytes: 0x55, 0x05, other flag bytes 0; the UID: CRC32 of the BIN, then of the CFG
abbrev pub flag_bytes : List ℕ
flag_bytes = 0x55 ∷ 0x05 ∷ replicate 14 0

unfoldable pub uid_of : List ℕ → List ℕ → List ℕ
uid_of bin cfg = le32 (crc32_of bin) ++ le32 (crc32_of cfg)

-- the tables, the block of a label that is not empty, and a hunk for each covered paragraph in rising Locutus order
abbrev pub tables_for : List Line → Tables
tables_for lines = tables (mapping_table lines) (permissions_table lines) (flip_table lines)

abbrev pub hunks_for : List ℕ → List Line → List Hunk
hunks_for bin lines = chosen locutus_paragraphs (covered lines) (paragraph_words bin lines)

-- the image of some lines; and that of a BIN, a CFG and a label
abbrev pub image_on : List ℕ → List ℕ → List ℕ → List Line → List ℕ
image_on bin cfg label lines = image_with flag_bytes (uid_of bin cfg) (tables_for lines) (label_blocks label) (hunks_for bin lines)

unfoldable pub pressed_image : List ℕ → List ℕ → List ℕ → List ℕ
pressed_image bin cfg label = image_on bin cfg label (entries_of cfg)

-- 21: the BIN is empty, odd, or over 524,288 bytes
unfoldable pub wrong_bin : List ℕ → Bool
wrong_bin bin = eqb (length bin) 0 || (eqb (length bin % 2) 1 || ltb bin_limit (length bin))

-- 20: more words are needed than Locutus has (02, W-210)
unfoldable pub too_large : List Line → Bool
too_large lines = ltb lent_limit (needed lines)

-- 29: the buffer is shorter than the image
unfoldable pub too_short : List ℕ → List ℕ → List ℕ → List ℕ → Bool
too_short bin cfg label out = ltb (length out) (length (pressed_image bin cfg label))

-- what is asked behind the rules: 20; 12, of the label (02, W-204); 29
abbrev pub room_rows : List ℕ → List ℕ → List ℕ → List ℕ → List (Row Refusal)
room_rows bin cfg label out =
    (too_large (entries_of cfg), refuse 20 0)
    ∷ (wrong_label label, refuse 12 0)
    ∷ (too_short bin cfg label out, refuse 29 0)
    ∷ []

-- every refusal of a build in its order: 21; 22, 23, 24; 25 to 28; 20; 12; 29
abbrev pub refusal_rows : List ℕ → List ℕ → List ℕ → List ℕ → List (Row Refusal)
refusal_rows bin cfg label out =
    (wrong_bin bin, refuse 21 0)
    ∷ (cfgRows cfg ++ (ruleRows (bin_words bin) (entries_of cfg) ++ room_rows bin cfg label out))

unfoldable pub refusal_of : List ℕ → List ℕ → List ℕ → List ℕ → Refusal
refusal_of bin cfg label out = first_refusal (refusal_rows bin cfg label out)

abbrev pub builds : List ℕ → List ℕ → List ℕ → List ℕ → Bool
builds bin cfg label out = passes (refusal_of bin cfg label out)

-- the answers: a refusal, and zero in all else but the length at 29; and the image's length and the words that it needs
abbrev pub refused : List ℕ → List ℕ → List ℕ → Refusal → Building
refused bin cfg label r = record { refusal = r; length = cond (eqb r.number 29) (length (pressed_image bin cfg label)) 0; needed = 0 }

abbrev pub built : List ℕ → List ℕ → List ℕ → Building
built bin cfg label = record { refusal = no_refusal; length = length (pressed_image bin cfg label); needed = needed (entries_of cfg) }

unfoldable pub building_of : List ℕ → List ℕ → List ℕ → List ℕ → Building
building_of bin cfg label out = cond (builds bin cfg label out) (built bin cfg label) (refused bin cfg label (refusal_of bin cfg label out))

-- the buffer: the image at its front, bytes past it kept; and all bytes kept where the build is refused
unfoldable pub built_of : List ℕ → List ℕ → List ℕ → List ℕ → List ℕ
built_of bin cfg label out = cond (builds bin cfg label out) (pressed_image bin cfg label ++ drop (length (pressed_image bin cfg label)) out) out
