-- What an image holds that a build gives again (02, W-213): its tables, its named words with the values that it loads, and its JLP field.
use Rattle.std.specs.Prelude.{ℕ, ◌≡◌, List, Bool, true, get_or, replicate}
use Rattle.places.specs.Limits.{lent_limit}
use Rattle.header.specs.Flags.{jlp_field}
use Rattle.header.specs.Header.{flags_of}
use Rattle.tables.specs.Tables.{Tables, tables_in}
use Rattle.blocks.specs.Images.{blocks_in, hunks_in, payload_of_tables}
use Rattle.load.specs.Leaves.{named}
use Rattle.load.specs.Load.{flash_asked, load_ram_of}

-- a RAM of 524,288 words, all zero
unfoldable pub whole_ram : List ℕ
whole_ram = replicate lent_limit 0

abbrev pub image_tables : List ℕ → Tables
image_tables s = tables_in (payload_of_tables (blocks_in s))

-- some hunk names Locutus word i; the word that is loaded there
abbrev pub names_word : List ℕ → ℕ → Bool
names_word s i = named (hunks_in (blocks_in s)) i

abbrev pub loaded_word : List ℕ → ℕ → ℕ
loaded_word s i = get_or (load_ram_of s whole_ram (flash_asked s)) i 0

abbrev pub image_jlp : List ℕ → ℕ
image_jlp s = jlp_field (flags_of s)

-- one image holds what another one does
pub record SameContent (s t : List ℕ) : Type 0 where
  pub tables : image_tables s ≡ image_tables t
  pub names : (i : ℕ) → names_word s i ≡ names_word t i
  pub words : (i : ℕ) → names_word t i ≡ true → loaded_word s i ≡ loaded_word t i
  pub jlp : image_jlp s ≡ image_jlp t
