-- Which paragraphs of Locutus RAM an image names, and with which words: those that a test chooses, rising; and the blocks that they make
-- (01, How an image is laid out by the builder).
use Rattle.std.specs.Prelude.{ℕ, ◌*◌, List, [], ◌∷◌, ◌++◌, map, ◌≡◌, Bool, length}
use Rattle.basics.specs.Listed.{listed}
use Rattle.places.specs.Places.{locutus}
use Rattle.places.specs.Limits.{paragraphs, paragraph_size}
use Rattle.header.specs.Header.{flags_size, uid_size, header_of}
use Rattle.tables.specs.Tables.{Tables, tables_payload}
use Rattle.hunk.specs.Hunk.{Hunk, hunk, hunk_payload}
use Rattle.blocks.specs.Blocks.{tables_type, hunk_type, end_mark, block_of}
use Rattle.blocks.specs.Images.{image_of}

-- the hunk of paragraph p, from its first word on
abbrev pub paragraph_hunk : ℕ → List ℕ → Hunk
paragraph_hunk p words = hunk (locutus (paragraph_size * p)) words

-- a hunk for each paragraph below n that is chosen
abbrev pub chosen : ℕ → (ℕ → Bool) → (ℕ → List ℕ) → List Hunk
chosen n on words = listed n on (λ p. paragraph_hunk p (words p))

-- the blocks of an image: the tables, then the hunks
abbrev pub tables_block : Tables → List ℕ
tables_block t = block_of tables_type (tables_payload t)

abbrev pub hunk_block : Hunk → List ℕ
hunk_block h = block_of hunk_type (hunk_payload h)

-- a header, the tables, other blocks, the hunks, and the byte that ends it; and an image with no other blocks
unfoldable pub image_with : List ℕ → List ℕ → Tables → List (List ℕ) → List Hunk → List ℕ
image_with flags uid t others hunks = image_of (header_of flags uid) (tables_block t ∷ others ++ map hunk_block hunks) (end_mark ∷ [])

unfoldable pub image_for : List ℕ → List ℕ → Tables → List Hunk → List ℕ
image_for flags uid t hunks = image_with flags uid t [] hunks

-- flags, UID and tables have their sizes (01, File layout)
pub record Sized (flags uid : List ℕ) (t : Tables) : Type 0 where
  pub flags_long : length flags ≡ flags_size
  pub uid_long : length uid ≡ uid_size
  pub mapping_long : length t.mapping ≡ paragraphs
  pub permissions_long : length t.permissions ≡ paragraphs
  pub flips_long : length t.flips ≡ paragraphs
