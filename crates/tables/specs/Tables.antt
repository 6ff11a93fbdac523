-- The three tables in the payload of a tables block: as they are written, as they are read, the cartridge that they make, and what is
-- refused of them (01, File layout, Numbers that come back; 02, W-206 and W-209; 001, Block Type 0x01).
use Rattle.std.specs.Prelude.{ℕ, ◌+◌, ◌*◌, List, ◌++◌, ◌∷◌, [], Bool, cond, not, ◌&&◌, ◌||◌, get_or, eqb, ltb, leb}
use Rattle.basics.specs.declared.Refusal.{Refusal}
use Rattle.basics.specs.Tables.{table}
use Rattle.basics.specs.Bytes.{at16, bytes16}
use Rattle.basics.specs.Counts.{any}
use Rattle.basics.specs.Rows.{Row}
use Rattle.basics.specs.Refusals.{refuse, first_refusal}
use Rattle.places.specs.Limits.{paragraphs, chapter_pages}
use Rattle.header.specs.Flags.{jlp_field, flash_size, flag}
use Rattle.flash.specs.Flash.{sector_words, sector_limit}
use Rattle.jlp.specs.declared.Jlp.{Jlp}
use Rattle.jlp.specs.Window.{ram_words}
use Rattle.jlp.specs.Accelerators.{fresh_jlp}
use Rattle.cart.specs.declared.Cartridge.{Cartridge}
use Rattle.cart.specs.Cartridges.{fresh}
use Rattle.switches.specs.Flips.{PFE}

-- memory mapping, permissions and page flips
pub record Tables : Type 0 where
  pub mapping : List ℕ
  pub permissions : List ℕ
  pub flips : List ℕ

abbrev pub tables : List ℕ → List ℕ → List ℕ → Tables
tables mapping permissions flips = record { mapping = mapping; permissions = permissions; flips = flips }

-- the mapping stands first, with 16 bits for each paragraph; then the permissions, with 8; then the flips, with 16 for each page of each chapter
abbrev pub permissions_at : ℕ
permissions_at = 2 * paragraphs

abbrev pub flips_at : ℕ
flips_at = permissions_at + paragraphs

abbrev pub tables_size : ℕ
tables_size = flips_at + 2 * paragraphs

-- written
unfoldable pub tables_payload : Tables → List ℕ
tables_payload t = bytes16 t.mapping ++ (t.permissions ++ bytes16 t.flips)

-- read: the entries of 16 bits, and of 8, that stand at a place
abbrev pub words_at : List ℕ → ℕ → List ℕ
words_at payload at = table paragraphs (λ i. at16 payload (at + 2 * i))

abbrev pub bytes_at : List ℕ → ℕ → List ℕ
bytes_at payload at = table paragraphs (λ i. get_or payload (at + i) 0)

unfoldable pub tables_in : List ℕ → Tables
tables_in payload = tables (words_at payload 0) (bytes_at payload permissions_at) (words_at payload flips_at)

-- the sectors of flash that flags give: field 2 or 3 has those of its size, any other has none, whatever its size (02, W-209; 001, JLP Flags)
abbrev pub sectors_of : List ℕ → ℕ
sectors_of flags = cond (leb 2 (jlp_field flags)) (flash_size flags) 0

-- the accelerators that are loaded with these flags
abbrev pub jlp_of : List ℕ → Jlp
jlp_of flags = fresh_jlp (jlp_field flags) (sectors_of flags)

-- the cartridge that is loaded with these accelerators and these tables, or those of a payload
abbrev pub cartridge_with : Jlp → Tables → Cartridge
cartridge_with jlp t = fresh jlp t.mapping t.permissions t.flips

unfoldable pub cartridge_of : Jlp → List ℕ → Cartridge
cartridge_of jlp payload = cartridge_with jlp (tables_in payload)

-- a flip entry has PFE (001, Page Flipping Table)
abbrev pub has_pFE : List ℕ → ℕ → Bool
has_pFE flips n = PFE (get_or flips n 0)

-- PFE in chapter 1
abbrev pub flips_one : List ℕ → Bool
flips_one flips = any chapter_pages (λ y. has_pFE flips (chapter_pages + y))

-- 10: flag 32 set, or PFE in chapter 1; of BANKSW and of JLP flash it no longer speaks (02, W-202 and W-209)
unfoldable pub unsupported : List ℕ → List ℕ → Bool
unsupported flags flips = flag flags 32 || flips_one flips

-- 11: the JLP field isn't 0 and fewer than 73,600 words are lent (02, W-206)
unfoldable pub lacks_ram : List ℕ → ℕ → Bool
lacks_ram flags m = not (eqb (jlp_field flags) 0) && ltb m ram_words

-- 13: field 2 or 3, and the size is above 682 sectors, or a flash is lent that isn't exactly of that size (02, W-209)
abbrev pub flash_words : List ℕ → ℕ
flash_words flags = sector_words * flash_size flags

unfoldable pub oversized : List ℕ → Bool
oversized flags = leb 2 (jlp_field flags) && ltb sector_limit (flash_size flags)

unfoldable pub mislent : List ℕ → ℕ → Bool
mislent flags f = leb 2 (jlp_field flags) && not (eqb f (flash_words flags))

-- what is refused of a header's flags and of the flip table, with m words of RAM and f of flash lent, in 01's and 02's order
unfoldable pub tables_rows : List ℕ → List ℕ → ℕ → ℕ → List (Row Refusal)
tables_rows flags flips m f =
    (unsupported flags flips, refuse 10 0) ∷ (lacks_ram flags m, refuse 11 0) ∷ (oversized flags || mislent flags f, refuse 13 0) ∷ []

abbrev pub tables_refusal : List ℕ → List ℕ → ℕ → ℕ → Refusal
tables_refusal flags flips m f = first_refusal (tables_rows flags flips m f)
