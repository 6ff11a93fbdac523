-- The load: every refusal of an image as one table in 01's order, the answer, and the RAM afterwards (01, Numbers that come back).
use Rattle.std.specs.Prelude.{ℕ, List, ◌∷◌, [], ◌++◌, Bool, false, cond, not, length, Result, Ok, Err}
use Rattle.basics.specs.declared.Refusal.{Refusal}
use Rattle.basics.specs.Rows.{Row}
use Rattle.basics.specs.Refusals.{refuse, no_refusal, first_refusal, passes, outcome}
use Rattle.places.specs.Limits.{lent}
use Rattle.header.specs.Header.{header_rows, flags_of}
use Rattle.header.specs.declared.Compat.{Compat}
use Rattle.header.specs.Flags.{compat_of, no_compat}
use Rattle.cart.specs.declared.Cartridge.{Cartridge}
use Rattle.cart.specs.Cartridges.{no_cartridge}
use Rattle.hunk.specs.Hunk.{store_hunk}
use Rattle.tables.specs.Tables.{tables_in, jlp_of, cartridge_of, flash_words, tables_rows}
use Rattle.blocks.specs.Blocks.{payload_in, is_hunk}
use Rattle.blocks.specs.Images.{first_block, blocks_in, stop_of, is_cut, judge_all, any_tables, payload_of_tables, hunks_in, overlay, word_count}
use Rattle.load.specs.declared.Loaded.{Loaded}

-- blocks in file order, each 7, 6 or 12, 8, 9, then 5 where one is cut; then "none" of 8, place the file's length
unfoldable pub walk_rows : List ℕ → ℕ → List (Row Refusal)
walk_rows s m =
    judge_all m false first_block (blocks_in s)
    ++ ((is_cut s, refuse 5 (stop_of s)) ∷ (not (any_tables (blocks_in s)), refuse 8 (length s)) ∷ [])

-- the cartridge of these flags and the first tables block
abbrev pub cartridge_in : List ℕ → List (List ℕ) → Cartridge
cartridge_in flags xs = cartridge_of (jlp_of flags) (payload_of_tables xs)

-- every refusal of an image that is loaded into m words of RAM with f words of flash: 1 to 4; the blocks; then 10, 11 and 13, of the flags
-- and the tables
abbrev pub refusal_rows : List ℕ → ℕ → ℕ → List (Row Refusal)
refusal_rows s m f = header_rows s ++ (walk_rows s m ++ tables_rows (flags_of s) (tables_in (payload_of_tables (blocks_in s))).flips m f)

unfoldable pub refusal_of : List ℕ → ℕ → ℕ → Refusal
refusal_of s m f = first_refusal (refusal_rows s m f)

-- the same with a flash of the size that the flags say, so that of 13 only the size is asked (02, W-209)
abbrev pub flash_asked : List ℕ → ℕ
flash_asked s = flash_words (flags_of s)

abbrev pub rows_by_size : List ℕ → ℕ → List (Row Refusal)
rows_by_size s m = refusal_rows s m (flash_asked s)

abbrev pub refusal_by_size : List ℕ → ℕ → Refusal
refusal_by_size s m = refusal_of s m (flash_asked s)

abbrev pub loads : List ℕ → ℕ → ℕ → Bool
loads s m f = passes (refusal_of s m f)

-- what a load comes to: its refusal, and what is loaded
pub record Loading : Type 0 where
  pub refusal : Refusal
  pub cartridge : Cartridge
  pub compat : Compat
  pub blocks : ℕ
  pub words : ℕ

-- the answer of a load with these flags and blocks; and of a refused one: number and place, zero in all else, and nothing said of the TutorVision
abbrev pub loaded_of : List ℕ → List (List ℕ) → Loading
loaded_of flags xs =
    record {
      refusal = no_refusal;
      cartridge = cartridge_in flags xs;
      compat = compat_of flags;
      blocks = length xs;
      words = word_count (hunks_in xs);
    }

abbrev pub refused : Refusal → Loading
refused r = record { refusal = r; cartridge = no_cartridge; compat = no_compat; blocks = 0; words = 0 }

-- the answer for m words of lent RAM and f of lent flash
unfoldable pub loading_of : List ℕ → ℕ → ℕ → Loading
loading_of s m f = cond (loads s m f) (loaded_of (flags_of s) (blocks_in s)) (refused (refusal_of s m f))

-- what the code answers of it: the refusal, or what is loaded
abbrev pub loaded : Loading → Loaded
loaded l = record { cartridge = l.cartridge; compat = l.compat; blocks = l.blocks; words = l.words }

abbrev pub load_answer : Loading → Result Loaded Refusal
load_answer l = outcome l.refusal (loaded l)

-- and what such an answer says that the load comes to
abbrev pub loading_from : Result Loaded Refusal → Loading
loading_from (Ok l) = record { refusal = no_refusal; cartridge = l.cartridge; compat = l.compat; blocks = l.blocks; words = l.words }
loading_from (Err r) = refused r

-- the RAM afterwards: the hunks over it in file order, and as it was where the load is refused; the flash is only measured
unfoldable pub load_ram_of : List ℕ → List ℕ → ℕ → List ℕ
load_ram_of s ram f = cond (loads s (lent ram) f) (overlay (hunks_in (blocks_in s)) ram) ram

-- the storing pass alone: the hunks of blocks laid over a RAM in file order; one that is not good for the words lent lays nothing
unfoldable pub hunks_laid : List (List ℕ) → List ℕ → List ℕ
hunks_laid [] ram = ram
hunks_laid (x ∷ xs) ram = hunks_laid xs (cond (is_hunk x) (store_hunk (payload_in x) ram) ram)
