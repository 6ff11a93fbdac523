-- Worked cases: the definitions compute.
use Rattle.std.specs.Prelude.{ℕ, ◌+◌, ◌*◌, Bool, true, false, List, [], ◌∷◌, map, ◌≡◌, get_or, Some, None}
use Rattle.std.proofs.Math.Path.{refl}
use Rattle.std.specs.Int.Bits.{bit_xor}
use Rattle.places.specs.Places.{console, locutus}
use Rattle.sums.specs.Crc.{crc_bit, crc_bits}
use Rattle.flash.specs.Registers.{has_flash, flash_heard, remembered}
use Rattle.jlp.specs.declared.Jlp.{Jlp}
use Rattle.jlp.specs.declared.Results.{Results}
use Rattle.jlp.specs.Window.{between, in_window, in_ram, ram_location}
use Rattle.jlp.specs.Arith.{results, product_of, multiplied, quotient_of, divided}
use Rattle.jlp.specs.Crc.{jlp_poly, crc_word, crc_words}
use Rattle.jlp.specs.Accelerators.{MPYSS, MPYSU, MPYUS, MPYUU, DIVSS, DIVUU, fresh_jlp, reset_jlp, turns_on, turns_off, takes, function_of, crc_after, written_on, written_jlp, register_word, heard_at}

-- -1 by -1 is 1; -1 by 65,535, in either place, is -65,535; 65,535 by 65,535 is $FFFE0001; -32,768 by -32,768 is $40000000
pub signed_by_signed : MPYSS 0xFFFF 0xFFFF ≡ results 1 0
unfolding multiplied product_of
signed_by_signed = refl

pub signed_by_unsigned : MPYSU 0xFFFF 0xFFFF ≡ results 1 0xFFFF
unfolding multiplied product_of
signed_by_unsigned = refl

pub unsigned_by_signed : MPYUS 0xFFFF 0xFFFF ≡ results 1 0xFFFF
unfolding multiplied product_of
unsigned_by_signed = refl

pub unsigned_by_unsigned : MPYUU 0xFFFF 0xFFFF ≡ results 1 0xFFFE
unfolding multiplied product_of
unsigned_by_unsigned = refl

pub largest_square : MPYSS 0x8000 0x8000 ≡ results 0 0x4000
unfolding multiplied product_of
largest_square = refl

-- -7 by 2 is -3, remainder -1; 7 by -2 is -3, 1; -7 by -2 is 3, -1; $FFF9 by 2, unsigned, is $7FFC, 1
module _ (old : Results) where
  pub minus_by_two : DIVSS 0xFFF9 2 old ≡ results 0xFFFD 0xFFFF
  unfolding divided quotient_of
  minus_by_two = refl

  pub by_minus_two : DIVSS 7 0xFFFE old ≡ results 0xFFFD 1
  unfolding divided quotient_of
  by_minus_two = refl

  pub minus_by_minus : DIVSS 0xFFF9 0xFFFE old ≡ results 3 0xFFFF
  unfolding divided quotient_of
  minus_by_minus = refl

  pub unsigned_by_two : DIVUU 0xFFF9 2 old ≡ results 0x7FFC 1
  unfolding divided quotient_of
  unsigned_by_two = refl

-- 000's table T has at i what eight bits make of i, with i itself in its upper byte besides: its entries $01, $02, $04 to $80
-- (000, Reference Code, CRC16T)
abbrev table_at : ℕ → ℕ
table_at i = bit_xor (crc_bits jlp_poly 8 i) (256 * i)

pub table_entries_lem : map table_at (0x01 ∷ 0x02 ∷ 0x04 ∷ 0x08 ∷ 0x10 ∷ 0x20 ∷ 0x40 ∷ 0x80 ∷ [])
    ≡ 0xC035 ∷ 0xDACF ∷ 0xEF3B ∷ 0x84D3 ∷ 0x5303 ∷ 0xA606 ∷ 0x16A9 ∷ 0x2D52 ∷ []
unfolding crc_bits crc_bit
table_entries_lem = refl

-- the words 1 and $8000, each by itself, and one after the other
pub crc_low : crc_word 0 1 ≡ 0xEFCA
unfolding crc_word crc_bits crc_bit
crc_low = refl

pub crc_high : crc_word 0 0x8000 ≡ 0xAD52
unfolding crc_word crc_bits crc_bit
crc_high = refl

pub crc_both : crc_words 0 (1 ∷ 0x8000 ∷ []) ≡ 0x212E
unfolding crc_words crc_word crc_bits crc_bit
crc_both = refl

-- the ends of the window, and of the RAM
pub window_ends : map (λ a. in_window (console a)) (0x7FFF ∷ 0x8000 ∷ 0x9FFF ∷ 0xA000 ∷ []) ≡ false ∷ true ∷ true ∷ false ∷ []
unfolding between
window_ends = refl

pub ram_ends : map (λ a. in_ram (console a)) (0x803F ∷ 0x8040 ∷ 0x9F7F ∷ 0x9F80 ∷ []) ≡ false ∷ true ∷ true ∷ false ∷ []
unfolding between
ram_ends = refl

pub first_location : ram_location (console 0x8040) ≡ locutus 0x10040
first_location = refl

pub last_location : ram_location (console 0x9F7F) ≡ locutus 0x11F7F
last_location = refl

-- field values 0 to 3 at load
pub on_at_load : map (λ f. (fresh_jlp f 0).on) (0 ∷ 1 ∷ 2 ∷ 3 ∷ []) ≡ false ∷ true ∷ false ∷ true ∷ []
on_at_load = refl

-- a write of a word to an address, and what writes leave
abbrev pub Write : Type 0
Write = ℕ × ℕ

abbrev pub after_writes : Jlp → List Write → Jlp
after_writes j [] = j
after_writes j (w ∷ ws) = after_writes (written_jlp j (console w.0) w.1) ws

abbrev pub taken_by : Jlp → Write → Bool
taken_by j w = takes j (console w.0) w.1

-- while off: the word that turns on; another word there, and that word elsewhere; the word that turns off; an operand
pub taken_off : map (taken_by (fresh_jlp 2 0)) ((0x8033, 0x4A5A) ∷ (0x8033, 0x4A5B) ∷ (0x8034, 0x4A5A) ∷ (0x8034, 0x6A7A) ∷ (0x9F80, 1) ∷ [])
    ≡ true ∷ false ∷ false ∷ false ∷ false ∷ []
unfolding takes turns_on between
taken_off = refl

-- while on: the same, but outside of the window; and with field 0
pub taken_on : map (taken_by (fresh_jlp 1 0)) ((0x8033, 0x4A5A) ∷ (0x8034, 0x6A7A) ∷ (0x9FFF, 0x9A50) ∷ (0x7FFF, 0x4A5A) ∷ (0xA000, 1) ∷ [])
    ≡ true ∷ true ∷ true ∷ false ∷ false ∷ []
unfolding takes turns_on between
taken_on = refl

pub taken_never : map (taken_by (fresh_jlp 0 0)) ((0x8033, 0x4A5A) ∷ (0x8034, 0x6A7A) ∷ (0x9F80, 1) ∷ []) ≡ false ∷ false ∷ false ∷ []
unfolding takes turns_on between
taken_never = refl

-- each function of $FFF9 and $FFFE, -7 and -2 or 65,529 and 65,534, by writes to its two operands
abbrev pub by_writes : ℕ → Results
by_writes n = (after_writes (fresh_jlp 1 0) ((0x9F80 + 2 * n, 0xFFF9) ∷ (0x9F81 + 2 * n, 0xFFFE) ∷ [])).results

pub six_functions : map by_writes (0 ∷ 1 ∷ 2 ∷ 3 ∷ 4 ∷ 5 ∷ [])
    ≡ results 0x000E 0x0000 ∷ results 0x000E 0xFFF9 ∷ results 0x000E 0xFFFE ∷ results 0x000E 0xFFF7
    ∷ results 0x0003 0xFFFF ∷ results 0x0000 0xFFF9 ∷ []
unfolding written_jlp written_on turns_on turns_off between function_of multiplied product_of divided quotient_of
six_functions = refl

-- 12,345 in decimal digits: the divisor is written once (000, Program Example)
pub two_digits : (after_writes (fresh_jlp 1 0) ((0x9F8B, 10) ∷ (0x9F8A, 12345) ∷ (0x9F8A, 1234) ∷ [])).results ≡ results 123 4
unfolding written_jlp written_on turns_on turns_off between function_of divided quotient_of
two_digits = refl

-- 3 by 5, then a dividend over a divisor that was never written: the product stays, and the dividend is kept
abbrev pub over_nothing : Jlp
over_nothing = after_writes (fresh_jlp 1 0) ((0x9F80, 3) ∷ (0x9F81, 5) ∷ (0x9F88, 9) ∷ [])

pub product_stays : over_nothing.results ≡ results 15 0
unfolding written_jlp written_on turns_on turns_off between function_of multiplied product_of divided quotient_of
product_stays = refl

pub dividend_kept : get_or over_nothing.operands 8 0 ≡ 9
unfolding written_jlp written_on turns_on turns_off between function_of multiplied product_of divided quotient_of
dividend_kept = refl

-- a CRC from its start at $FFFF, with a product before it; what then answers, of the last operand, the results, the CRC's registers and $9FFE
abbrev pub summed : Jlp
summed = after_writes (fresh_jlp 3 0) ((0x9F86, 0x1234) ∷ (0x9F87, 0x100) ∷ (0x9FFD, 0xFFFF) ∷ (0x9FFC, 0xFFFE) ∷ [])

pub answers : map (λ a. heard_at summed (console a)) (0x9F8B ∷ 0x9F8E ∷ 0x9F8F ∷ 0x9FFC ∷ 0x9FFD ∷ 0x9FFE ∷ [])
    ≡ None ∷ Some 0x3400 ∷ Some 0x0012 ∷ None ∷ Some 0xEFCA ∷ None ∷ []
unfolding written_jlp written_on turns_on turns_off between function_of multiplied product_of crc_after crc_word crc_bits crc_bit heard_at register_word remembered flash_heard has_flash
answers = refl

-- turned off they are silent, and reset has them answer as before
abbrev pub silenced : Jlp
silenced = after_writes summed ((0x8034, 0x6A7A) ∷ [])

pub off_and_reset : map (λ j. heard_at j (console 0x9FFD)) (silenced ∷ reset_jlp silenced ∷ []) ≡ None ∷ Some 0xEFCA ∷ []
unfolding written_jlp written_on turns_on turns_off between function_of multiplied product_of crc_after crc_word crc_bits crc_bit heard_at register_word remembered flash_heard has_flash
off_and_reset = refl

-- the registers of one sector of flash, kept while on: row 5 for $8100; off they are silent and keep nothing, and on again the same
abbrev pub saving : Jlp
saving = after_writes (fresh_jlp 3 1) ((0x8025, 0x8100) ∷ (0x8026, 5) ∷ [])

abbrev pub not_saving : Jlp
not_saving = after_writes saving ((0x8034, 0x6A7A) ∷ (0x8026, 6) ∷ [])

pub rows_heard : map (λ j. heard_at j (console 0x8024)) (saving ∷ not_saving ∷ reset_jlp not_saving ∷ []) ≡ Some 7 ∷ None ∷ Some 7 ∷ []
unfolding written_jlp written_on turns_on turns_off between crc_after heard_at register_word remembered flash_heard has_flash
rows_heard = refl

pub rows_kept : map (λ j. j.saves.row) (saving ∷ not_saving ∷ reset_jlp not_saving ∷ []) ≡ 5 ∷ 5 ∷ 5 ∷ []
unfolding written_jlp written_on turns_on turns_off between crc_after remembered has_flash
rows_kept = refl
