-- W-206: JLP RAM and arithmetic (02). Reads and writes of the accelerators' addresses are Machine.hears_on, stores_on, latches and turns_on.
use Rattle.std.specs.Prelude.{ℕ, ◌+◌, ◌*◌, ◌/◌, ◌<◌, Bool, true, false, ◌||◌, List, ◌↔◌, ◌⊎◌, ◌≡◌, leb, ◌+ℤ◌, ◌*ℤ◌, nat_abs, get_or, set}
use Rattle.places.specs.Places.{console}
use Rattle.header.specs.Flags.{jlp_field}
use Rattle.jlp.specs.declared.Jlp.{Jlp}
use Rattle.jlp.specs.declared.Results.{Results}
use Rattle.jlp.specs.Arith.{results, multiplied, divided}
use Rattle.jlp.specs.Values.{value_of, long_of}
use Rattle.jlp.specs.Crc.{crc_word}
use Rattle.jlp.specs.Accelerators.{fresh_jlp, reset_jlp, written_jlp, function_of}
use Rattle.tables.specs.Tables.{lacks_ram}

-- all but on and off is as it was
pub record SameRegisters (j k : Jlp) : Type 0 where
  pub field : k.field ≡ j.field
  pub operands : k.operands ≡ j.operands
  pub results : k.results ≡ j.results
  pub crc : k.crc ≡ j.crc
  pub saves : k.saves ≡ j.saves

pub record W206 : Type 0 where
  -- "'accelerators on', set at load and reset for field values 1 and 3, clear for 2"; field 0 has none
  pub fresh_on : (sectors : ℕ) → ((fresh_jlp 1 sectors).on ≡ true) × ((fresh_jlp 3 sectors).on ≡ true)
  pub fresh_off : (sectors : ℕ) → ((fresh_jlp 0 sectors).on ≡ false) × ((fresh_jlp 2 sectors).on ≡ false)
  pub reset_on : (j : Jlp) → (reset_jlp j).on ≡ (fresh_jlp j.field 0).on
  -- "$6A7A to $8034 off"
  pub turns_off : (j : Jlp) → j.on ≡ true → (written_jlp j (console 0x8034) 0x6A7A).on ≡ false
  -- "every operand write computes": operand k at $9F80 + k is kept, and function k / 2 computes of its two operands
  pub operates : (j : Jlp) (k v : ℕ) → j.on ≡ true → k < 12 → let operands : List ℕ = set j.operands k v in
      ((written_jlp j (console (0x9F80 + k)) v).operands ≡ operands)
      × ((written_jlp j (console (0x9F80 + k)) v).results
      ≡ function_of (k / 2) (get_or operands (2 * (k / 2)) 0) (get_or operands (2 * (k / 2) + 1) 0) j.results)
  -- "The four multiplies, two divides .. follow 000's tables"
  pub functions : (a b : ℕ) (old : Results)
      → (function_of 0 a b old ≡ multiplied true true a b) × ((function_of 1 a b old ≡ multiplied true false a b)
      × ((function_of 2 a b old ≡ multiplied false true a b) × ((function_of 3 a b old ≡ multiplied false false a b)
      × ((function_of 4 a b old ≡ divided true a b old) × (function_of 5 a b old ≡ divided false a b old)))))
  -- the two result words are the product, of signed or unsigned factors
  pub products : (s t : Bool) (a b : ℕ) → a < 65536 → b < 65536 → long_of (s || t) (multiplied s t a b) ≡ value_of s a *ℤ value_of t b
  -- "signed division rounds toward zero": quotient times divisor plus remainder is the dividend, but for -32,768 by -1; the remainder is
  -- smaller than the divisor, and is 0 or has the dividend's sign
  pub divides : (s : Bool) (a b : ℕ) → a < 65536 → b < 65536 → (b ≡ 0 → ⊥) → (old : Results) → (s ≡ true → a ≡ 0x8000 → b ≡ 0xFFFF → ⊥)
      → value_of s (divided s a b old).first *ℤ value_of s b +ℤ value_of s (divided s a b old).second ≡ value_of s a
  pub remainder_small : (s : Bool) (a b : ℕ) → a < 65536 → b < 65536 → (b ≡ 0 → ⊥) → (old : Results)
      → nat_abs (value_of s (divided s a b old).second) < nat_abs (value_of s b)
  pub remainder_sign : (a b : ℕ) → a < 65536 → b < 65536 → (b ≡ 0 → ⊥) → (old : Results)
      → ((divided true a b old).second ≡ 0) ⊎ (leb 0x8000 (divided true a b old).second ≡ leb 0x8000 a)
  -- "divisor 0 leaves both result words; -32,768 by -1 gives quotient $8000, remainder 0"
  pub by_zero : (s : Bool) (a : ℕ) (old : Results) → divided s a 0 old ≡ old
  pub out_of_range : (old : Results) → divided true 0x8000 0xFFFF old ≡ results 0x8000 0
  -- "the CRC at $9FFC and $9FFD (polynomial 0xAD52, right shifting, one 16-bit word a write)"
  pub crc_adds : (j : Jlp) (v : ℕ) → j.on ≡ true → (written_jlp j (console 0x9FFC) v).crc ≡ crc_word j.crc v
  pub crc_set : (j : Jlp) (v : ℕ) → j.on ≡ true → (written_jlp j (console 0x9FFD) v).crc ≡ v
  -- "operands, results and CRC are 0 at load and survive reset"
  pub fresh_results : (field sectors : ℕ) → ((fresh_jlp field sectors).results ≡ results 0 0) × ((fresh_jlp field sectors).crc ≡ 0)
  pub fresh_operands : (field sectors k : ℕ) → get_or (fresh_jlp field sectors).operands k 0 ≡ 0
  pub survives : (j : Jlp) → SameRegisters j (reset_jlp j)
  -- "11 .. when the field isn't 0 and fewer than 73,600 words are lent"
  pub eleven : (flags : List ℕ) (m : ℕ) → (lacks_ram flags m ≡ true) ↔ ((jlp_field flags ≡ 0 → ⊥) × (m < 73600))
