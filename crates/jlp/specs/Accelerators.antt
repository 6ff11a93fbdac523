-- The accelerators: on or off, and what a write, a reset and a read do (02, W-206); with them go the flash's registers (02, W-209).
use Rattle.std.specs.Prelude.{ℕ, ◌+◌, ◌*◌, ◌/◌, ◌-◌, Bool, true, false, cond, not, ◌&&◌, ◌||◌, List, [], ◌∷◌, eqb, get_or, set, replicate, Option, Some, None}
use Rattle.basics.specs.Rows.{first_of}
use Rattle.places.specs.declared.Console.{Console}
use Rattle.jlp.specs.declared.Results.{Results}
use Rattle.jlp.specs.declared.Jlp.{Jlp}
use Rattle.flash.specs.declared.Saves.{Saves}
use Rattle.flash.specs.Registers.{fresh_saves, flash_heard, remembered}
use Rattle.jlp.specs.Window.{in_window, in_ram, on_at, on_word, off_at, off_word, operands_start, is_operand, first_at, second_at, data_at, crc_at}
use Rattle.jlp.specs.Arith.{results, multiplied, divided}
use Rattle.jlp.specs.Crc.{crc_word}

-- two operands for each of six functions
abbrev pub operand_count : ℕ
operand_count = 12

-- on at load and reset for field values 1 and 3
abbrev pub starts_on : ℕ → Bool
starts_on field = eqb field 1 || eqb field 3

-- operands, results and CRC are 0 at load, and so are the registers of a flash of so many sectors
abbrev pub fresh_jlp : ℕ → ℕ → Jlp
fresh_jlp field sectors =
    record {
      field = field;
      on = starts_on field;
      operands = replicate operand_count 0;
      results = results 0 0;
      crc = 0;
      saves = fresh_saves sectors;
    }

-- turned on or off, all else kept
abbrev pub with_on : Jlp → Bool → Jlp
with_on j on = record { field = j.field; on = on; operands = j.operands; results = j.results; crc = j.crc; saves = j.saves }

-- operands, results, CRC and the flash's registers survive reset
abbrev pub reset_jlp : Jlp → Jlp
reset_jlp j = with_on j (starts_on j.field)

-- $4A5A to $8033 turns on, where the field is not 0; $6A7A to $8034 turns off
unfoldable pub turns_on : ℕ → Console → ℕ → Bool
turns_on field at v = eqb at.0 on_at && (eqb v on_word && not (eqb field 0))

unfoldable pub turns_off : Console → ℕ → Bool
turns_off at v = eqb at.0 off_at && eqb v off_word

-- the writes that the accelerators take: the word that turns them on, and while on all in $8000-$9FFF
unfoldable pub takes : Jlp → Console → ℕ → Bool
takes j at v = turns_on j.field at v || (j.on && in_window at)

-- of these the ones that go to a register, and not to a word of the RAM
unfoldable pub latches : Jlp → Console → ℕ → Bool
latches j at v = not (in_ram at) && takes j at v

-- the functions, S for a signed operand and U for an unsigned one (000, JLP Multiply and Divide Accelerators)
abbrev pub MPYSS : ℕ → ℕ → Results
MPYSS a b = multiplied true true a b

abbrev pub MPYSU : ℕ → ℕ → Results
MPYSU a b = multiplied true false a b

abbrev pub MPYUS : ℕ → ℕ → Results
MPYUS a b = multiplied false true a b

abbrev pub MPYUU : ℕ → ℕ → Results
MPYUU a b = multiplied false false a b

abbrev pub DIVSS : ℕ → ℕ → Results → Results
DIVSS a b old = divided true a b old

abbrev pub DIVUU : ℕ → ℕ → Results → Results
DIVUU a b old = divided false a b old

-- 000's table, from above: what function n makes of its two operands and the old results
unfoldable pub function_of : ℕ → ℕ → ℕ → Results → Results
function_of n a b old =
    first_of
    ((eqb n 0, MPYSS a b) ∷ (eqb n 1, MPYSU a b) ∷ (eqb n 2, MPYUS a b) ∷ (eqb n 3, MPYUU a b) ∷ (eqb n 4, DIVSS a b old) ∷ [])
    (DIVUU a b old)

-- function n has the operands 2n and 2n + 1
abbrev pub computed : ℕ → List ℕ → Results → Results
computed n operands old = function_of n (get_or operands (2 * n) 0) (get_or operands (2 * n + 1) 0) old

-- operand k is written: it is kept, and its own function computes
abbrev pub operated : Jlp → ℕ → ℕ → Jlp
operated j k v =
    record {
      field = j.field;
      on = j.on;
      operands = set j.operands k v;
      results = computed (k / 2) (set j.operands k v) j.results;
      crc = j.crc;
      saves = j.saves;
    }

-- a write to $9FFC adds a word to the CRC, one to $9FFD sets it (000, JLP CRC-16 Accelerator)
unfoldable pub crc_after : ℕ → Console → ℕ → ℕ
crc_after c at v = first_of ((eqb at.0 data_at, crc_word c v) ∷ (eqb at.0 crc_at, v) ∷ []) c

abbrev pub with_crc_and_saves : Jlp → ℕ → Saves → Jlp
with_crc_and_saves j c s = record { field = j.field; on = j.on; operands = j.operands; results = j.results; crc = c; saves = s }

-- what a write leaves while they are on; one that is not of the CRC or of the flash's registers leaves these as they are
unfoldable pub written_on : Jlp → Console → ℕ → Jlp
written_on j at v =
    first_of
    ((turns_off at v, with_on j false) ∷ (is_operand at, operated j (at.0 - operands_start) v) ∷ [])
    (with_crc_and_saves j (crc_after j.crc at v) (remembered j.saves at v))

-- what a write leaves of them: while off, only the word that turns them on changes anything
unfoldable pub written_jlp : Jlp → Console → ℕ → Jlp
written_jlp j at v = cond (turns_on j.field at v) (with_on j true) (cond j.on (written_on j at v) j)

-- the registers that answer: the results at $9F8E and $9F8F, and the CRC at $9FFD; all others are the flash's, or silent
unfoldable pub register_word : Jlp → Console → Option ℕ
register_word j at =
    first_of
    ((eqb at.0 first_at, Some j.results.first) ∷ (eqb at.0 second_at, Some j.results.second) ∷ (eqb at.0 crc_at, Some j.crc) ∷ [])
    (flash_heard j.saves at)

-- what a read of them gets: while off, silence
unfoldable pub heard_at : Jlp → Console → Option ℕ
heard_at j at = cond j.on (register_word j at) None
