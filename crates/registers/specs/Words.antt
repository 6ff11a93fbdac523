-- The accelerators in 20 words, as C lends them: the JLP field, 1 for on, the operands, the two results, the CRC (02, W-206), and the flash's sectors,
-- address and row (02, W-209).
use Rattle.std.specs.Prelude.{ℕ, ◌+◌, ◌%◌, Bool, cond, not, ◌&&◌, List, ◌∷◌, [], ◌++◌, eqb, get_or}
use Rattle.basics.specs.Tables.{table}
use Rattle.jlp.specs.declared.Jlp.{Jlp}
use Rattle.jlp.specs.Arith.{results}
use Rattle.places.specs.declared.Console.{Console}
use Rattle.jlp.specs.Window.{is_operand}
use Rattle.jlp.specs.Accelerators.{operand_count, written_jlp}

-- as many words
abbrev pub accelerator_words : ℕ
accelerator_words = 20

abbrev pub one_if : Bool → ℕ
one_if b = cond b 1 0

abbrev pub words_of : Jlp → List ℕ
words_of j =
    j.field
    ∷ one_if j.on
    ∷ (table operand_count (λ i. get_or j.operands i 0)
    ++ (j.results.first ∷ j.results.second ∷ j.crc ∷ j.saves.sectors ∷ j.saves.addr ∷ j.saves.row ∷ []))

-- and back: any words are some accelerators, on for every word but 0
abbrev pub jlp_from : List ℕ → Jlp
jlp_from w =
    record {
      field = get_or w 0 0 % 256;
      on = not (eqb (get_or w 1 0) 0);
      operands = table operand_count (λ i. get_or w (2 + i) 0);
      results = results (get_or w 14 0) (get_or w 15 0);
      crc = get_or w 16 0;
      saves = record { sectors = get_or w 17 0; addr = get_or w 18 0; row = get_or w 19 0 };
    }

-- a write to an operand while they are on computes (02, W-206)
unfoldable pub operates : Jlp → Console → Bool
operates j at = j.on && is_operand at

-- what such a write leaves of the words; by any other they stay
unfoldable pub behind_operand : List ℕ → Console → ℕ → List ℕ
behind_operand w at v = cond (operates (jlp_from w) at) (words_of (written_jlp (jlp_from w) at v)) w
