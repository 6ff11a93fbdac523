-- What the image card prints of an image (01, Bench cases, "The image card").
use Rattle.std.specs.Prelude.{ℕ, List, cond, ltb, length, Result}
use Rattle.basics.specs.declared.Refusal.{Refusal}
use Rattle.basics.specs.Refusals.{refuse, outcome}
use Rattle.places.specs.Limits.{card_limit}
use Rattle.load.specs.Load.{Loading}
use Rattle.load.specs.Load.{loading_of, load_ram_of}
use Rattle.report.specs.declared.Counts.{Counts}

-- what the card comes to: a refusal, and what is printed of a load
pub record Report : Type 0 where
  pub refusal : Refusal
  pub blocks : ℕ
  pub words : ℕ

-- what the code answers of it
abbrev pub report_answer : Report → Result Counts Refusal
report_answer r = outcome r.refusal (record { blocks = r.blocks; words = r.words })

abbrev pub printed : Loading → Report
printed r = record { refusal = r.refusal; blocks = r.blocks; words = r.words }

abbrev pub too_long : Report
too_long = record { refusal = refuse 30 0; blocks = 0; words = 0 }

-- 30 is asked before all others; no flash is lent: with the words that the card lends an image with a JLP field is refused before it is asked for
unfoldable pub report_of : List ℕ → ℕ → Report
report_of s m = cond (ltb card_limit (length s)) too_long (printed (loading_of s m 0))

unfoldable pub report_ram_of : List ℕ → List ℕ → List ℕ
report_ram_of s ram = cond (ltb card_limit (length s)) ram (load_ram_of s ram 0)
