-- A BIN and a CFG, size of the BIN apart, that build to an image's tables, named words and JLP field (02, W-213).
use Rattle.std.specs.Prelude.{◌%◌, ℕ, ◌≡◌, List, [], ◌++◌, ◌∷◌, Bool, ◌||◌, eqb, length}
use Rattle.basics.specs.Refusals.{first_refusal, no_refusal, refuse}
use Rattle.basics.specs.Rows.{Row}
use Rattle.basics.specs.declared.Refusal.{Refusal}
use Rattle.lines.specs.Bin.{bin_words}
use Rattle.cfg.specs.File.{refusal_rows as cfgRows, entries_of}
use Rattle.rules.specs.Rules.{refusal_rows as ruleRows}
use Rattle.build.specs.Building.{pressed_image, too_large}
use Rattle.unbuild.specs.Content.{SameContent}

-- 21, its upper limit apart: the BIN is empty or odd
abbrev pub broken_bin : List ℕ → Bool
broken_bin bin = eqb (length bin) 0 || eqb (length bin % 2) 1

-- what a build refuses of a BIN and a CFG, whatever the buffer: 21, its upper limit apart; 22, 23, 24; 25 to 28; 20
abbrev pub source_rows : List ℕ → List ℕ → List (Row Refusal)
source_rows bin cfg =
    (broken_bin bin, refuse 21 0)
    ∷ (cfgRows cfg ++ (ruleRows (bin_words bin) (entries_of cfg) ++ ((too_large (entries_of cfg), refuse 20 0) ∷ [])))

-- nothing is refused, and the image that is pressed with no label holds what this one does
pub record Source (image bin cfg : List ℕ) : Type 0 where
  pub builds : first_refusal (source_rows bin cfg) ≡ no_refusal
  pub same : SameContent (pressed_image bin cfg []) image
