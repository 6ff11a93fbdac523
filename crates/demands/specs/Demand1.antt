-- Demand 1: every image, CFG, list of lines and content, of any length, is answered. A refusal has 01's number and place, is given exactly
-- when its row holds and none before it in its order does, answers nothing else, and changes no RAM word and no buffer byte. (A bus
-- access has no refusal: `read`, `write` and `reset` answer every one of them by an equation.)
use Rattle.std.specs.Prelude.{ℕ, List, ◌≡◌, ◌↔◌}
use Rattle.basics.specs.declared.Refusal.{Refusal}
use Rattle.basics.specs.Rows.{Row, Gives, Silent}
use Rattle.places.specs.Limits.{lent}
use Rattle.load.specs.Load.{refusal_rows as loadRows, loading_of, load_ram_of, refused as loadRefused}
use Rattle.lines.specs.declared.Line.{Line}
use Rattle.cfg.specs.File.{refusal_rows as cfgRows, reading_of, refused as cfgRefused}
use Rattle.rules.specs.Rules.{refusal_rows as ruleRows, refusal_of as ruledBy}
use Rattle.save.specs.Writing.{Content, refusal_rows as writeRows, writing_of, written_of}
use Rattle.build.specs.Building.{refusal_rows as buildRows, building_of, built_of, refused as buildRefused}

-- of a table of rows, refused so exactly when that row holds and none before it does; accepted exactly when no row holds
pub record Decides (rows : List (Row Refusal)) (answer : Refusal) : Type 0 where
  pub refused : (r : Refusal) → (r.number ≡ 0 → ⊥) → (answer ≡ r) ↔ Gives rows r
  pub accepted : (answer.number ≡ 0) ↔ Silent rows

-- something is refused
abbrev pub Refused : Refusal → Type 0
Refused r = r.number ≡ 0 → ⊥

pub record Demand1 : Type 0 where
  -- loading, with f words of flash: all else zero, no RAM word changed
  pub load : (image ram : List ℕ) (f : ℕ) → Decides (loadRows image (lent ram) f) (loading_of image (lent ram) f).refusal
  pub load_zero : (image ram : List ℕ) (f : ℕ) → Refused (loading_of image (lent ram) f).refusal
      → loading_of image (lent ram) f ≡ loadRefused (loading_of image (lent ram) f).refusal
  pub load_keeps : (image ram : List ℕ) (f : ℕ) → Refused (loading_of image (lent ram) f).refusal → load_ram_of image ram f ≡ ram
  -- reading a CFG, and the rules on its lines
  pub cfg : (cfg : List ℕ) → Decides (cfgRows cfg) (reading_of cfg).refusal
  pub cfg_zero : (cfg : List ℕ) → Refused (reading_of cfg).refusal → reading_of cfg ≡ cfgRefused (reading_of cfg).refusal
  pub rules : (words : ℕ) (lines : List Line) → Decides (ruleRows words lines) (ruledBy words lines)
  -- writing: all else zero but the length at 29, no buffer byte changed
  pub write : (out : List ℕ) (c : Content) → Decides (writeRows out c) (writing_of out c).refusal
  pub write_zero : (out : List ℕ) (c : Content) → Refused (writing_of out c).refusal → ((writing_of out c).refusal.number ≡ 29 → ⊥)
      → (writing_of out c).length ≡ 0
  pub write_keeps : (out : List ℕ) (c : Content) → Refused (writing_of out c).refusal → written_of out c ≡ out
  -- building, likewise
  pub build : (bin cfg label out : List ℕ) → Decides (buildRows bin cfg label out) (building_of bin cfg label out).refusal
  pub build_zero : (bin cfg label out : List ℕ) → Refused (building_of bin cfg label out).refusal
      → building_of bin cfg label out ≡ buildRefused bin cfg label (building_of bin cfg label out).refusal
  pub build_keeps : (bin cfg label out : List ℕ) → Refused (building_of bin cfg label out).refusal → built_of bin cfg label out ≡ out
