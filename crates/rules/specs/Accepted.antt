-- Lines that a build accepts: those of a CFG that rule 24 let through, in which rules 25 to 28 find nothing.
use Rattle.std.specs.Prelude.{ℕ, ◌≤◌, List, ◌≡◌, length}
use Rattle.basics.specs.Refusals.{no_refusal}
use Rattle.places.specs.Limits.{line_limit}
use Rattle.lines.specs.declared.Line.{Line}
use Rattle.lines.specs.Typed.{All, Typed}
use Rattle.lines.specs.Bin.{bin_words}
use Rattle.rules.specs.Rules.{refusal_of}

pub record Accepted (bin : List ℕ) (lines : List Line) : Type 0 where
  pub few : length lines ≤ line_limit
  pub typed : All Typed lines
  pub judged : refusal_of (bin_words bin) lines ≡ no_refusal
