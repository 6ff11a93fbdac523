-- `layout::survey::is_under` meets its contract. The loop's invariant: the first k paragraphs are as asked.
use mathlib.Core.Bool.{true}
use mathlib.Core.Path.{◌≡◌}
use Rattle.basics.specs.Counts.{all}
use Rattle.layout.proofs.Surveying.{rom_at}
use Rattle.layout.proofs.survey.is_under.Given as goal

abbrev pub invariant-loop-k : goal.invariant-loop-k
invariant-loop-k l = all l.k (rom_at l.kinds l.x) ≡ true
