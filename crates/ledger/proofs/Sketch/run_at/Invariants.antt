-- `ledger::Sketch::run_at` meets its contract. The loop's invariant: the first n paragraphs are of one kind.
use mathlib.Core.Path.{◌≡◌}
use Rattle.plan.specs.Plan.{kinds}
use Rattle.canon.specs.Canonical.{reach}
use Rattle.ledger.specs.Held.{plan_in}
use Rattle.ledger.proofs.Sketch.run_at.Given as goal

abbrev pub invariant-loop-n : goal.invariant-loop-n
invariant-loop-n l = reach (kinds (plan_in l.self.kinds l.self.pages)) l.p l.n ≡ l.n
