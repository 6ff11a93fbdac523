-- `exports::desk::salvaged_as` meets its contract, case by case.
use mathlib.Core.Path.{◌≡◌, ◌∙◌, ap, sym}
use Rattle.std.specs.Prelude.{Option, Some, None, Result, Ok, ℕ}
use Rattle.basics.specs.declared.Declined.{Declined}
use Rattle.recovery.specs.declared.Salvaged.{Salvaged as Answer}
use Rattle.recovery.specs.Salvage.{salvaging_from, stopped_from}
use Rattle.exports.specs.declared.desk.Salvaged.{Salvaged}
use Rattle.exports.specs.Desk.{salvaged_at, salvaged_as, stopped_as}
use Rattle.exports.proofs.desk.salvaged_as.Goals as goal

-- the answer to a salvage that stopped nowhere, or at a place
nowhere : (a : Result Answer Declined) (s : Answer) → a ≡ Ok s → s.stopped ≡ None → (r : Salvaged) → r ≡ salvaged_at (salvaging_from (Ok s)) 0 0 → r ≡ salvaged_as (salvaging_from a)
nowhere a s e n r h = h ∙ rw (e, n)

at : (a : Result Answer Declined) (s : Answer) → a ≡ Ok s → (p : ℕ) → s.stopped ≡ Some p → (r : Salvaged) → r ≡ salvaged_at (salvaging_from (Ok s)) 1 p → r ≡ salvaged_as (salvaging_from a)
at a s e p n r h = h ∙ rw (e, n)

pub returns-in-None : goal.returns-in-None
returns-in-None c = nowhere _ _ c.in-Ok.is c.in-None.is _ c.salvaged_at.ensures

pub returns-in-Some : goal.returns-in-Some
returns-in-Some c = at _ _ c.in-Ok.is _ c.in-Some.is _ c.salvaged_at-in-Some.ensures
