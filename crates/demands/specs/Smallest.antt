-- What the writer and the builder write has the fewest bytes (02, W-207): no bytes with the same blocks, but for the forms of their hunks' data
-- blocks, that end in 0xFF and load the same words are fewer.
use Rattle.std.specs.Prelude.{◌≤◌, ℕ, List, false, ◌≡◌, length, take}
use Rattle.tables.specs.Tables.{mislent}
use Rattle.save.specs.Chosen.{Sized}
use Rattle.trip.specs.Smallest.{Alike}
use Rattle.demands.specs.Pressing.{Pressing, Trip, Made}
use Rattle.demands.specs.Demand3.{Playable}

pub record Smallest : Type 0 where
  pub written : (t : Trip) → Made t → Sized t.content.flags t.content.uid t.content.tables
      → t.writing.refusal.number ≡ 0 → length t.ram ≡ length t.content.ram → mislent t.content.flags (length t.flash) ≡ false
      → (other : List ℕ) → Alike (take t.writing.length t.left) other t.ram (length t.flash) → t.writing.length ≤ length other
  pub built : (p : Pressing) → Playable p → (other : List ℕ) → Alike (take p.building.length p.left) other p.ram (length p.flash)
      → p.building.length ≤ length other
