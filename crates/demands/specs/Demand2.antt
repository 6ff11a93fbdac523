-- Demand 2: loading, writing, reads, writes and resets are those of LUIGI V1.0 with 01's house rules. The definitions that say so are
-- those of the promises (load/Load, save/Writing, cart); here is what they come to. A load stores what its hunks say and leaves every
-- other word; a cartridge that the writer accepts, written and then loaded with a flash that 13 lets through, gives the same tables and marked
-- words back; and any sequence of reads, writes and resets answers as it would over a plain list of rows of flash (02, W-209).
use Rattle.std.specs.Prelude.{ℕ, List, false, ◌≡◌, length}
use Rattle.places.specs.Limits.{lent}
use Rattle.cart.specs.Run.{World, Access}
use Rattle.cart.specs.PlainRun.{AsRows}
use Rattle.tables.specs.Tables.{mislent}
use Rattle.load.specs.Load.{loading_of, load_ram_of}
use Rattle.load.specs.Leaves.{Leaves}
use Rattle.save.specs.Chosen.{Sized}
use Rattle.trip.specs.Trip.{ComesBack}
use Rattle.demands.specs.Pressing.{Trip, Made}

pub record Demand2 : Type 0 where
  pub stores : (image ram : List ℕ) (f : ℕ) → (loading_of image (lent ram) f).refusal.number ≡ 0
      → Leaves image ram (loading_of image (lent ram) f) (load_ram_of image ram f)
  -- 16 flag bytes, 8 bytes of UID, and tables of 256 entries, which is what the writer's array types hold
  pub round_trip : (t : Trip) → Made t → Sized t.content.flags t.content.uid t.content.tables
      → t.writing.refusal.number ≡ 0 → length t.ram ≡ length t.content.ram → mislent t.content.flags (length t.flash) ≡ false
      → ComesBack t.content t.ram t.loading t.stored
  pub rows : (w : World) (xs : List Access) → AsRows w xs
