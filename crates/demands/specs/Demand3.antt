-- Demand 3: a built image plays as its CFG reads. Over any RAM of at least the words reported, holding anything, and any flash, it loads, and
-- every sequence of reads, writes and resets gets from the loaded image what the plain cartridge of 01 gives.
use Rattle.std.specs.Prelude.{◌≤◌, List, ◌≡◌, length}
use Rattle.basics.specs.Refusals.{no_refusal}
use Rattle.cart.specs.Run.{Access, answers}
use Rattle.cfg.specs.File.{entries_of}
use Rattle.plays.specs.Plain.{plain_answers, fresh}
use Rattle.demands.specs.Pressing.{Pressing, Pressed, world_of}

-- a title that the builder accepts, loaded into a RAM of at least the words reported
pub record Playable (p : Pressing) : Type 0 where
  pub pressed : Pressed p
  pub accepted : p.building.refusal.number ≡ 0
  pub enough : p.building.needed ≤ length p.ram

pub record Demand3 : Type 0 where
  pub loads : (p : Pressing) → Playable p → p.loading.refusal ≡ no_refusal
  pub plays : (p : Pressing) → Playable p → (xs : List Access)
      → answers (world_of p.loading p.flash p.stored) xs ≡ plain_answers p.bin (entries_of p.cfg) fresh xs
