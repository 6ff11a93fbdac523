-- Over a built image a list of accesses gets what the plain cartridge gives (02, W-214): demand 3, for the runner.
use Rattle.std.specs.Prelude.{ℕ, List, map, ◌≡◌}
use Rattle.std.proofs.Common.{ap}
use Rattle.cfg.specs.File.{entries_of}
use Rattle.plays.specs.Plain.{plain_answers, fresh}
use Rattle.cart.specs.Reads.{heard}
use Rattle.accesses.specs.Runs.{run_of, words_of}
use Rattle.demands.specs.Pressing.{Pressing, world_of}
use Rattle.demands.specs.Demand3.{Playable}
use Rattle.demands.specs.Laws.Demand3.{demand_3}

pub lists_play : (p : Pressing) → Playable p → (list : List ℕ) (limit room : ℕ)
    → words_of (world_of p.loading p.flash p.stored) list limit room
    ≡ map heard (plain_answers p.bin (entries_of p.cfg) fresh (run_of list limit room))
lists_play p q list limit room = ap (map heard) (demand_3.plays p q (run_of list limit room))
