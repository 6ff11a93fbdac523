-- `ledger::Sketch::rom_offset` meets its contract, by its chain.
use Rattle.std.proofs.Common.{rules, arith, ◌∙◌}
use Rattle.std.proofs.lemmas.Iterator.{YieldsList-from_range}
use Rattle.std.proofs.lemmas.Iterator.Consumers.{YieldsList-from_filter, count_from_yields_List}
use Rattle.basics.specs.Laws.Ranges.{length_kept}
use Rattle.canon.specs.Canonical.{is_rom}
use Rattle.ledger.specs.Held.{plan_in}
use Rattle.ledger.proofs.Loops.{rom_at, roms_all}
use Rattle.ledger.proofs.Sketch.rom_offset.Goals as goal

pub returns : goal.returns
returns c =
    let rom = is_rom (plan_in c.args.self.now.kinds c.args.self.now.pages) in
    roms_all c.args.self.now.kinds c.args.self.now.pages c.args.p _
    (count_from_yields_List _ _ c.count.ensures.ran
    (YieldsList-from_filter _ rom (YieldsList-from_range 0 _ c.args.p c.filter.ensures.source (omega arith)) c.filter.ensures.closure (λ x b q k. search (rules, rom_at)))
    ∙ length_kept rom _)
