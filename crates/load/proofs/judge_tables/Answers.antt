-- `load::judge_tables` meets its contract: what the tables crate answers of the cartridge.
use Rattle.load.proofs.Laws.{size_judged}
use Rattle.load.proofs.judge_tables.Goals as goal

pub returns : goal.returns
returns c = size_judged c.args.s.now c.args.t _ c.cartridge_at-cartridge.ensures _ _ c.flags_of-flags.ensures _ c.flash_words.ensures _ c.refused.ensures
