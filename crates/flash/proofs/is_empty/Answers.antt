-- `flash::is_empty` meets its contract: each of the words.
use Rattle.std.proofs.Common.{rules, arith, refl}
use Rattle.std.proofs.lemmas.Iterator.{YieldsList-from_range}
use Rattle.basics.specs.Laws.Ranges.{all_below}
use Rattle.flash.specs.Flash.{is_erased, empty_at}
use Rattle.flash.proofs.is_empty.Goals as goal

pub returns : goal.returns
unfolding empty_at
returns c =
    all_below (is_erased c.args.s.now c.args.a) _ _ _ c.all.ensures.ran (YieldsList-from_range 0 _ 96 refl (omega arith)) (λ x b q k. search rules)
