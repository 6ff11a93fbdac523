-- `rebuild::compare::names_fit` meets its contract: its closure asks the mark, and whether all words of the paragraph are named, or none.
use Rattle.std.proofs.Common.{rules, arith, refl}
use Rattle.std.proofs.lemmas.Iterator.{YieldsList-from_range}
use Rattle.std.specs.Prelude.{cond, false, get_or}
use Rattle.places.specs.Limits.{locutus_paragraphs}
use Rattle.basics.specs.Laws.Ranges.{all_below}
use Rattle.rebuild.specs.Code.Retraced.{unnamed_in}
use Rattle.rebuild.specs.Laws.Names.{names_by}
use Rattle.rebuild.proofs.compare.names_fit.Goals as goal

pub returns : goal.returns
returns c =
    names_by c.args.zeros.now c.args.ones.now c.args.drawn.now _ _ c.requires
    (all_below (λ p. cond (get_or c.args.drawn.now p false) (get_or c.args.named.now p false) (unnamed_in c.args.zeros.now c.args.ones.now p)) _ _ _
    c.all.ensures.ran (YieldsList-from_range 0 _ locutus_paragraphs refl (omega arith)) (λ x b q k. search rules))
