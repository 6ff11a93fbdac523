-- `rebuild::compare::ram_fits` meets its contract.
use Rattle.std.proofs.Common.{rules, arith, refl}
use Rattle.std.proofs.lemmas.Iterator.{YieldsList-from_range}
use Rattle.std.specs.Prelude.{not, ◌||◌}
use Rattle.places.specs.Limits.{locutus_paragraphs}
use Rattle.plan.specs.Image.{ram_covered_of}
use Rattle.canon.specs.Made.{blank_in}
use Rattle.basics.specs.Laws.Ranges.{all_below}
use Rattle.ledger.specs.Held.{sketched, words_in}
use Rattle.rebuild.proofs.compare.ram_fits.Goals as goal

pub returns : goal.returns
returns c =
    all_below (λ p. not (ram_covered_of (sketched c.args.s.now) p) || blank_in (words_in c.args.ram.now) p) _ _ _ c.all.ensures.ran
    (YieldsList-from_range 0 _ locutus_paragraphs refl (omega arith)) (λ x b q k. search rules)
