-- `rules::chapters::kinds_of` meets its contract. The loop's invariant: the kinds are those of the lines before line k.
use mathlib.Core.Path.{◌∙◌}
use borrow.Author.Rules.{rules}
use Rattle.rules.proofs.Covers.{kinding_none, kinding_more, kinding_all}
use Rattle.rules.proofs.chapters.kinds_of.Goals as goal

pub loop-l-init : goal.loop-l-init
loop-l-init c = search (rules, kinding_none)

pub loop-l-preserved : goal.loop-l-preserved
loop-l-preserved c = kinding_more _ _ _ c.loop-l.invariant c.loop-l-test.true _ (c.from.ensures ∙ c.kind_of.ensures) _ c.claim_paragraphs-kinds.ensures

pub returns : goal.returns
returns c = search (rules, kinding_all)
