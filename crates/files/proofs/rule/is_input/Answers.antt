-- `rule::is_input` meets its contract: the library's search over the inputs finds what the definition finds.
use borrow.Author.Rules.{rules}
use mathlib.Core.Path.{◌∙◌}
use Rattle.std.proofs.lemmas.Iterator.{YieldsList-from_slice}
use Rattle.std.proofs.lemmas.Iterator.Search.{any_from_yields_List}
use Rattle.basics.specs.Laws.Tests.{tests}
use Rattle.files.specs.Rule.{same_file}
use Rattle.files.proofs.Verdicts.{input_any}
use Rattle.files.proofs.rule.is_input.Goals as goal

pub returns : goal.returns
returns c =
    any_from_yields_List (same_file c.args.seen) _ _ c.any.result c.any.ensures.ran (YieldsList-from_slice c.args.inputs.now cc) (λ x b q k. search (rules, tests))
    ∙ input_any c.args.seen c.args.inputs.now
