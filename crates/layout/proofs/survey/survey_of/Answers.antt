-- `layout::survey::survey_of` meets its contract, by what its callees ensure.
use borrow.Author.Rules.{rules}
use Rattle.layout.specs.Laws.Survey.{surveyed, numbered_few, numbered_small, numbered_within}
use Rattle.layout.proofs.survey.survey_of.Goals as goal

pub invariant_of-result : goal.invariant_of-result
invariant_of-result c =
    let e = c.number-pages.ensures in
    record { few = numbered_few _ _ e; small = numbered_small _ _ e; within = numbered_within _ _ e }

pub returns : goal.returns
returns c = search (rules, surveyed)
