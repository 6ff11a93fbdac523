-- `accesses::check_lines` meets its contract. The invariant: what is left of the list goes on from what was counted.
use borrow.Author.Rules.{rules}
use Rattle.accesses.proofs.Checks.{checking_none, checking_more, checked_wrong, checked_all, further}
use Rattle.accesses.proofs.check_lines.Goals as goal

pub loop-at-init : goal.loop-at-init
loop-at-init c = search (rules, checking_none)

pub returns-in_default : goal.returns-in_default
returns-in_default c = search (rules, checked_wrong)

pub loop-at-smaller : goal.loop-at-smaller
loop-at-smaller c = search (rules, further)

pub loop-at-preserved : goal.loop-at-preserved
loop-at-preserved c =
    checking_more _ _ _ _ c.loop-at.invariant _ c.loop-at-test.true c.says_at.ensures _ _ _ _ _ (search rules) c.is_heard.ensures (search rules)
    c.line_end-end.ensures c.past_end-at.ensures

pub returns : goal.returns
returns c = search (rules, checked_all)
