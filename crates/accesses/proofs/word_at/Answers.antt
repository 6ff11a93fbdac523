-- `accesses::word_at` meets its contract: a law for each of the four digits that may be none, and one for all four.
use Rattle.std.proofs.Common.{rules, ◌∙◌}
use Rattle.accesses.proofs.Lines.{first_none, second_none, third_none, fourth_none, all_four}
use Rattle.accesses.proofs.word_at.Goals as goal

pub returns-in_err-a : goal.returns-in_err-a
returns-in_err-a c = search (rules, first_none, c.in_err-a.was)

pub returns-in_err-b : goal.returns-in_err-b
returns-in_err-b c = search (rules, second_none, c.in_ok-a.was, c.in_err-b.was)

pub returns-in_err-c : goal.returns-in_err-c
returns-in_err-c c = search (rules, third_none, c.in_ok-a.was, c.in_ok-b.was, c.in_err-c.was)

pub returns-in_err-d : goal.returns-in_err-d
returns-in_err-d c =
    c.from_residual-in_err-d.ensures
    ∙ fourth_none _ _ _ c.digit_at.ensures.0 _ c.in_ok-a.was _ c.digit_at-2.ensures.0 _ c.in_ok-b.was _ c.digit_at-3.ensures.0 _ c.in_ok-c.was _
    c.digit_at-4.ensures.0 c.in_err-d.was

pub returns : goal.returns
returns c = search (rules, all_four, c.in_ok-a.was, c.in_ok-b.was, c.in_ok-c.was, c.in_ok-d.was)
