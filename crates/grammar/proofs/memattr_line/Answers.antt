-- `grammar::memattr_line` meets its contract: each step goes on or ends the reading.
use mathlib.Core.Path.{refl}
use Rattle.grammar.specs.Code.Steps.{memattr_steps}
use Rattle.grammar.proofs.Entries.{on_some, on_none, memattr_of, memattr_not}
use Rattle.grammar.proofs.memattr_line.Goals as goal

pub returns-then-word_count-ne6 : goal.returns-then-word_count-ne6
returns-then-word_count-ne6 c = search memattr_not

pub returns-in_err-lo : goal.returns-in_err-lo
unfolding memattr_steps
returns-in_err-lo c =
    memattr_of _ _ c.word_count.ensures _ c.if-word_count-ne6.false
    (on_none _ _ _ c.address_at.ensures _ c.in_err-lo.was c.from_residual.ensures)

pub returns-in_err-demand_word : goal.returns-in_err-demand_word
unfolding memattr_steps
returns-in_err-demand_word c =
    memattr_of _ _ c.word_count.ensures _ c.if-word_count-ne6.false
    (on_some _ _ _ c.address_at.ensures _ _ c.in_ok-lo.was
    (on_none _ _ _ c.demand_word.ensures _ c.in_err-demand_word.was c.from_residual-in_err-demand_word.ensures))

pub returns-in_err-hi : goal.returns-in_err-hi
unfolding memattr_steps
returns-in_err-hi c =
    memattr_of _ _ c.word_count.ensures _ c.if-word_count-ne6.false
    (on_some _ _ _ c.address_at.ensures _ _ c.in_ok-lo.was
    (on_some _ _ _ c.demand_word.ensures _ _ c.in_ok-demand_word.was
    (on_none _ _ _ c.address_at-2.ensures _ c.in_err-hi.was c.from_residual-in_err-hi.ensures)))

pub returns-in_err-demand_word-2 : goal.returns-in_err-demand_word-2
unfolding memattr_steps
returns-in_err-demand_word-2 c =
    memattr_of _ _ c.word_count.ensures _ c.if-word_count-ne6.false
    (on_some _ _ _ c.address_at.ensures _ _ c.in_ok-lo.was
    (on_some _ _ _ c.demand_word.ensures _ _ c.in_ok-demand_word.was
    (on_some _ _ _ c.address_at-2.ensures _ _ c.in_ok-hi.was
    (on_none _ _ _ c.demand_word-2.ensures _ c.in_err-demand_word-2.was c.from_residual-in_err-demand_word-2.ensures))))

pub returns-in_err-demand_word-3 : goal.returns-in_err-demand_word-3
unfolding memattr_steps
returns-in_err-demand_word-3 c =
    memattr_of _ _ c.word_count.ensures _ c.if-word_count-ne6.false
    (on_some _ _ _ c.address_at.ensures _ _ c.in_ok-lo.was
    (on_some _ _ _ c.demand_word.ensures _ _ c.in_ok-demand_word.was
    (on_some _ _ _ c.address_at-2.ensures _ _ c.in_ok-hi.was
    (on_some _ _ _ c.demand_word-2.ensures _ _ c.in_ok-demand_word-2.was
    (on_none _ _ _ c.demand_word-3.ensures _ c.in_err-demand_word-3.was c.from_residual-in_err-demand_word-3.ensures)))))

pub returns-in_err-width_at : goal.returns-in_err-width_at
unfolding memattr_steps
returns-in_err-width_at c =
    memattr_of _ _ c.word_count.ensures _ c.if-word_count-ne6.false
    (on_some _ _ _ c.address_at.ensures _ _ c.in_ok-lo.was
    (on_some _ _ _ c.demand_word.ensures _ _ c.in_ok-demand_word.was
    (on_some _ _ _ c.address_at-2.ensures _ _ c.in_ok-hi.was
    (on_some _ _ _ c.demand_word-2.ensures _ _ c.in_ok-demand_word-2.was
    (on_some _ _ _ c.demand_word-3.ensures _ _ c.in_ok-demand_word-3.was
    (on_none _ _ _ c.width_at.ensures _ c.in_err-width_at.was c.from_residual-in_err-width_at.ensures))))))

pub returns : goal.returns
unfolding memattr_steps
returns c =
    memattr_of _ _ c.word_count.ensures _ c.if-word_count-ne6.false
    (on_some _ _ _ c.address_at.ensures _ _ c.in_ok-lo.was
    (on_some _ _ _ c.demand_word.ensures _ _ c.in_ok-demand_word.was
    (on_some _ _ _ c.address_at-2.ensures _ _ c.in_ok-hi.was
    (on_some _ _ _ c.demand_word-2.ensures _ _ c.in_ok-demand_word-2.was
    (on_some _ _ _ c.demand_word-3.ensures _ _ c.in_ok-demand_word-3.was
    (on_some _ _ _ c.width_at.ensures _ _ c.in_ok-width_at.was
    (refl)))))))
