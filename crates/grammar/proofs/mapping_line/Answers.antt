-- `grammar::mapping_line` meets its contract: each step goes on or ends the reading.
use mathlib.Core.Path.{refl}
use Rattle.grammar.specs.Code.Steps.{mapping_steps}
use Rattle.grammar.proofs.Entries.{on_some, on_none, with_five, with_seven, mapping_of, mapping_not}
use Rattle.grammar.proofs.mapping_line.Goals as goal

pub returns-then-n-ne7 : goal.returns-then-n-ne7
returns-then-n-ne7 c = search mapping_not

pub returns-in_err-lo : goal.returns-in_err-lo
unfolding mapping_steps
returns-in_err-lo c =
    mapping_of _ _ c.word_count-n.ensures _ c.else-n-ne5.either
    (on_none _ _ _ c.offset_at.ensures _ c.in_err-lo.was c.from_residual.ensures)

pub returns-in_err-demand_word : goal.returns-in_err-demand_word
unfolding mapping_steps
returns-in_err-demand_word c =
    mapping_of _ _ c.word_count-n.ensures _ c.else-n-ne5.either
    (on_some _ _ _ c.offset_at.ensures _ _ c.in_ok-lo.was
    (on_none _ _ _ c.demand_word.ensures _ c.in_err-demand_word.was c.from_residual-in_err-demand_word.ensures))

pub returns-in_err-hi : goal.returns-in_err-hi
unfolding mapping_steps
returns-in_err-hi c =
    mapping_of _ _ c.word_count-n.ensures _ c.else-n-ne5.either
    (on_some _ _ _ c.offset_at.ensures _ _ c.in_ok-lo.was
    (on_some _ _ _ c.demand_word.ensures _ _ c.in_ok-demand_word.was
    (on_none _ _ _ c.offset_at-2.ensures _ c.in_err-hi.was c.from_residual-in_err-hi.ensures)))

pub returns-in_err-demand_word-2 : goal.returns-in_err-demand_word-2
unfolding mapping_steps
returns-in_err-demand_word-2 c =
    mapping_of _ _ c.word_count-n.ensures _ c.else-n-ne5.either
    (on_some _ _ _ c.offset_at.ensures _ _ c.in_ok-lo.was
    (on_some _ _ _ c.demand_word.ensures _ _ c.in_ok-demand_word.was
    (on_some _ _ _ c.offset_at-2.ensures _ _ c.in_ok-hi.was
    (on_none _ _ _ c.demand_word-2.ensures _ c.in_err-demand_word-2.was c.from_residual-in_err-demand_word-2.ensures))))

pub returns-in_err-at : goal.returns-in_err-at
unfolding mapping_steps
returns-in_err-at c =
    mapping_of _ _ c.word_count-n.ensures _ c.else-n-ne5.either
    (on_some _ _ _ c.offset_at.ensures _ _ c.in_ok-lo.was
    (on_some _ _ _ c.demand_word.ensures _ _ c.in_ok-demand_word.was
    (on_some _ _ _ c.offset_at-2.ensures _ _ c.in_ok-hi.was
    (on_some _ _ _ c.demand_word-2.ensures _ _ c.in_ok-demand_word-2.was
    (on_none _ _ _ c.address_at.ensures _ c.in_err-at.was c.from_residual-in_err-at.ensures)))))

pub returns-then-n-eq5 : goal.returns-then-n-eq5
unfolding mapping_steps
returns-then-n-eq5 c =
    mapping_of _ _ c.word_count-n.ensures _ c.else-n-ne5.either
    (on_some _ _ _ c.offset_at.ensures _ _ c.in_ok-lo.was
    (on_some _ _ _ c.demand_word.ensures _ _ c.in_ok-demand_word.was
    (on_some _ _ _ c.offset_at-2.ensures _ _ c.in_ok-hi.was
    (on_some _ _ _ c.demand_word-2.ensures _ _ c.in_ok-demand_word-2.was
    (on_some _ _ _ c.address_at.ensures _ _ c.in_ok-at.was
    (with_five _ _ _ _ c.if-n-eq5.true refl))))))

pub returns-in_err-demand_word-3 : goal.returns-in_err-demand_word-3
unfolding mapping_steps
returns-in_err-demand_word-3 c =
    mapping_of _ _ c.word_count-n.ensures _ c.else-n-ne5.either
    (on_some _ _ _ c.offset_at.ensures _ _ c.in_ok-lo.was
    (on_some _ _ _ c.demand_word.ensures _ _ c.in_ok-demand_word.was
    (on_some _ _ _ c.offset_at-2.ensures _ _ c.in_ok-hi.was
    (on_some _ _ _ c.demand_word-2.ensures _ _ c.in_ok-demand_word-2.was
    (on_some _ _ _ c.address_at.ensures _ _ c.in_ok-at.was
    (with_seven _ _ _ _ c.if-n-eq5.false
    (on_none _ _ _ c.demand_word-3.ensures _ c.in_err-demand_word-3.was c.from_residual-in_err-demand_word-3.ensures)))))))

pub returns-in_err-page_at : goal.returns-in_err-page_at
unfolding mapping_steps
returns-in_err-page_at c =
    mapping_of _ _ c.word_count-n.ensures _ c.else-n-ne5.either
    (on_some _ _ _ c.offset_at.ensures _ _ c.in_ok-lo.was
    (on_some _ _ _ c.demand_word.ensures _ _ c.in_ok-demand_word.was
    (on_some _ _ _ c.offset_at-2.ensures _ _ c.in_ok-hi.was
    (on_some _ _ _ c.demand_word-2.ensures _ _ c.in_ok-demand_word-2.was
    (on_some _ _ _ c.address_at.ensures _ _ c.in_ok-at.was
    (with_seven _ _ _ _ c.if-n-eq5.false
    (on_some _ _ _ c.demand_word-3.ensures _ _ c.in_ok-demand_word-3.was
    (on_none _ _ _ c.page_at.ensures _ c.in_err-page_at.was c.from_residual-in_err-page_at.ensures))))))))

pub returns : goal.returns
unfolding mapping_steps
returns c =
    mapping_of _ _ c.word_count-n.ensures _ c.else-n-ne5.either
    (on_some _ _ _ c.offset_at.ensures _ _ c.in_ok-lo.was
    (on_some _ _ _ c.demand_word.ensures _ _ c.in_ok-demand_word.was
    (on_some _ _ _ c.offset_at-2.ensures _ _ c.in_ok-hi.was
    (on_some _ _ _ c.demand_word-2.ensures _ _ c.in_ok-demand_word-2.was
    (on_some _ _ _ c.address_at.ensures _ _ c.in_ok-at.was
    (with_seven _ _ _ _ c.if-n-eq5.false
    (on_some _ _ _ c.demand_word-3.ensures _ _ c.in_ok-demand_word-3.was
    (on_some _ _ _ c.page_at.ensures _ _ c.in_ok-page_at.was
    (refl)))))))))
