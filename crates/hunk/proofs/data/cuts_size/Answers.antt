-- `hunk::data::cuts_size` meets its contract. The loop's invariant: the bytes of the data blocks of the words before those left are counted.
use Rattle.std.proofs.Common.{rules}
use Rattle.hunk.proofs.Written.{sizing_fits, sizing_more, sizing_all}
use Rattle.hunk.proofs.data.cuts_size.Goals as goal

pub overflow_add-long : goal.overflow_add-long
overflow_add-long c =
    let h = c.in-Some.ensures.steps in
    let en = rw c.loop-cut.invariant.1 at h.1.1 in
    search (rules, sizing_fits)

pub loop-cut-preserved : goal.loop-cut-preserved
loop-cut-preserved c =
    let h = c.in-Some.ensures.steps in
    let en = rw c.loop-cut.invariant.1 at h.1.1 in
    (search (rules, sizing_more), search rules)

pub returns : goal.returns
returns c =
    let h = c.in-None.ensures.steps in
    search (rules, sizing_all)
