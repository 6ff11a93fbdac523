-- `hunk::data::write_cuts` meets its contract. The loop's invariant: the data blocks of the words before those left are written.
use Rattle.std.proofs.Common.{rules}
use Rattle.hunk.proofs.Written.{cut_some, form_most, writing_room, writing_part, writing_more, writing_all}
use Rattle.hunk.proofs.data.write_cuts.Goals as goal

pub slice_bounds-write_data-end : goal.slice_bounds-write_data-end
slice_bounds-write_data-end c =
    let h = c.in-Some.ensures.steps in
    let en = rw c.loop-cut.invariant.1 at h.1.1 in
    search (rules, writing_room)

pub write_data-requires : goal.write_data-requires
write_data-requires c =
    let h = c.in-Some.ensures.steps in
    let en = rw c.loop-cut.invariant.1 at h.1.1 in
    (search (rules, cut_some), search (rules, form_most), search (rules, writing_part))

pub loop-cut-preserved : goal.loop-cut-preserved
loop-cut-preserved c =
    let h = c.in-Some.ensures.steps in
    let en = rw c.loop-cut.invariant.1 at h.1.1 in
    (search (rules, writing_more), search rules)

pub returns : goal.returns
returns c =
    let h = c.in-None.ensures.steps in
    search (rules, writing_all)
