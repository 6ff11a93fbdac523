-- `hunk::check` meets its contract. The loop's invariant: the data blocks before p are whole, and their n words lie in the RAM.
use Rattle.std.proofs.Common.{◌≡◌, rules, Ok, Err, Some, None}
use Rattle.std.proofs.lemmas.Result.{err_from_is_err_and}
use Rattle.hunk.proofs.Loops.{check_short, check_start, check_end, check_wrong, check_fits, check_past, check_more, stands_less}
use Rattle.hunk.proofs.check.Goals as goal

pub returns-then-s-lt3 : goal.returns-then-s-lt3
returns-then-s-lt3 c = search (rules, check_short)

pub loop-d-init : goal.loop-d-init
loop-d-init c = search (rules, check_start)

pub returns-in_err-d : goal.returns-in_err-d
returns-in_err-d c =
    let p = err_from_is_err_and c.from_residual.result c.from_residual.ensures.1 in
    let e : c.block_at.result ≡ Err c.in_err-d.field-0.0 = c.in_err-d.was in
    rw (p.1, p.2) (search (rules, check_wrong))

pub overflow_add-n : goal.overflow_add-n
overflow_add-n c = let e : c.block_at.result ≡ Ok (Some c.in-Some.d) = cc in search (rules, check_fits)

pub returns-then-past : goal.returns-then-past
returns-then-past c = let e : c.block_at.result ≡ Ok (Some c.in-Some.d) = cc in search (rules, check_past)

pub loop-d-smaller : goal.loop-d-smaller
loop-d-smaller c = search (rules, stands_less)

pub loop-d-preserved : goal.loop-d-preserved
loop-d-preserved c = search (rules, check_more)

pub returns : goal.returns
returns c = let e : c.block_at.result ≡ Ok None = cc in search (rules, check_end)
