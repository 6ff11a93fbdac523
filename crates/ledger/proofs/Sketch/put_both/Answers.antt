-- `ledger::Sketch::put_both` meets its contract: the words of the pages lie behind those of ROM.
use borrow.Author.Rules.{rules}
use Rattle.ledger.proofs.Bins.{both_put, pages_fit, pages_from, roms_fit, some_first, some_second}
use Rattle.ledger.proofs.Sketch.put_both.Goals as goal

pub put_roms-a-requires : goal.put_roms-a-requires
put_roms-a-requires c = search (rules, roms_fit)

pub put_pages-b-requires : goal.put_pages-b-requires
put_pages-b-requires c = search (rules, pages_fit)

pub returns-then-a-ne0-clause-some : goal.returns-then-a-ne0-clause-some
returns-then-a-ne0-clause-some c = search (rules, some_first)

pub returns-then-a-ne0-clause-bytes : goal.returns-then-a-ne0-clause-bytes
returns-then-a-ne0-clause-bytes c = search (rules, both_put)

pub returns-else-a-ne0-clause-some : goal.returns-else-a-ne0-clause-some
returns-else-a-ne0-clause-some c = search (rules, some_second)

pub returns-else-a-ne0-clause-bytes : goal.returns-else-a-ne0-clause-bytes
returns-else-a-ne0-clause-bytes c = search (rules, both_put)

pub slice_bounds-put_pages-count : goal.slice_bounds-put_pages-count
slice_bounds-put_pages-count c = search (rules, pages_from)

pub slice_bounds-put_pages-start : goal.slice_bounds-put_pages-start
slice_bounds-put_pages-start c = search (rules, pages_from)
