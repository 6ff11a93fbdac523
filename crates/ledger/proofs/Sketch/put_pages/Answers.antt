-- `ledger::Sketch::put_pages` meets its contract. The loop's invariant: the words of the first n pages are written.
use borrow.Author.Rules.{rules}
use Rattle.ledger.proofs.Bins.{page_none, page_more, page_off, page_all, page_length, page_room}
use Rattle.ledger.proofs.Sketch.put_pages.Goals as goal
use Rattle.ledger.proofs.Sketch.put_pages.Goals.{then-self-n, else-self-n}

pub loop-n-init : goal.loop-n-init
loop-n-init c = search (rules, page_none)

pub loop-n-preserved : goal.loop-n-preserved
loop-n-preserved c = elim c.if-self-n.branch [ then-self-n w ↦ search (rules, page_more) | else-self-n w ↦ search (rules, page_off) ]

pub returns-clause-length : goal.returns-clause-length
returns-clause-length c = search (rules, page_length)

pub returns-clause-bytes : goal.returns-clause-bytes
returns-clause-bytes c = search (rules, page_all)

pub slice_bounds-put_words-end : goal.slice_bounds-put_words-end
slice_bounds-put_words-end c = search (rules, page_room)
