-- `ledger::Sketch::put_bin` meets its contract: no room, words, or none.
use borrow.Author.Rules.{rules}
use Rattle.ledger.proofs.Bins.{bin_short, bin_some, bin_zero}
use Rattle.ledger.proofs.Sketch.put_bin.Goals as goal

pub returns-then-out-bin_size : goal.returns-then-out-bin_size
returns-then-out-bin_size c = search (rules, bin_short)

pub returns-then-not-put_both : goal.returns-then-not-put_both
returns-then-not-put_both c = search (rules, bin_zero)

pub returns-else-not-put_both : goal.returns-else-not-put_both
returns-else-not-put_both c = search (rules, bin_some)
