-- `unbuild::source::write_source` meets its contract: 31, 32, or what is behind them.
use borrow.Author.Rules.{rules}
use Rattle.unbuild.proofs.Sources.{size_low, source_fits, source_long, source_unfit}
use Rattle.unbuild.proofs.source.write_source.Goals as goal

pub returns-then-not-k : goal.returns-then-not-k
returns-then-not-k c = search (rules, source_unfit)

pub returns-then-bin_size-gt-BIN_LIMIT : goal.returns-then-bin_size-gt-BIN_LIMIT
returns-then-bin_size-gt-BIN_LIMIT c = search (rules, source_long)

pub write_both-requires : goal.write_both-requires
write_both-requires c = search (rules, size_low)

pub returns : goal.returns
returns c = search (rules, source_fits)
