-- `hunk::data::cuts_size` meets its contract. The loop's invariant: the bytes of the data blocks of the words before those left are counted.
use Rattle.std.proofs.Common.{◌≡◌}
use Rattle.std.specs.Slice.Iter.{chunks_rest, chunks_size}
use Rattle.hunk.specs.Cuts.{data_words}
use Rattle.hunk.proofs.Written.{Sizing}
use Rattle.hunk.proofs.data.cuts_size.Given as goal

abbrev pub invariant-loop-cut : goal.invariant-loop-cut
invariant-loop-cut l = Sizing l.words (chunks_rest l.cut-iterator) l.long × (chunks_size l.cut-iterator ≡ data_words)
