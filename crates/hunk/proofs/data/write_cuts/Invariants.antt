-- `hunk::data::write_cuts` meets its contract. The loop's invariant: the data blocks of the words before those left are written.
use Rattle.std.proofs.Common.{◌≡◌}
use Rattle.std.specs.Slice.Iter.{chunks_rest, chunks_size}
use Rattle.hunk.specs.Cuts.{data_words}
use Rattle.hunk.proofs.Written.{Writing}
use Rattle.hunk.proofs.data.write_cuts.Given as goal

abbrev pub invariant-loop-cut : goal.invariant-loop-cut
invariant-loop-cut l = Writing l.words (chunks_rest l.cut-iterator) l.initial.out l.out l.p × (chunks_size l.cut-iterator ≡ data_words)
