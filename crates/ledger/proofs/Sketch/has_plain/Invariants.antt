-- `ledger::Sketch::has_plain` meets its contract. The loop's invariant: it is known whether one of the first k paragraphs is plain.
use Rattle.places.specs.Limits.{chapter_paragraphs}
use Rattle.basics.specs.Laws.Joined.{Somewhere}
use Rattle.ledger.proofs.Housing.{plain}
use Rattle.ledger.proofs.Sketch.has_plain.Given as goal

abbrev pub invariant-loop-k : goal.invariant-loop-k
invariant-loop-k l = Somewhere chapter_paragraphs (plain l.self.kinds l.x) l.k l.plain
