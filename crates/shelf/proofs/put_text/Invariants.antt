-- `shelf::put_text` meets its contract. The loop's invariant: the first i bytes are shown by the first k of the buffer.
use Rattle.shelf.proofs.Laws.{Putting}
use Rattle.shelf.proofs.put_text.Given as goal

abbrev pub invariant-loop-b : goal.invariant-loop-b
invariant-loop-b l = Putting l.text l.initial.out l.out l.k l.b-index
