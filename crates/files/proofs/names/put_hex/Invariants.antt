-- `names::put_hex` meets its contract. The loop's invariant: the first i bytes are put, two digits each.
use Rattle.files.proofs.Named.{Hexing}
use Rattle.files.proofs.names.put_hex.Given as goal

abbrev pub invariant-loop-i : goal.invariant-loop-i
invariant-loop-i l = Hexing l.tag l.initial.out l.out l.i
