-- `hunk::stores::store_words` meets its contract. The loop's invariant: i of the n words are laid.
use mathlib.Core.Path.{◌≡◌}
use lib.ListN.{length}
use Rattle.basics.specs.Lists.{laid}
use Rattle.hunk.specs.Forms.{word_for}
use Rattle.hunk.specs.declared.Form.TheVariants.{Words}
use Rattle.hunk.proofs.stores.store_words.Given as goal

abbrev pub invariant-loop-i : goal.invariant-loop-i
invariant-loop-i l = (length l.ram ≡ length l.initial.ram) × (l.ram ≡ laid l.a l.i (word_for Words l.s l.p l.n) l.initial.ram)
