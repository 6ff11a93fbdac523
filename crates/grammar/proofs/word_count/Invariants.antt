-- `grammar::word_count` meets its contract. The invariant: n words are passed, and those from `at` on are left.
use Prim.Native.Nat.{◌≤◌, ◌+◌, ◌-◌}
use mathlib.Core.Path.{◌≡◌}
use lib.ListN.{length, drop}
use Rattle.grammar.specs.Words.{words_of}
use Rattle.grammar.proofs.word_count.Given as goal

abbrev pub invariant-loop-at : goal.invariant-loop-at
invariant-loop-at l = (l.at ≤ length l.line) × (l.n ≤ l.at) × (length (words_of l.line) ≡ l.n + length (words_of (drop l.at l.line)))

abbrev pub decreases-loop-at : goal.decreases-loop-at
decreases-loop-at l = length l.line - l.at
