-- `grammar::word_at` meets its contract. The invariant: `counter` words are passed, and those that are left stand from `at` on.
use Prim.Native.Nat.{◌≤◌, ◌-◌}
use mathlib.Core.Path.{◌≡◌}
use lib.ListN.{length, drop}
use Rattle.grammar.specs.Words.{words_of, word}
use Rattle.grammar.proofs.word_at.Given as goal

abbrev pub invariant-loop : goal.invariant-loop
invariant-loop l = (l.at ≤ length l.line) × (word (words_of l.line) l.k ≡ word (words_of (drop l.at l.line)) (l.k - l.counter))
