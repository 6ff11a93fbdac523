-- `grammar::word_at` meets its contract. The invariant: `counter` words are passed, and those that are left stand from `at` on.
use Prim.Native.Nat.{◌-◌, ◌+◌, ◌<◌}
use mathlib.Core.Path.{◌≡◌, ◌∙◌, refl}
use native.Mathlib.Omega.{arith}
use borrow.Author.Rules.{rules}
use Rattle.grammar.proofs.Words.{pass_word, found_word}
use Rattle.grammar.proofs.word_at.Goals as goal

pub loop-preserved : goal.loop-preserved
loop-preserved c =
    let e : c.args.k - c.loop.counter - 1 ≡ c.args.k - (c.loop.counter + 1) = omega arith in
    let n : 0 < c.args.k - c.loop.counter = omega arith in
    (search rules, pass_word _ _ _ c.next_word-at.ensures _ _ c.loop.invariant.1 n ∙ rw e refl)

pub returns : goal.returns
returns c = search (rules, found_word)
