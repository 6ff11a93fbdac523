-- `exports::fresh` meets its contract: the accelerators are those of the words.
use Prim.Native.Nat.{ℕ}
use mathlib.Core.List.{List}
use mathlib.Core.Path.{◌≡◌, ap, ◌∙◌}
use borrow.Author.Rules.{rules}
use Rattle.jlp.specs.declared.Jlp.{Jlp}
use Rattle.cart.specs.declared.Cartridge.{Cartridge}
use Rattle.cart.specs.Cartridges.{fresh}
use Rattle.exports.proofs.fresh.Goals as goal

made_of : (j k : Jlp) (c : Cartridge) (m p f : List ℕ) → j ≡ k → c ≡ fresh j m p f → c ≡ fresh k m p f
made_of j k c m p f e g = g ∙ ap (λ (i : Jlp). fresh i m p f) e

pub returns : goal.returns
returns c = search (rules, made_of)
