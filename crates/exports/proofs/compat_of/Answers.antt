-- `exports::compat_of` meets its contract: the fields, and the number of the last.
use Prim.Native.Nat.{ℕ}
use mathlib.Core.Path.{◌≡◌}
use mathlib.Core.List.{◌∷◌, []}
use borrow.Author.Rules.{rules}
use Rattle.header.specs.declared.Compat.{Compat}
use Rattle.header.specs.Flags.{number_of}
use Rattle.exports.specs.Loads.{fields_of}
use Rattle.exports.proofs.compat_of.Goals as goal

numbered : (c : Compat) (t : ℕ) → t ≡ number_of c.tutorvision → c.intellivoice ∷ c.ecs ∷ c.intellivision2 ∷ c.keyboard ∷ t ∷ [] ≡ fields_of c
numbered c t e = rw e

pub returns : goal.returns
returns c = search (rules, numbered)
