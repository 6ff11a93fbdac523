-- `hunk::choice::largest_of` meets its contract: each step of the fold takes the larger of two.
use Prim.Native.Nat.{max}
use Rattle.std.proofs.Common.{rules, take}
use Rattle.std.proofs.lemmas.Iterator.Consumers.{fold_from_yields_List}
use Rattle.std.proofs.lemmas.Iterator.{YieldsList-from_slice}
use Rattle.hunk.proofs.Chosen.{largest_folded}
use Rattle.hunk.proofs.choice.largest_of.Goals as goal

pub returns : goal.returns
returns c =
    largest_folded c.args.n c.args.words.now _ c.requires
    (fold_from_yields_List _ max 0 _ c.fold.ensures.ran (YieldsList-from_slice (take c.args.n c.args.words.now) (search rules)) (λ a x b q k. search rules))
