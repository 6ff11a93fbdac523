-- `ledger::bin::put_words` meets its contract: a part of the RAM, and zeros.
use mathlib.Core.Path.{refl}
use Rattle.ledger.proofs.Bins.{words_put}
use Rattle.ledger.proofs.bin.put_words.Goals as goal

pub returns : goal.returns
returns c =
    words_put _ _ _ _ _ c.min-from.ensures c.min-end.ensures _ _ _ _ _ c.requires.0 refl c.put_each.ensures refl (c.fill.ensures.after (λ y e. e))
