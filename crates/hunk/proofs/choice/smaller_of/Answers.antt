-- `hunk::choice::smaller_of` meets its contract: its tests are the definition's.
use Rattle.std.proofs.Common.{rules}
use Rattle.hunk.proofs.Chosen.{takes_first, takes_shorter, takes_other}
use Rattle.hunk.proofs.choice.smaller_of.Goals as goal
use Rattle.hunk.proofs.choice.smaller_of.Goals.{else-can_carry-via-then-can_carry+else-no_longer, else-can_carry-via-else-can_carry}

pub returns-then-no_longer : goal.returns-then-no_longer
returns-then-no_longer c = let h = c.if-no_longer.either in search (rules, takes_first)

pub returns-else-can_carry : goal.returns-else-can_carry
returns-else-can_carry c =
    elim c.else-can_carry.branch [
      | else-can_carry-via-then-can_carry+else-no_longer w ↦ let h = w.if-no_longer.false in search (rules, takes_shorter)
      | else-can_carry-via-else-can_carry w ↦ search (rules, takes_other)
    ]
