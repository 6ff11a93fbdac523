-- `lookup::is_twice` meets its contract: by the second text.
use Rattle.std.proofs.Common.{rules}
use Rattle.lookup.proofs.Laws.{twice_second}
use Rattle.lookup.proofs.is_twice.Goals as goal

pub returns-then-is_single : goal.returns-then-is_single
returns-then-is_single c = search (rules, twice_second)
