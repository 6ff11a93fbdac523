-- `tables::write` meets its contract: three tables in their parts.
use borrow.Author.Rules.{rules}
use Rattle.tables.proofs.Laws.{no_room, tables_written}
use Rattle.tables.proofs.write.Goals as goal

pub returns-then-out-lt-TABLES_SIZE : goal.returns-then-out-lt-TABLES_SIZE
returns-then-out-lt-TABLES_SIZE c = search (rules, no_room)

pub returns : goal.returns
returns c = search (rules, tables_written)
