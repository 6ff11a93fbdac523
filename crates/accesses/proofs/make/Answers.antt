-- `accesses::make` meets its contract: a law for each of what a line may say.
use borrow.Author.Rules.{rules}
use Rattle.accesses.proofs.Steps.{read_done, write_done, reset_done}
use Rattle.accesses.proofs.make.Goals as goal

pub returns-in-Read : goal.returns-in-Read
returns-in-Read c =
    read_done _ _ _ _ _ _ _ _ _ c.args.access _ _ _ (search rules) c.read_by.ensures c.heard.ensures

pub returns-in-Write : goal.returns-in-Write
returns-in-Write c =
    let w = c.write_by.ensures in
    write_done _ _ _ _ _ _ _ _ _ c.args.access _ _ _ _ _ _ _ _ (search rules) w.1 w.2 w.3 w.4 w.5 c.latched.ensures

pub returns-in-Reset : goal.returns-in-Reset
returns-in-Reset c =
    reset_done _ _ _ _ _ _ _ _ _ c.args.access _ _ (search rules) c.requires c.reset.ensures
