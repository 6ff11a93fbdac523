-- `tables::size` meets its contract: tables of 256 entries each make a payload of 1,280 bytes.
use mathlib.Core.Path.{sym, refl}
use Rattle.tables.specs.Tables.{tables}
use Rattle.tables.specs.Laws.Tables.{length_tables}
use Rattle.tables.proofs.size.Goals as goal

pub returns : goal.returns
returns c = (sym (length_tables (tables _ _ _) c.told-mapping c.told-permissions c.told-flips), refl)
