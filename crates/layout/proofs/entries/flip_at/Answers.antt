-- `layout::entries::flip_at` meets its contract, by the rows of answering pages.
use Prim.Native.Nat.{◌≤◌}
use borrow.Author.Rules.{rules}
use Rattle.places.specs.Limits.{slots}
use Rattle.layout.proofs.Rows.{few_at, entry_some, entry_none}
use Rattle.layout.proofs.entries.flip_at.Goals as goal

pub overflow_mul-result : goal.overflow_mul-result
overflow_mul-result c = let f : c.in-Some.page ≤ slots = few_at _ _ _ c.requires.0 c.requires.1 _ c.in-Some.is in search rules

pub overflow_add-result : goal.overflow_add-result
overflow_add-result c = let f : c.in-Some.page ≤ slots = few_at _ _ _ c.requires.0 c.requires.1 _ c.in-Some.is in search rules

pub returns-in-Some : goal.returns-in-Some
returns-in-Some c = entry_some _ _ _ c.requires.0 c.requires.1 _ c.if-not-s-x.false c.in-Some.is

pub returns-in-None : goal.returns-in-None
returns-in-None c = entry_none _ _ _ c.requires.0 c.requires.1 c.if-not-s-x.false c.in-None.is
