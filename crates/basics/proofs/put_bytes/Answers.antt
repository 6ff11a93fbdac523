-- `basics::put_bytes` meets its contract.
use borrow.Author.Rules.{rules}
use mathlib.Core.Path.{sym}
use Rattle.basics.specs.Laws.Puts.{put_short, put_room}
use Rattle.basics.proofs.put_bytes.Goals as goal

pub returns-then-out-bytes : goal.returns-then-out-bytes
returns-then-out-bytes c = search (rules, put_short)

pub returns : goal.returns
returns c = rw c.copy_from_slice.ensures.after (sym (put_room _ _ c.if-out-bytes.false))
