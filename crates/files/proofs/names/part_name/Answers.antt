-- `names::part_name` meets its contract: nothing where it does not fit, and else the name at the front.
use native.Mathlib.Omega.{arith}
use lib.ListN.{length-take, length-append, length-drop}
use borrow.Author.Rules.{rules}
use Rattle.files.proofs.Named.{counted}
use Rattle.files.proofs.Parts.{short_length, short_out, whole_length, whole_out}
use Rattle.files.proofs.names.part_name.Goals as goal

pub returns-then-out-k : goal.returns-then-out-k
returns-then-out-k c = record { length = short_length _ _ c.folder-k.ensures.0 _ (omega arith); name = short_out _ _ c.folder-k.ensures.0 _ _ (omega arith); front = search rules }

pub returns : goal.returns
returns c =
    let folder = c.folder-k in record {
      length = whole_length _ _ folder.ensures.0 _ (omega arith);
      name = whole_out _ _ folder.ensures.0 _ _ _ (omega arith) c.put_part.ensures;
      front = counted _ _ (simp (length-append, length-drop, c.put_part.auto.out, length-take) (omega arith));
    }
