-- `header::size` meets its contract: fields of their sizes make a header of 32 bytes.
use mathlib.Core.Path.{sym, refl}
use Rattle.header.specs.Laws.Header.{length_header}
use Rattle.header.proofs.size.Goals as goal

pub returns : goal.returns
returns c = (sym (length_header _ _ c.told-flags c.told-uid), refl)
