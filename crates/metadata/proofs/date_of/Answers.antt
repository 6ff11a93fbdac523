-- `metadata::date_of` meets its contract: field by field.
use Rattle.metadata.specs.Dates.{date_of}
use Rattle.metadata.proofs.Laws.{hours_signed}
use Rattle.metadata.proofs.date_of.Goals as goal

pub returns : goal.returns
unfolding date_of
returns c = let h = hours_signed c.byte_at-7.result c.cast_signed.result c.byte_at-7.type_inv c.cast_signed.ensures in cc
