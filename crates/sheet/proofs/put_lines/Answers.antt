-- `sheet::put_lines` meets its contract. The loop's invariant: the lines so far are put.
use mathlib.Core.Path.{◌∙◌, refl}
use native.Mathlib.Omega.{arith}
use borrow.Author.Rules.{rules}
use Rattle.sheet.specs.Laws.Sheets.{text_few}
use Rattle.sheet.proofs.Loops.{lining_few, lining_fits, lining_length, lining_more, lining_none, lining_put, lining_room}
use Rattle.sheet.proofs.put_lines.Goals as goal

pub loop-l-init : goal.loop-l-init
loop-l-init c = search (rules, lining_none)

pub overflow_add-end : goal.overflow_add-end
overflow_add-end c = omega (arith, text_few _ _ c.text_of-text.ensures)

pub slice_bounds-copy_from_slice-end : goal.slice_bounds-copy_from_slice-end
slice_bounds-copy_from_slice-end c = search (rules, lining_room)

pub copy_from_slice-requires : goal.copy_from_slice-requires
copy_from_slice-requires c = lining_fits _ _ _ _ _ c.loop-l.invariant c.loop-l-test.true _ c.text_of-text.ensures _ c.as_bytes.ensures

pub loop-l-preserved : goal.loop-l-preserved
loop-l-preserved c =
    lining_more _ _ _ _ _ c.loop-l.invariant c.loop-l-test.true _ c.text_of-text.ensures _ (c.copy_from_slice.ensures.after ∙ c.as_bytes.ensures) _ _ refl refl

pub returns-clause-length : goal.returns-clause-length
returns-clause-length c = search (rules, lining_length, lining_few)

pub returns-clause-bytes : goal.returns-clause-bytes
returns-clause-bytes c = search (rules, lining_put)
