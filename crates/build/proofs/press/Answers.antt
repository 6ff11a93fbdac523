-- `build::press` meets its contract: 20, 12, or the writer's image of what the layout lays with the label's block, which is the build's.
use Prim.Native.Nat.{ℕ}
use mathlib.Core.Path.{sym, ap, ◌∙◌}
use borrow.Author.Tests.{ltb-true, ltb-false}
use Rattle.std.proofs.lemmas.List.{length-replicate}
use Rattle.std.proofs.lemmas.Result.{err_from_is_err_and}
use Rattle.basics.specs.Refusals.{declined}
use Rattle.places.specs.Limits.{lent_limit}
use Rattle.build.specs.Laws.Press.{pressed_large, pressed_wrong, label_passes, pressed_fitting, answered_ok, answered_err}
use Rattle.build.proofs.press.Goals as goal

pub returns-then-is_large : goal.returns-then-is_large
returns-then-is_large c =
    pressed_large _ _ _ _ _ _ c.lay_out-d.ensures.0 (ltb-true _ _ (sym c.is_large.ensures ∙ c.if-is_large.true)) _ (c.into.ensures ∙ ap (λ r. declined r 0) c.refuse.ensures)

pub returns-then-is_wrong : goal.returns-then-is_wrong
returns-then-is_wrong c =
    pressed_wrong _ _ _ _ _ _ c.lay_out-d.ensures.0 (ltb-false _ _ (sym c.is_large.ensures ∙ c.if-is_large.false))
    _ c.is_wrong.ensures c.if-is_wrong.true _ (c.into-then-is_wrong.ensures ∙ ap (λ r. declined r 0) c.refuse-then-is_wrong.ensures)

pub write_labelled-requires : goal.write_labelled-requires
write_labelled-requires c = label_passes _ _ c.is_wrong.ensures c.if-is_wrong.false

pub returns : goal.returns
returns c =
    pressed_fitting _ _ _ _ _ c.requires _ _ c.lay_out-d.ensures (ltb-false _ _ (sym c.is_large.ensures ∙ c.if-is_large.false))
    _ c.is_wrong.ensures c.if-is_wrong.false _ c.uid_of.ensures _ c.write_labelled.ensures.1 _ (answered_ok _ _ _ _ c.in_ok-length.ensures.0 c.words_of.ensures)

pub returns-in_err-length : goal.returns-in_err-length
returns-in_err-length c =
    let p = err_from_is_err_and c.from_residual.result c.from_residual.ensures.1 in
    pressed_fitting _ _ _ _ _ c.requires _ _ c.lay_out-d.ensures (ltb-false _ _ (sym c.is_large.ensures ∙ c.if-is_large.false))
    _ c.is_wrong.ensures c.if-is_wrong.false _ c.uid_of.ensures _ c.write_labelled.ensures.1 _ (rw (p.1, p.2) (answered_err _ _ _ c.in_err-length.ensures.0))

pub slice_bounds-lay_out-end : goal.slice_bounds-lay_out-end
slice_bounds-lay_out-end c = sym (length-replicate {A = ℕ} lent_limit 0)

pub slice_bounds-write_labelled-end : goal.slice_bounds-write_labelled-end
slice_bounds-write_labelled-end c = sym (c.lay_out-d.auto.ram ∙ length-replicate {A = ℕ} lent_limit 0)
