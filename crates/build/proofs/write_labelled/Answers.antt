-- `build::write_labelled` meets its contract: without a label as it is written, with one behind room for its block, which is then put.
use mathlib.Core.Path.{◌≡◌, refl, sym, ◌∙◌, ap}
use lib.ListN.{length}
use borrow.Author.Tests.{eqb-true, eqb-false}
use Rattle.basics.specs.Laws.Outcomes.{ok_at_none, err_at_some}
use Rattle.save.specs.Writing.{save_answer}
use Rattle.build.specs.Laws.Label.{labelled_none, labelled_ok, labelled_err, ok_fits, err_fits, labelled_kept, labelled_put}
use Rattle.build.proofs.write_labelled.Goals as goal

pub returns-then-is_empty : goal.returns-then-is_empty
returns-then-is_empty c =
    let e : length c.args.label.now ≡ 0 = eqb-true _ _ (sym c.is_empty.ensures ∙ c.if-is_empty.true) in
    let p = labelled_none c.args.label.now c.args.out.now _ _ _ e (refl, c.write_drawing.ensures.1) in
    (c.write_drawing.ensures.0 ∙ ap save_answer p.0, p.1)

pub overflow_add-result : goal.overflow_add-result
overflow_add-result c =
    let n : length c.args.label.now ≡ 0 → ⊥ = eqb-false _ _ (sym c.is_empty.ensures ∙ c.if-is_empty.false) in
    ok_fits c.args.label.now c.args.out.now _ n _ c.min-a.ensures _ _ (refl, c.write_drawing-2.ensures.1) _ c.in-Ok.ensures.0 c.requires

pub overflow_add-result-in-Err : goal.overflow_add-result-in-Err
overflow_add-result-in-Err c =
    let n : length c.args.label.now ≡ 0 → ⊥ = eqb-false _ _ (sym c.is_empty.ensures ∙ c.if-is_empty.false) in
    err_fits c.args.label.now c.args.out.now _ n _ c.min-a.ensures _ _ (refl, c.write_drawing-2.ensures.1) _ c.in-Err.ensures.0 c.requires

pub returns-in-Ok : goal.returns-in-Ok
returns-in-Ok c =
    let n : length c.args.label.now ≡ 0 → ⊥ = eqb-false _ _ (sym c.is_empty.ensures ∙ c.if-is_empty.false) in (
      labelled_ok c.args.label.now c.args.out.now _ n _ c.min-a.ensures _ _ (refl, c.write_drawing-2.ensures.1) _ c.in-Ok.ensures.0,
      labelled_put c.args.label.now c.args.out.now _ n _ c.min-a.ensures _ _ (refl, c.write_drawing-2.ensures.1) (ok_at_none _ _ _ _ (sym c.in-Ok.ensures.0)) _ c.put_label.ensures,
    )

pub returns-in-Err : goal.returns-in-Err
returns-in-Err c =
    let n : length c.args.label.now ≡ 0 → ⊥ = eqb-false _ _ (sym c.is_empty.ensures ∙ c.if-is_empty.false) in (
      labelled_err c.args.label.now c.args.out.now _ n _ c.min-a.ensures _ _ (refl, c.write_drawing-2.ensures.1) _ c.in-Err.ensures.0,
      labelled_kept c.args.label.now c.args.out.now _ n _ c.min-a.ensures _ _ (refl, c.write_drawing-2.ensures.1) (err_at_some _ _ _ _ (sym c.in-Err.ensures.0)),
    )
