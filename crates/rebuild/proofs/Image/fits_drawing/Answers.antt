-- `rebuild::Image::fits_drawing` meets its contract: the tests that the code joins one after the other are those of `drawing_fits`.
use Rattle.std.proofs.Common.{rules, ◌*◌, ◌≡◌, ◌∙◌, leb, arith}
use Rattle.std.specs.Prelude.{◌&&◌}
use borrow.Author.Tests.{le-leb, lt-leb}
use Rattle.places.specs.Limits.{flip_entries, lent_limit, page_size, paragraphs}
use Rattle.rebuild.specs.Fits.{agree}
use Rattle.rebuild.specs.Code.Retraced.{drawing_fits}
use Rattle.rebuild.proofs.Tables.{same_agree, joined_yes, joined_no, drawn_yes, drawn_no}
use Rattle.rebuild.proofs.Image.fits_drawing.Goals.{then-from-le-LENT_LIMIT, else-from-le-LENT_LIMIT, then-eq, else-eq, then-eq-2, else-eq-2}
use Rattle.rebuild.proofs.Image.fits_drawing.Goals as goal

pub returns-then-eq-3 : goal.returns-then-eq-3
unfolding drawing_fits
returns-then-eq-3 c =
    let d = c.args.d.now in
    let i = c.args.self.now in
    let l = leb (page_size * d.pages) lent_limit in
    let ev : c.if-from-le-LENT_LIMIT.value ≡ (l && agree paragraphs d.mapping i.mapping.now) =
    elim c.if-from-le-LENT_LIMIT.branch [
      | then-from-le-LENT_LIMIT w ↦ joined_yes _ _ _ _ (le-leb _ _ (omega arith)) w.value-is (w.eq.ensures ∙ same_agree 256 _ _ (search rules) (search rules))
      | else-from-le-LENT_LIMIT w ↦
          joined_no _ _ _ (lt-leb (page_size * d.pages) lent_limit (omega arith))
          (w.value-is ∙ lt-leb (page_size * c.from.result) lent_limit (omega arith))
    ] in
    let ew : c.if-eq.value ≡ (c.if-from-le-LENT_LIMIT.value && agree paragraphs d.permissions i.permissions.now) =
    elim c.if-eq.branch [
      | then-eq w ↦ joined_yes _ _ _ _ w.if-eq.true w.value-is (w.eq-then-eq.ensures ∙ same_agree 256 _ _ (search rules) (search rules))
      | else-eq w ↦ joined_no _ _ _ w.if-eq.false (w.value-is ∙ w.if-eq.false)
    ] in
    let ex : c.if-eq-2.value ≡ (c.if-eq.value && agree flip_entries d.flips i.flips.now) =
    elim c.if-eq-2.branch [
      | then-eq-2 w ↦ joined_yes _ _ _ _ w.if-eq-2.true w.value-is (w.eq-then-eq-2.ensures ∙ same_agree 256 _ _ (search rules) (search rules))
      | else-eq-2 w ↦ joined_no _ _ _ w.if-eq-2.false (w.value-is ∙ w.if-eq-2.false)
    ] in
    drawn_yes _ _ _ _ _ _ _ _ ev ew ex _ c.if-eq-3.true c.names_fit.ensures

pub returns-else-eq-3 : goal.returns-else-eq-3
unfolding drawing_fits
returns-else-eq-3 c =
    let d = c.args.d.now in
    let i = c.args.self.now in
    let l = leb (page_size * d.pages) lent_limit in
    let ev : c.if-from-le-LENT_LIMIT.value ≡ (l && agree paragraphs d.mapping i.mapping.now) =
    elim c.if-from-le-LENT_LIMIT.branch [
      | then-from-le-LENT_LIMIT w ↦ joined_yes _ _ _ _ (le-leb _ _ (omega arith)) w.value-is (w.eq.ensures ∙ same_agree 256 _ _ (search rules) (search rules))
      | else-from-le-LENT_LIMIT w ↦
          joined_no _ _ _ (lt-leb (page_size * d.pages) lent_limit (omega arith))
          (w.value-is ∙ lt-leb (page_size * c.from.result) lent_limit (omega arith))
    ] in
    let ew : c.if-eq.value ≡ (c.if-from-le-LENT_LIMIT.value && agree paragraphs d.permissions i.permissions.now) =
    elim c.if-eq.branch [
      | then-eq w ↦ joined_yes _ _ _ _ w.if-eq.true w.value-is (w.eq-then-eq.ensures ∙ same_agree 256 _ _ (search rules) (search rules))
      | else-eq w ↦ joined_no _ _ _ w.if-eq.false (w.value-is ∙ w.if-eq.false)
    ] in
    let ex : c.if-eq-2.value ≡ (c.if-eq.value && agree flip_entries d.flips i.flips.now) =
    elim c.if-eq-2.branch [
      | then-eq-2 w ↦ joined_yes _ _ _ _ w.if-eq-2.true w.value-is (w.eq-then-eq-2.ensures ∙ same_agree 256 _ _ (search rules) (search rules))
      | else-eq-2 w ↦ joined_no _ _ _ w.if-eq-2.false (w.value-is ∙ w.if-eq-2.false)
    ] in
    drawn_no _ _ _ _ _ _ _ _ ev ew ex c.if-eq-3.false
