-- `rebuild::Image::fits_listing` meets its contract: the tests that the code joins one after the other are those of `listing_fits`.
use Rattle.std.proofs.Common.{◌≡◌, ◌∙◌, sym, leb, arith}
use Rattle.std.specs.Prelude.{◌&&◌, take}
use Rattle.std.proofs.lemmas.Bool.Decides.{nat_tests}
use borrow.Author.Tests.{leb-true}
use Rattle.basics.specs.Laws.Tests.{and_right}
use Rattle.places.specs.Limits.{line_limit}
use Rattle.tables.specs.Tables.{tables}
use Rattle.layout.specs.Drawing.{drawing_of}
use Rattle.retrace.specs.Code.Named.{word_named}
use Rattle.ledger.specs.Held.{sketched, words_in}
use Rattle.rebuild.specs.Fits.{ram_fits}
use Rattle.rebuild.specs.Code.Retraced.{drawing_fits, listing_fits}
use Rattle.rebuild.proofs.Tables.{joined_yes, joined_no, listed_yes, listed_no, few_lines}
use Rattle.rebuild.proofs.Image.fits_listing.Goals.{then-contains, else-contains}
use Rattle.rebuild.proofs.Image.fits_listing.Goals as goal

pub returns-then-fits_drawing : goal.returns-then-fits_drawing
unfolding listing_fits
returns-then-fits_drawing c =
    let l = c.args.l.now in
    let i = c.args.self.now in
    let few = leb 1 l.count && leb l.count line_limit in
    let drawn = drawing_fits (drawing_of (take l.count l.lines)) (tables i.mapping.now i.permissions.now i.flips.now) (word_named i.zeros.now i.ones.now) in
    let eq : c.contains.result ≡ few = grind (arith, nat_tests) in
    let ev : c.if-contains.value ≡ (few && drawn) =
    elim c.if-contains.branch [
      | then-contains w ↦
          joined_yes _ _ _ _ (sym eq ∙ w.if-contains.true) w.value-is
          (w.fits_drawing.ensures
          ∙ rw (w.draw.ensures, few_lines l.count l.lines (leb-true _ _ (and_right (leb 1 l.count) (leb l.count line_limit) (sym eq ∙ w.if-contains.true)))))
      | else-contains w ↦ joined_no _ _ _ (sym eq ∙ w.if-contains.false) (w.value-is ∙ w.if-contains.false)
    ] in
    listed_yes _ _ _ _ ev _ c.if-fits_drawing.true c.ram_fits.ensures

pub returns-else-fits_drawing : goal.returns-else-fits_drawing
unfolding listing_fits
returns-else-fits_drawing c =
    let l = c.args.l.now in
    let i = c.args.self.now in
    let few = leb 1 l.count && leb l.count line_limit in
    let drawn = drawing_fits (drawing_of (take l.count l.lines)) (tables i.mapping.now i.permissions.now i.flips.now) (word_named i.zeros.now i.ones.now) in
    let eq : c.contains.result ≡ few = grind (arith, nat_tests) in
    let ev : c.if-contains.value ≡ (few && drawn) =
    elim c.if-contains.branch [
      | then-contains w ↦
          joined_yes _ _ _ _ (sym eq ∙ w.if-contains.true) w.value-is
          (w.fits_drawing.ensures
          ∙ rw (w.draw.ensures, few_lines l.count l.lines (leb-true _ _ (and_right (leb 1 l.count) (leb l.count line_limit) (sym eq ∙ w.if-contains.true)))))
      | else-contains w ↦ joined_no _ _ _ (sym eq ∙ w.if-contains.false) (w.value-is ∙ w.if-contains.false)
    ] in
    listed_no few drawn (ram_fits (sketched c.args.s.now) (words_in i.zeros.now)) _ ev c.if-fits_drawing.false
