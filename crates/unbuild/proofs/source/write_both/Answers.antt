-- `unbuild::source::write_both` meets its contract: one buffer is too short, or both are written.
use mathlib.Core.Path.{◌∙◌, ◌≡◌, ap, sym}
use borrow.Author.Rules.{rules}
use lib.ListN.{length}
use Rattle.places.specs.Limits.{line_limit}
use Rattle.sheet.specs.Code.Sheets.{sheet_of}
use Rattle.unbuild.specs.Code.Answers.{cfgIn}
use Rattle.unbuild.proofs.Sources.{both_short, both_written, text_is}
use Rattle.unbuild.proofs.source.write_both.Goals as goal

pub returns-then-either : goal.returns-then-either
returns-then-either c =
    let n : length c.args.l.lines ≡ line_limit = search rules in
    let e : c.sheet_of-text.result ≡ sheet_of (cfgIn c.args.l) = text_is c.args.l _ _ n c.as_slice.ensures c.sheet_of-text.ensures in
    search (rules, both_short)

pub returns : goal.returns
returns c =
    let n : length c.args.l.lines ≡ line_limit = search rules in
    let e : c.sheet_of-text.result ≡ sheet_of (cfgIn c.args.l) = text_is c.args.l _ _ n c.as_slice.ensures c.sheet_of-text.ensures in
    search (rules, both_written)
