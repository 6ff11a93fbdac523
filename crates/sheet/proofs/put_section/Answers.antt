-- `sheet::put_section` meets its contract: nothing, or its name and then its lines.
use mathlib.Core.Path.{◌∙◌, ◌≡◌, sym}
use native.Mathlib.Omega.{arith}
use lib.ListN.{length}
use borrow.Author.Rules.{rules}
use borrow.Author.Tests.{eqb-false, eqb-true}
use Rattle.sheet.proofs.Loops.{section_none, section_kept, section_length, section_put}
use Rattle.sheet.proofs.put_section.Goals as goal

pub returns-then-is_empty-clause-length : goal.returns-then-is_empty-clause-length
returns-then-is_empty-clause-length c =
    let z : length c.args.lines.now ≡ 0 = eqb-true _ _ (sym c.is_empty.ensures ∙ c.if-is_empty.true) in
    (section_none _ _ z, omega arith)

pub returns-then-is_empty-clause-bytes : goal.returns-then-is_empty-clause-bytes
returns-then-is_empty-clause-bytes c = section_kept _ _ _ (eqb-true _ _ (sym c.is_empty.ensures ∙ c.if-is_empty.true))

pub returns-clause-length : goal.returns-clause-length
returns-clause-length c =
    let z : length c.args.lines.now ≡ 0 → ⊥ = eqb-false _ _ (sym c.is_empty.ensures ∙ c.if-is_empty.false) in
    search (rules, section_length)

pub returns-clause-bytes : goal.returns-clause-bytes
returns-clause-bytes c =
    let z : length c.args.lines.now ≡ 0 → ⊥ = eqb-false _ _ (sym c.is_empty.ensures ∙ c.if-is_empty.false) in
    search (rules, section_put)
