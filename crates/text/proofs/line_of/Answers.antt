-- `text::line_of` meets its contract: the LFs among the first bytes are those before the place.
use Prim.Native.Nat.{ℕ, ◌+◌, min}
use mathlib.Core.Path.{◌≡◌, refl, ap, ◌∙◌}
use borrow.Author.Rules.{rules}
use lib.Dec.{eqb}
use lib.ListN.{take, length}
use Rattle.std.specs.List.{count_by}
use Rattle.basics.specs.Laws.Lists.{take_min}
use Rattle.text.specs.Bytes.{lf}
use Rattle.text.proofs.Tests.{count_front}
use Rattle.text.proofs.line_of.Goals as goal

pub returns : goal.returns
returns c =
    let e : c.count.result ≡ count_by (λ b. eqb b lf) (take (min c.args.at (length c.args.text.now)) c.args.text.now) = search rules in
    ap (λ (n : ℕ). 1 + n) (e ∙ ap (count_by (λ b. eqb b lf)) (take_min _ c.args.at c.args.text.now refl) ∙ count_front (λ b. eqb b lf) refl c.args.text.now c.args.at)
