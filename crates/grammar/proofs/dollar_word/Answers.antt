-- `grammar::dollar_word` meets its contract: a law for each way out.
use Rattle.std.proofs.lemmas.Option.{MatchOption-at_none}
use Rattle.grammar.proofs.Numbers.{dollar_none, dollar_digits, dollar_sign, dollar_short, dollar_long}
use Rattle.grammar.proofs.dollar_word.Goals as goal
use Rattle.grammar.proofs.dollar_word.Goals.{then-first-ne36-via-then-first-ne36, then-first-ne36-via-else-first-ne36+then-long-eq0, then-first-ne36-via-else-first-ne36+else-long-eq0+then-most-long}

pub returns-in_err-first : goal.returns-in_err-first
returns-in_err-first c = dollar_none _ _ _ (MatchOption-at_none _ _ c.in_err-first.was c.split_first.ensures.cases) c.from_residual.ensures

pub returns-then-first-ne36 : goal.returns-then-first-ne36
returns-then-first-ne36 c =
    elim c.then-first-ne36.branch [
      | then-first-ne36-via-then-first-ne36 w ↦ dollar_sign _ _ _ _ c.in_ok-first.ensures.cases.0 w.if-first-ne36.true
      | then-first-ne36-via-else-first-ne36+then-long-eq0 w ↦ dollar_short _ _ _ _ c.in_ok-first.ensures.cases.0 w.if-long-eq0.true
      | then-first-ne36-via-else-first-ne36+else-long-eq0+then-most-long w ↦ dollar_long _ _ _ _ c.in_ok-first.ensures.cases.0 w.if-most-long.true
    ]

pub returns : goal.returns
returns c = dollar_digits _ _ _ _ c.in_ok-first.ensures.cases.0 _ c.hex.ensures c.if-first-ne36.false c.if-long-eq0.false c.if-most-long.false
