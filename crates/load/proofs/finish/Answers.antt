-- `load::finish` meets its contract: refused by 10, 11 or 13, or stored and answered.
use mathlib.Core.Path.{sym, ◌∙◌}
use Rattle.std.proofs.lemmas.Result.{err_from_is_err_and}
use Rattle.load.proofs.Laws.{refused_so, loaded_so}
use Rattle.load.proofs.finish.Goals as goal

pub returns-in_err-refused : goal.returns-in_err-refused
returns-in_err-refused c =
    let p = err_from_is_err_and c.from_residual.result c.from_residual.ensures.1 in
    rw (p.1, p.2) (refused_so _ _ _ _ _ c.cartridge_at-cartridge.ensures _ c.lent_words.ensures.0 _ c.flags_of-flags.ensures _ (sym c.refused.ensures ∙ c.in_err-refused.was))

pub returns : goal.returns
returns c =
    loaded_so _ _ _ _ _ c.cartridge_at-cartridge.ensures _ c.lent_words.ensures.0 _ c.flags_of-flags.ensures _ (sym c.refused.ensures ∙ c.in_ok-refused.was) _ c.compat_of.ensures _
    c.lay_hunks.ensures
