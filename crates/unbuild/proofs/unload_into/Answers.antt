-- `unbuild::unload_into` meets its contract: the load into zeros refuses, or the image is plain.
use borrow.Author.Rules.{rules}
use Rattle.unbuild.proofs.Loads.{load_answers, load_plain, load_refuses, cartridge_is, zeros_loaded}
use Rattle.unbuild.proofs.unload_into.Goals as goal

pub returns-in-Err : goal.returns-in-Err
returns-in-Err c = load_refuses _ _ c.requires.0 c.requires.1 _ c.load_into.ensures.0 _ c.in-Err.is _ _ _ c.refuse.ensures

pub unbuild_loaded-requires : goal.unbuild_loaded-requires
unbuild_loaded-requires c = (
  load_plain _ _ c.requires.0 c.requires.1 _ c.load_into.ensures.0 _ c.in-Ok.is,
  cartridge_is _ _ c.requires.0 c.requires.1 _ c.load_into.ensures.0 _ c.in-Ok.is,
  search (rules, zeros_loaded),
  search rules,
)

pub returns-in-Ok : goal.returns-in-Ok
returns-in-Ok c = load_answers _ _ c.requires.0 c.requires.1 _ c.load_into.ensures.0 _ c.in-Ok.is _ _ _ _ _ c.unbuild_loaded.ensures
