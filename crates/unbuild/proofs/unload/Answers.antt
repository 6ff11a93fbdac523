-- `unbuild::unload` meets its contract: its two RAMs are zeros and ones.
use Prim.Native.Nat.{ℕ}
use mathlib.Core.Path.{sym}
use borrow.Author.Rules.{rules}
use Rattle.std.proofs.lemmas.List.{length-replicate}
use Rattle.places.specs.Limits.{lent_limit}
use Rattle.unbuild.proofs.Loads.{whole_zeros, whole_ones_lem}
use Rattle.unbuild.proofs.unload.Goals as goal

pub unload_into-requires : goal.unload_into-requires
unload_into-requires c = search (rules, whole_zeros, whole_ones_lem)

pub slice_bounds-unload_into-end : goal.slice_bounds-unload_into-end
slice_bounds-unload_into-end c = sym (length-replicate {A = ℕ} lent_limit 0)

pub slice_bounds-unload_into-end-2 : goal.slice_bounds-unload_into-end-2
slice_bounds-unload_into-end-2 c = sym (length-replicate {A = ℕ} lent_limit 0xFFFF)
