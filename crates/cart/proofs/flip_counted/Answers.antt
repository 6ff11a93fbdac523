-- `cart::flip_counted` meets its contract: counted before the flip, and by its entry.
use Rattle.std.proofs.Common.{◌<◌, rules}
use Rattle.places.specs.Limits.{flip_entries}
use Rattle.switches.specs.Flips.{active}
use Rattle.cart.proofs.Laws.{flip_recounts}
use Rattle.cart.proofs.flip_counted.Goals as goal

pub returns : goal.returns
returns c =
    let small : c.args.n < flip_entries = search (rules, c.ranges) in (
      c.flip.ensures.0,
      flip_recounts (active c.args.mapping.now c.args.permissions.now) c.args.flips.now _ _ _ _ _
          c.readable_by-before.ensures.1 small c.readable_by-before.ensures.0 c.readable_after-after.ensures c.recount.ensures,
      c.flip.ensures.1,
      c.flip.ensures.2,
    )
