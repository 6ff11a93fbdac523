-- Demand 2, proved.
use Rattle.std.specs.Prelude.{length}
use Rattle.cart.proofs.Theorems.Flash.{as_rows}
use Rattle.load.proofs.Theorems.Ram.{leaves}
use Rattle.trip.proofs.Theorems.RoundTrip.{written_loads}
use Rattle.demands.specs.Demand2.{Demand2}

pub demand_2 : Demand2
demand_2 =
    record {
      stores = leaves;
      round_trip =
          λ t m z e same right.
          written_loads t.out t.content z (rw m.answer at e) t.writing t.left m.answer m.leaves t.ram same
          (length t.flash) right t.loading t.stored m.loads.answer m.loads.leaves;
      rows = as_rows;
    }
