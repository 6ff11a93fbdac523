-- The fewest bytes, proved.
use Rattle.std.specs.Prelude.{length}
use Rattle.trip.proofs.Theorems.Smallest.{written_smallest}
use Rattle.demands.specs.Smallest.{Smallest}
use Rattle.demands.specs.Laws.Pressed.{pressed_smallest}

pub fewest_bytes : Smallest
fewest_bytes =
    record {
      written =
          λ t m z e same right other r.
          written_smallest t.out t.content z (rw m.answer at e) t.writing t.left m.answer m.leaves t.ram same
          (length t.flash) right other r;
      built = λ p q. pressed_smallest p q.pressed q.accepted q.enough;
    }
