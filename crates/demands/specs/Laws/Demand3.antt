-- Demand 3, proved.
use Rattle.demands.specs.Demand3.{Demand3}
use Rattle.demands.specs.Laws.Pressed.{pressed_loads, pressed_plays}

pub demand_3 : Demand3
demand_3 =
    record {
      loads = λ p q. pressed_loads p q.pressed q.accepted q.enough;
      plays = λ p q. pressed_plays p q.pressed q.accepted q.enough;
    }
