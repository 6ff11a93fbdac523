-- Any two answers that the promise of a public function allows are equal (01, What the promises rule out).
use Rattle.std.specs.Prelude.{Result}
use mathlib.Core.Path.{ap, sym, ◌∙◌}
use Rattle.basics.specs.Same.{OneAnswer, OneLent}
use Rattle.basics.specs.declared.Declined.{Declined}
use Rattle.basics.specs.declared.Refusal.{Refusal}
use Rattle.build.specs.declared.Built.{Built}
use Rattle.load.specs.declared.Loaded.{Loaded}
use Rattle.load.specs.Load.{load_answer}
use Rattle.demands.specs.Laws.Tied.{one_left, one_loading, one_stored}
use Rattle.demands.proofs.press_and_load.Reads as press-and-load

pub one_press : OneAnswer press-and-load.Learnt
one_press κs a y z e f p q =
    ap (λ (b : Result Built Declined). record { building = b; loading = y.loading }) (p.0 ∙ sym q.0)
    ∙ ap (λ (l : Result Loaded Refusal). record { building = z.building; loading = l })
    (p.1.1 ∙ ap load_answer (one_loading _ _ _ _ _ _ _ _ _ _ _ _ _ _ p.1.0 q.1.0) ∙ sym q.1.1)

pub one_press_out : OneLent press-and-load.Learnt (λ κs e. e.1.1.1.0.now)
one_press_out κs a y z e f p q = one_left _ _ _ _ _ _ _ _ _ _ _ _ _ _ p.1.0 q.1.0

pub one_press_ram : OneLent press-and-load.Learnt (λ κs e. e.1.1.1.1.0.now)
one_press_ram κs a y z e f p q = one_stored _ _ _ _ _ _ _ _ _ _ _ _ _ _ p.1.0 q.1.0
