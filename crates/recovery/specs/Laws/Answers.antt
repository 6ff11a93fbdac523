-- What the code answers of a salvage tells all that it comes to.
use Rattle.std.specs.Prelude.{ℕ, List, ◌≡◌, refl, length, ltb}
use Rattle.basics.specs.Refusals.{passes}
use Rattle.basics.specs.Laws.Tests.{cases}
use Rattle.recovery.specs.Salvage.{Stopped, Nowhere, At, stop_answer, stopped_from, stopped_of, salvage_of, image_refusal, salvage_answer, salvaging_from, fitted, salvaging_of}

stop_back : (w : Stopped) → stopped_from (stop_answer w) ≡ w
stop_back Nowhere = refl
stop_back (At p) = refl

fitted_back : (room : ℕ) (s : List ℕ) → salvaging_from (salvage_answer (fitted room s)) ≡ fitted room s
unfolding fitted
fitted_back room s = cases (ltb room (length (salvage_of s))) (λ e. rw e) (λ e. rw e (rw (stop_back (stopped_of s))))

pub salvaging_back : (out s : List ℕ) → salvaging_from (salvage_answer (salvaging_of out s)) ≡ salvaging_of out s
unfolding salvaging_of
salvaging_back out s = cases (passes (image_refusal s)) (λ p. rw p (fitted_back (length out) s)) (λ p. rw (p, p))
