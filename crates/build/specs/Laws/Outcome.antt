-- A build's answer is told by what the code answers: nothing of it is lost.
use Rattle.std.specs.Prelude.{ℕ, List, ◌≡◌}
use Rattle.basics.specs.Laws.Tests.{cases}
use Rattle.build.specs.Building.{builds, building_of, building_from, outcome_of}

pub building_back : (bin cfg label out : List ℕ) → building_from (outcome_of (building_of bin cfg label out)) ≡ building_of bin cfg label out
unfolding building_of
building_back bin cfg label out = cases (builds bin cfg label out) (λ e. rw e) (λ e. rw (e, e))
