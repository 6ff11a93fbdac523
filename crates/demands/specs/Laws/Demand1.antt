-- Demand 1, proved: each crate's "exactly when", of what its public function answers.
use Rattle.std.specs.Prelude.{ℕ, List, ◌≡◌, ◌↔◌}
use Rattle.std.proofs.Common.{sym, ◌∙◌}
use Rattle.basics.specs.declared.Refusal.{Refusal}
use Rattle.basics.specs.Rows.{Gives, Silent}
use Rattle.basics.specs.Refusals.{passes}
use Rattle.basics.specs.Laws.Refusals.{refused_exactly, accepted_exactly}
use Rattle.basics.specs.Laws.Tests.{cases}
use Rattle.places.specs.Limits.{lent}
use Rattle.load.specs.Load.{loads, loading_of, refused as loadRefused}
use Rattle.load.specs.Laws.Refusals as Load
use Rattle.cfg.specs.File.{reading_of, refusal_of, refusal_rows as cfgRows, refused as cfgRefused}
use Rattle.cfg.specs.Laws.Refusals as Cfg
use Rattle.lines.specs.declared.Line.{Line}
use Rattle.rules.specs.Rules.{refusal_rows as ruleRows, refusal_of as ruledBy}
use Rattle.rules.specs.Laws.Refusals as Rules
use Rattle.save.proofs.Theorems.Refusals as Save
use Rattle.build.specs.Building.{builds, building_of, refused as buildRefused}
use Rattle.build.proofs.Theorems.Refusals as Build
use Rattle.demands.specs.Demand1.{Refused, Demand1}

-- all else is zero
load_zero : (image ram : List ℕ) (f : ℕ) → Refused (loading_of image (lent ram) f).refusal
    → loading_of image (lent ram) f ≡ loadRefused (loading_of image (lent ram) f).refusal
unfolding loading_of
load_zero image ram f n = cases (loads image (lent ram) f) (λ e. absurd (n (rw e))) (λ e. rw e)

cfg_zero : (cfg : List ℕ) → Refused (reading_of cfg).refusal → reading_of cfg ≡ cfgRefused (reading_of cfg).refusal
unfolding reading_of
cfg_zero cfg n = cases (passes (refusal_of cfg)) (λ e. absurd (n (rw e))) (λ e. rw e)

cfg_refused : (cfg : List ℕ) (r : Refusal) → Refused r → ((reading_of cfg).refusal ≡ r) ↔ Gives (cfgRows cfg) r
cfg_refused cfg r h =
    let x = refused_exactly (cfgRows cfg) (Cfg.each_refuses cfg) r h in
    ((λ e. x.0 (sym (Cfg.refusal_is cfg) ∙ e)), (λ g. Cfg.refusal_is cfg ∙ x.1 g))

rules_accepted : (words : ℕ) (lines : List Line) → ((ruledBy words lines).number ≡ 0) ↔ Silent (ruleRows words lines)
unfolding ruledBy
rules_accepted words lines = accepted_exactly (ruleRows words lines) (Rules.each_refuses words lines)

build_zero : (bin cfg label out : List ℕ) → Refused (building_of bin cfg label out).refusal → building_of bin cfg label out ≡ buildRefused bin cfg label (building_of bin cfg label out).refusal
unfolding building_of
build_zero bin cfg label out n = cases (builds bin cfg label out) (λ e. absurd (n (rw e))) (λ e. rw e)

pub demand_1 : Demand1
demand_1 =
    record {
      load = λ image ram f. record { refused = Load.refused_exactly image (lent ram) f; accepted = Load.loads_exactly image (lent ram) f };
      load_zero = load_zero;
      load_keeps = Load.refused_keeps;
      cfg = λ cfg. record { refused = cfg_refused cfg; accepted = (Cfg.exactly cfg).accepts };
      cfg_zero = cfg_zero;
      rules = λ words lines. record { refused = (Rules.exactly words lines).refuses; accepted = rules_accepted words lines };
      write = λ out c. record { refused = (Save.answers out c).refused; accepted = (Save.answers out c).accepted };
      write_zero = λ out c. (Save.answers out c).zero;
      write_keeps = λ out c. (Save.answers out c).kept;
      build = λ bin cfg label out. record { refused = (Build.answers bin cfg label out).refused; accepted = (Build.answers bin cfg label out).accepted };
      build_zero = build_zero;
      build_keeps = λ bin cfg label out. (Build.answers bin cfg label out).kept;
    }
