-- The card's two ways out, for the answer and for the RAM.
use Prim.Native.Nat.{ℕ, ◌<◌, ◌≤◌}
use mathlib.Core.List.{List}
use mathlib.Core.Path.{◌≡◌, ◌∙◌}
use lib.ListN.{length}
use borrow.Author.Tests.{lt-ltb, le-ltb, ne_eqb}
use Rattle.places.specs.Limits.{card_limit}
use Rattle.std.specs.Prelude.{Result, Ok, Err}
use Rattle.basics.specs.declared.Refusal.{Refusal}
use Rattle.basics.specs.Refusals.{refuse}
use Rattle.load.specs.declared.Loaded.{Loaded}
use Rattle.load.specs.Laws.Answers.{loading_ok, loading_err, err_refuses}
use Rattle.load.specs.Load.{loading_of, load_answer, load_ram_of}
use Rattle.report.specs.Report.{report_answer, report_of, report_ram_of}

module _ (s : List ℕ) (m : ℕ) where
  pub too_long_lem : card_limit < length s → (r : Refusal) → r ≡ refuse 30 0 → Err r ≡ report_answer (report_of s m)
  unfolding report_of
  too_long_lem h r e = rw (lt-ltb _ _ h, e)

  module _ (h : length s ≤ card_limit) (v : Result Loaded Refusal) (ev : v ≡ load_answer (loading_of s m 0)) where
    pub denied : (r : Refusal) → v ≡ Err r → Err r ≡ report_answer (report_of s m)
    unfolding report_of
    denied r e =
        rw (le-ltb _ _ h, ← loading_err s m 0 v ev r e, ne_eqb _ _ (err_refuses s m 0 v ev r e))

    pub loaded : (l : Loaded) → v ≡ Ok l → Ok (record { blocks = l.blocks; words = l.words }) ≡ report_answer (report_of s m)
    unfolding report_of
    loaded l e = rw (le-ltb _ _ h, ← loading_ok s m 0 v ev l e)

module _ (s ram : List ℕ) where
  pub too_long_ram : card_limit < length s → ram ≡ report_ram_of s ram
  unfolding report_ram_of
  too_long_ram h = simp (lt-ltb _ _ h)

  pub loaded_ram : length s ≤ card_limit → (next : List ℕ) → next ≡ load_ram_of s ram 0 → next ≡ report_ram_of s ram
  unfolding report_ram_of
  loaded_ram h next e = e ∙ simp (le-ltb _ _ h)
