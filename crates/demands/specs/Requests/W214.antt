-- W-214: run a list of bus accesses (02).
use Rattle.std.specs.Prelude.{ℕ, ◌≤◌, min, List, ◌++◌, map, ◌≡◌, length}
use Rattle.basics.specs.Rows.{Silent}
use Rattle.text.specs.Lines.{lines_of}
use Rattle.cart.specs.Reads.{heard}
use Rattle.cart.specs.Run.{World, Access, after, answers}
use Rattle.accesses.specs.Runs.{refusal_rows, run_of, left, words_of, ran_of, answers_in}
use Rattle.cfg.specs.File.{entries_of}
use Rattle.plays.specs.Plain.{plain_answers, fresh}
use Rattle.demands.specs.Pressing.{Pressing, world_of}
use Rattle.demands.specs.Demand1.{Decides, Refused}
use Rattle.demands.specs.Demand3.{Playable}

-- the answers under a higher limit begin with those under a lower one, and the list is refused alike
pub record Adds (w : World) (list : List ℕ) (m n room : ℕ) : Type 0 where
  pub refusal : (ran_of w list n room).refusal ≡ (ran_of w list m room).refusal
  pub more : List ℕ
  pub answers : words_of w list n room ≡ words_of w list m room ++ more

pub record W214 : Type 0 where
  -- refusals 33 and 29, each exactly when its row holds and none before it does; then nothing is run, so that state, RAM, flash and answers are
  -- kept, and no lines are counted, and no length but at 29
  pub list : (w : World) (xs : List ℕ) (limit : ℕ) (out : List ℕ) → Decides (refusal_rows xs (length out)) (ran_of w xs limit (length out)).refusal
  pub list_keeps : (w : World) (xs : List ℕ) (limit : ℕ) (out : List ℕ) → Refused (ran_of w xs limit (length out)).refusal
      → (left w xs limit (length out) ≡ w) × (answers_in w xs limit out ≡ out)
  pub list_zero : (w : World) (xs : List ℕ) (limit : ℕ) (out : List ℕ) → Refused (ran_of w xs limit (length out)).refusal
      → ((ran_of w xs limit (length out)).refusal.number ≡ 29 → ⊥)
      → ((ran_of w xs limit (length out)).lines ≡ 0) × ((ran_of w xs limit (length out)).length ≡ 0)
  -- "the number of lines run, which is the smaller of the limit and the list's length"
  pub lines_run : (w : World) (list : List ℕ) (limit room : ℕ) → Silent (refusal_rows list room)
      → (ran_of w list limit room).lines ≡ min limit (length (lines_of list))
  -- "A higher limit adds answers and changes none."
  pub adds : (w : World) (list : List ℕ) (m n room : ℕ) → m ≤ n → Adds w list m n room
  -- "Running a list equals making its accesses one by one": a run in two goes is a run
  pub one_by_one : (w : World) (xs ys : List Access) → answers w (xs ++ ys) ≡ answers w xs ++ answers (after w xs) ys
  pub leaves : (w : World) (list : List ℕ) (limit room : ℕ) → left w list limit room ≡ after w (run_of list limit room)
  -- demand 3, for the runner: over a built image a list gets what the plain cartridge gives
  pub plays : (p : Pressing) → Playable p → (list : List ℕ) (limit room : ℕ)
      → words_of (world_of p.loading p.flash p.stored) list limit room
      ≡ map heard (plain_answers p.bin (entries_of p.cfg) fresh (run_of list limit room))
