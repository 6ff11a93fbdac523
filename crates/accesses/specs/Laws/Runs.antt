-- Runs of accesses (02, W-214): one by one, in two goes, and under a higher limit; and how many lines are run.
use Rattle.std.specs.Prelude.{ℕ, suc, ◌+◌, ◌-◌, ◌≤◌, min, ◌≡◌, refl, length, take, drop, Option}
use mathlib.Core.List.{List, [], ◌∷◌, ◌++◌, map, map-append, append_assoc, append-nil, foldl}
use Rattle.std.proofs.Common.{sym, ap, ◌∙◌, arith, length-take, take-add, ltb-false}
use Rattle.basics.specs.Rows.{Silent, also}
use Rattle.basics.specs.Refusals.{no_refusal, passes}
use Rattle.basics.specs.Laws.Rows.{silent_first}
use Rattle.basics.specs.Laws.Tests.{cases}
use Rattle.cart.specs.Cartridges.{read_of, written_of, write_flash_of, write_ram_of, reset_of}
use Rattle.cart.specs.Run.{World, Access, Read, Write, Reset, step, after, answers}
use Rattle.text.specs.Lines.{lines_of}
use Rattle.accesses.specs.Accesses.{accesses_of, malformed_line, reads_in}
use Rattle.cart.specs.Reads.{heard}
use Rattle.accesses.specs.Runs.{refusal_rows, refusal_of, run_of, world, left, words_of, ran_of}
use Rattle.accesses.specs.Laws.Accesses.{as_many}

-- each read has one answer
pub answers_many : (w : World) (xs : List Access) → length (answers w xs) ≡ reads_in xs
unfolding reads_in
answers_many w [] = refl
answers_many w (Read a ∷ xs) = ap suc (answers_many w xs) ∙ omega arith
answers_many w (Write a v ∷ xs) = answers_many (step w (Write a v)) xs ∙ omega arith
answers_many w (Reset ∷ xs) = answers_many (step w Reset) xs ∙ omega arith

-- in two goes
pub answers_append : (w : World) (xs ys : List Access) → answers w (xs ++ ys) ≡ answers w xs ++ answers (after w xs) ys
answers_append w [] ys = refl
answers_append w (Read a ∷ xs) ys = ap (◌∷◌ (read_of w.cartridge w.ram a)) (answers_append w xs ys)
answers_append w (Write a v ∷ xs) ys = answers_append (step w (Write a v)) xs ys
answers_append w (Reset ∷ xs) ys = answers_append (step w Reset) xs ys

-- a cartridge with its memories, and the answers so far; one access more, by what the cartridge's read, write and reset promise
pub record Bench : Type 0 where
  pub world : World
  pub heard : List (Option ℕ)

abbrev pub makes : Bench → Access → Bench
makes b (Read a) = record { world = b.world; heard = b.heard ++ (read_of b.world.cartridge b.world.ram a ∷ []) }
makes b (Write a v) =
    record {
      world =
          world (written_of b.world.cartridge a v).cartridge (write_flash_of b.world.cartridge b.world.flash b.world.ram a v)
          (write_ram_of b.world.cartridge b.world.flash b.world.ram a v);
      heard = b.heard;
    }
makes b Reset = record { world = world (reset_of b.world.cartridge) b.world.flash b.world.ram; heard = b.heard }

from : (w : World) (before : List (Option ℕ)) (xs : List Access)
    → foldl makes (record { world = w; heard = before }) xs ≡ record { world = after w xs; heard = before ++ answers w xs }
from w before [] = rw (append-nil before)
from w before (Read a ∷ xs) =
    from w (before ++ (read_of w.cartridge w.ram a ∷ [])) xs
    ∙ ap (λ (h : List (Option ℕ)). record { world = after w xs; heard = h }) (append_assoc before (read_of w.cartridge w.ram a ∷ []) (answers w xs))
from w before (Write a v ∷ xs) = from (step w (Write a v)) before xs
from w before (Reset ∷ xs) = from (step w Reset) before xs

-- running a list is making its accesses one by one
pub one_by_one : (w : World) (list : List ℕ) (limit room : ℕ)
    → foldl makes (record { world = w; heard = [] }) (run_of list limit room) ≡ record { world = left w list limit room; heard = answers w (run_of list limit room) }
one_by_one w list limit room = from w [] (run_of list limit room)

-- a higher limit adds answers and changes none, and refuses the same lists
pub record Adds (w : World) (list : List ℕ) (m n room : ℕ) : Type 0 where
  pub refusal : (ran_of w list n room).refusal ≡ (ran_of w list m room).refusal
  pub more : List ℕ
  pub answers : words_of w list n room ≡ words_of w list m room ++ more

run_more : (list : List ℕ) (m k room : ℕ) → (xs : List Access) × (run_of list (m + k) room ≡ run_of list m room ++ xs)
unfolding run_of
run_more list m k room =
    cases (passes (refusal_of list room))
    (λ e. rw e (take k (drop m (accesses_of list)), take-add m k (accesses_of list)))
    (λ e. rw e ([], refl))

pub adds : (w : World) (list : List ℕ) (m n room : ℕ) → m ≤ n → Adds w list m n room
unfolding ran_of
adds w list m n room h =
    let q : m + (n - m) ≡ n = omega arith in
    let r = run_more list m (n - m) room in
    let e : run_of list n room ≡ run_of list m room ++ r.0 = ap (λ (i : ℕ). run_of list i room) (sym q) ∙ r.1 in
    record {
      refusal = refl;
      more = map heard (answers (left w list m room) r.0);
      answers =
          ap (λ (xs : List Access). map heard (answers w xs)) e ∙ ap (map heard) (answers_append w (run_of list m room) r.0)
          ∙ map-append heard (answers w (run_of list m room)) (answers (left w list m room) r.0);
    }

-- lines run: the smaller of the limit and the list's length
none_malformed : (list : List ℕ) (room : ℕ) → Silent (refusal_rows list room) → malformed_line list ≡ 0
none_malformed list room (also e s) = omega (arith, ltb-false 0 (malformed_line list) e)

pub lines_run : (w : World) (list : List ℕ) (limit room : ℕ) → Silent (refusal_rows list room) → (ran_of w list limit room).lines ≡ min limit (length (lines_of list))
unfolding ran_of run_of
lines_run w list limit room s =
    rw (silent_first no_refusal s) (length-take limit (accesses_of list) ∙ ap (min limit) (as_many 0 (lines_of list) (none_malformed list room s)))
