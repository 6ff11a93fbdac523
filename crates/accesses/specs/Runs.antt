-- What running a list of accesses answers, and what it leaves (02, W-214): refusals 33 and 29, or the first lines up to the limit, made one by one
-- by the cartridge's own run.
use Rattle.std.specs.Prelude.{ℕ, List, [], ◌∷◌, map, Bool, cond, eqb, ltb, length, take}
use Rattle.basics.specs.declared.Refusal.{Refusal}
use Rattle.basics.specs.Lists.{put_front}
use Rattle.basics.specs.Rows.{Row}
use Rattle.basics.specs.Refusals.{refuse, first_refusal, passes}
use Rattle.cart.specs.declared.Cartridge.{Cartridge}
use Rattle.cart.specs.Reads.{heard}
use Rattle.cart.specs.Run.{Access, World, after, answers}
use Rattle.accesses.specs.declared.Ran.{Ran}
use Rattle.accesses.specs.Accesses.{accesses_of, malformed_line, reads_of}

-- 33: a malformed line anywhere
abbrev pub has_malformed : List ℕ → Bool
has_malformed list = ltb 0 (malformed_line list)

-- 29: the answers to every read in the list don't fit, the limit aside
abbrev pub too_few : List ℕ → ℕ → Bool
too_few list room = ltb room (reads_of list)

abbrev pub refusal_rows : List ℕ → ℕ → List (Row Refusal)
refusal_rows list room = (has_malformed list, refuse 33 (malformed_line list)) ∷ (too_few list room, refuse 29 0) ∷ []

abbrev pub refusal_of : List ℕ → ℕ → Refusal
refusal_of list room = first_refusal (refusal_rows list room)

-- the accesses that are run: those of the first lines up to the limit, and none of a list that is refused
unfoldable pub run_of : List ℕ → ℕ → ℕ → List Access
run_of list limit room = cond (passes (refusal_of list room)) (take limit (accesses_of list)) []

-- a cartridge, with the flash and the RAM that are lent to it
abbrev pub world : Cartridge → List ℕ → List ℕ → World
world c flash ram = record { cartridge = c; flash = flash; ram = ram }

-- what they leave
abbrev pub left : World → List ℕ → ℕ → ℕ → World
left w list limit room = after w (run_of list limit room)

-- the words read, with silence marked
abbrev pub words_of : World → List ℕ → ℕ → ℕ → List ℕ
words_of w list limit room = map heard (answers w (run_of list limit room))

-- the answer: the state; as many lines as the run has steps; how many answers there are, or at 29 how many there would be
unfoldable pub ran_of : World → List ℕ → ℕ → ℕ → Ran
ran_of w list limit room =
    record {
      refusal = refusal_of list room;
      cartridge = (left w list limit room).cartridge;
      lines = length (run_of list limit room);
      length = cond (eqb (refusal_of list room).number 29) (reads_of list) (length (words_of w list limit room));
    }

-- the buffer of answers: the words read at its front, all else kept
abbrev pub answers_in : World → List ℕ → ℕ → List ℕ → List ℕ
answers_in w list limit out = put_front (words_of w list limit (length out)) out
