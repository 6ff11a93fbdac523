-- What the private functions of the runner promise: what a line says as they answer it, the checking pass, and one access made over lent tables.
use Rattle.std.specs.Prelude.{ℕ, ◌+◌, ◌≤◌, List, map, ◌≡◌, Bool, true, false, cond, ltb, length, set}
use Rattle.std.specs.Prelude.{Option as Maybe, Some, None, Result, Ok, Err}
use Rattle.std.proofs.Math.Option.{Option, none, some}
use Rattle.basics.specs.declared.Refusal.{Refusal}
use Rattle.basics.specs.Lists.{put_front}
use Rattle.basics.specs.Refusals.{no_refusal, refuse}
use Rattle.switches.specs.Flips.{Active}
use Rattle.jlp.specs.declared.Jlp.{Jlp}
use Rattle.cart.specs.Cartridges.{assembled, read_of}
use Rattle.cart.specs.declared.Cartridge.{Cartridge}
use Rattle.cart.specs.Run.{World, step, after, answers}
use Rattle.cart.specs.Run as Run
use Rattle.text.specs.Lines.{lines_of}
use Rattle.accesses.specs.declared.Access.{Access}
use Rattle.accesses.specs.declared.Access.TheVariants.{Read, Write, Reset}
use Rattle.accesses.specs.declared.Made.{Made}
use Rattle.accesses.specs.declared.Ran.{Ran}
use Rattle.accesses.specs.Line.{digit_at, is_digit, digits_at, word_at}
use Rattle.accesses.specs.Accesses.{malformed_line, reads_of}
use Rattle.cart.specs.Reads.{heard}

-- an access, and what a line says, as the code has them
abbrev pub coded : Run.Access → Access
coded (Run.Read a) = Read a
coded (Run.Write a v) = Write a v
coded Run.Reset = Reset

abbrev pub says : Option Run.Access → Maybe Access
says none = None
says (some x) = Some (coded x)

-- a read alone is answered
abbrev pub is_heard : Access → Bool
is_heard (Read a) = true
is_heard (Write a v) = false
is_heard Reset = false

-- the checking pass: the first malformed line, or how many lines and reads there are
unfoldable pub checked_of : List ℕ → Result (ℕ × ℕ) Refusal
checked_of list = cond (ltb 0 (malformed_line list)) (Err (refuse 33 (malformed_line list))) (Ok (length (lines_of list), reads_of list))

-- a world of initial and active tables, the flip table, the number of readable paragraphs, the accelerators, the flash and the RAM
abbrev pub tabled : Active → Active → List ℕ → ℕ → Jlp → List ℕ → List ℕ → World
tabled initial now flips readable j flash ram = record { cartridge = assembled initial now flips readable j; flash = flash; ram = ram }

-- what an access leaves of a world, and what it answers
abbrev pub stepped : World → Access → World
stepped w (Read a) = step w (Run.Read a)
stepped w (Write a v) = step w (Run.Write a v)
stepped w Reset = step w Run.Reset

abbrev pub answered : World → Access → Maybe ℕ
answered w (Read a) = Some (heard (read_of w.cartridge w.ram a))
answered w (Write a v) = None
answered w Reset = None

abbrev pub made : World → Access → Made
made w s = record { jlp = (stepped w s).cartridge.jlp; reply = answered w s }

-- a digit, and four as a number
abbrev pub digit_said : List ℕ → ℕ → Maybe ℕ
digit_said l i = cond (is_digit l i) (Some (digit_at l i)) None

abbrev pub number_of : List ℕ → ℕ → Maybe ℕ
number_of l i = cond (digits_at l i) (Some (word_at l i)) None

-- an answer in the buffer
abbrev pub count_of : Maybe ℕ → ℕ
count_of None = 0
count_of (Some n) = 1

abbrev pub noted : Maybe ℕ → ℕ → List ℕ → List ℕ
noted None k out = out
noted (Some n) k out = set out k n

abbrev pub Fits : Maybe ℕ → ℕ → ℕ → Type 0
Fits h k room = k + count_of h ≤ room

-- a list that is not refused, with room for all its answers, and a number of its lines
pub record Runnable (list : List ℕ) (n room : ℕ) : Type 0 where
  pub good : malformed_line list ≡ 0
  pub lines : n ≤ length (lines_of list)
  pub fits : reads_of list ≤ room

-- a refused run, and one of these accesses
abbrev pub refused_with : Cartridge → Refusal → ℕ → Ran
refused_with c r n = record { refusal = r; cartridge = c; lines = 0; length = n }

abbrev pub ran_to : World → List Run.Access → Ran
ran_to w xs = record { refusal = no_refusal; cartridge = (after w xs).cartridge; lines = length xs; length = length (map heard (answers w xs)) }

abbrev pub answers_to : World → List Run.Access → List ℕ → List ℕ
answers_to w xs out = put_front (map heard (answers w xs)) out
