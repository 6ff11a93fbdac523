-- The plain cartridge: sixteen page numbers and RAM, and how they answer the console (01, What a CFG may say).
use Rattle.std.specs.Prelude as Std
use Rattle.std.specs.Prelude.{ℕ, suc, ◌/◌, ◌%◌, List, ◌∷◌, [], ◌++◌, Bool, ◌&&◌, cond, eqb, Some, None}
use Rattle.std.proofs.Math.Option.{Option, none, some}
use Rattle.places.specs.declared.Console.{Console}
use Rattle.places.specs.Limits.{chapter_size}
use Rattle.cart.specs.Run.{Access, Read, Write, Reset}
use Rattle.lines.specs.declared.Entry.{Entry}
use Rattle.lines.specs.declared.Entry.TheVariants.{Rom, Paged, Ram}
use Rattle.lines.specs.declared.Line.{Line}
use Rattle.lines.specs.declared.Width.TheVariants.{Sixteen, Eight}
use Rattle.lines.specs.Bin.{bin_word, bin_place}
use Rattle.lines.specs.Lines.{line_at}

-- the page number of each chapter, and the RAM word at each address
pub record Plain : Type 0 where
  pub number : ℕ → ℕ
  pub ram : Console → ℕ

-- at load the numbers are 0, and RAM starts at zero
abbrev pub fresh : Plain
fresh = record { number = λ x. 0; ram = λ a. 0 }

-- what a line answers at an address: a word of the BIN, or the RAM's
abbrev pub word_by : List ℕ → (Console → ℕ) → Entry → Console → ℕ
word_by bin ram (Rom lo hi at) a = bin_word bin (bin_place lo at a)
word_by bin ram (Paged lo hi at y) a = bin_word bin (bin_place lo at a)
word_by bin ram (Ram lo hi w) a = ram a

-- a read finds the PAGE line for the chapter's number whose range holds the address; else the plain line that holds it
abbrev pub or_else : Option Line → Option Line → Option Line
or_else none o = o
or_else (some l) o = some l

unfoldable pub shown_line : List Line → ℕ → Console → Option Line
shown_line lines y a = or_else (line_at lines (suc y) a.0) (line_at lines 0 a.0)

-- else silence
abbrev pub answer_by : List ℕ → (Console → ℕ) → Option Line → Console → Std.Option ℕ
answer_by bin ram none a = None
answer_by bin ram (some l) a = Some (word_by bin ram l.entry a)

unfoldable pub plain_read : List ℕ → List Line → Plain → Console → Std.Option ℕ
plain_read bin lines c a = answer_by bin c.ram (shown_line lines (c.number (a.0 / chapter_size)) a) a

-- a write of $xA5y to $xFFF makes chapter x's number y
abbrev pub is_request : Console → ℕ → Bool
is_request a v = eqb (a.0 % chapter_size) 0xFFF && (eqb (v / 0x1000) (a.0 / chapter_size) && eqb (v / 16 % 256) 0xA5)

abbrev pub renumbered : (ℕ → ℕ) → ℕ → ℕ → ℕ → ℕ
renumbered number x y z = cond (eqb z x) y (number z)

unfoldable pub number_after : (ℕ → ℕ) → Console → ℕ → ℕ → ℕ
number_after number a v = cond (is_request a v) (renumbered number (a.0 / chapter_size) (v % 16)) number

-- RAM takes every write to its words; RAM 8 holds the low 8 bits
abbrev pub holding : (Console → ℕ) → Console → ℕ → Console → ℕ
holding ram a v b = cond (eqb b.0 a.0) v (ram b)

abbrev pub ram_by : Entry → (Console → ℕ) → Console → ℕ → Console → ℕ
ram_by (Rom lo hi at) ram a v = ram
ram_by (Paged lo hi at y) ram a v = ram
ram_by (Ram lo hi Sixteen) ram a v = holding ram a v
ram_by (Ram lo hi Eight) ram a v = holding ram a (v % 256)

abbrev pub ram_after : Option Line → (Console → ℕ) → Console → ℕ → Console → ℕ
ram_after none ram a v = ram
ram_after (some l) ram a v = ram_by l.entry ram a v

-- what an access leaves; RAM survives reset, the numbers are 0 again
abbrev pub plain_step : List Line → Plain → Access → Plain
plain_step lines c (Read a) = c
plain_step lines c (Write a v) =
    record { number = number_after c.number a v; ram = ram_after (line_at lines 0 a.0) c.ram a v }
plain_step lines c Reset = record { number = λ x. 0; ram = c.ram }

-- what an access answers, and a list of them
abbrev pub plain_said : List ℕ → List Line → Plain → Access → List (Std.Option ℕ)
plain_said bin lines c (Read a) = plain_read bin lines c a ∷ []
plain_said bin lines c (Write a v) = []
plain_said bin lines c Reset = []

abbrev pub plain_answers : List ℕ → List Line → Plain → List Access → List (Std.Option ℕ)
plain_answers bin lines c [] = []
plain_answers bin lines c (x ∷ xs) = plain_said bin lines c x ++ plain_answers bin lines (plain_step lines c x) xs
