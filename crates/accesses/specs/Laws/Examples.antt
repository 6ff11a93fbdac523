-- Lines of a list and what each says; lists with their first malformed line and their reads: tables under one statement each.
use Rattle.std.specs.Prelude.{ℕ, List, ◌∷◌, [], map, ◌≡◌, refl, length}
use Prim.Native.String.{String}
use Rattle.std.proofs.Math.Option.{Option, none, some}
use Rattle.places.specs.Places.{console}
use Rattle.text.specs.Bytes.{text}
use Rattle.text.specs.Spelling.{same}
use Rattle.text.specs.Lines.{lines_of}
use Rattle.cart.specs.Run.{Access, Read, Write, Reset}
use Rattle.accesses.specs.Line.{digits_at, word_at, is_reset, is_read, is_write, line_says}
use Rattle.accesses.specs.Accesses.{accesses_in, malformed_from, malformed_line, reads_in, reads_of}

pub record Example : Type 0 where
  pub line : String
  pub says : Option Access

infix 20 ◌says◌
abbrev ◌says◌ : String → Option Access → Example
◌says◌ l a = record { line = l; says = a }

abbrev pub examples : List Example
examples =
    ("op=x" says some Reset) ∷
    ("op=r addr=5000" says some (Read (console 0x5000))) ∷
    ("op=r addr=aBcD" says some (Read (console 0xABCD))) ∷
    ("op=w addr=FFFF value=0a5f" says some (Write (console 0xFFFF) 0x0A5F)) ∷
    -- nothing before or after, nothing but single spaces, this order
    ("" says none) ∷
    (" op=x" says none) ∷
    ("op=x " says none) ∷
    ("op=x\r" says none) ∷
    ("op=X" says none) ∷
    ("OP=r addr=5000" says none) ∷
    ("op=r  addr=5000" says none) ∷
    ("op=r\taddr=5000" says none) ∷
    ("op=r addr=$5000" says none) ∷
    ("op=r addr=500" says none) ∷
    ("op=r addr=050G" says none) ∷
    ("op=r addr=5000 value=0000" says none) ∷
    ("op=w addr=5000" says none) ∷
    ("op=w value=0000 addr=5000" says none) ∷
    ("op=w addr=5000 value=000" says none) ∷
    ("op=x ; again" says none) ∷
    []

pub lines : map (λ e. line_says (text e.line)) examples ≡ map (λ e. e.says) examples
unfolding same digits_at word_at is_reset is_read is_write line_says
lines = refl

-- a list: how many lines it has, the first malformed one, and how many reads
pub record ListExample : Type 0 where
  pub list : String
  pub counts : List ℕ

infix 20 ◌has◌
abbrev ◌has◌ : String → List ℕ → ListExample
◌has◌ l ns = record { list = l; counts = ns }

abbrev pub lists : List ListExample
lists =
    ("" has (0 ∷ 0 ∷ 0 ∷ [])) ∷
    ("op=x" has (1 ∷ 0 ∷ 0 ∷ [])) ∷
    ("op=x\n" has (1 ∷ 0 ∷ 0 ∷ [])) ∷
    ("op=r addr=5000\r\nop=x\nop=r addr=5001" has (3 ∷ 0 ∷ 2 ∷ [])) ∷
    -- blank, and a CR that is not before LF
    ("\n" has (1 ∷ 1 ∷ 0 ∷ [])) ∷
    ("op=x\n\nop=x\n" has (3 ∷ 2 ∷ 0 ∷ [])) ∷
    ("op=x\nop=x\r" has (2 ∷ 2 ∷ 0 ∷ [])) ∷
    ("op=x\r\r\n" has (1 ∷ 1 ∷ 0 ∷ [])) ∷
    []

abbrev counts_of : List ℕ → List ℕ
counts_of list = length (lines_of list) ∷ malformed_line list ∷ reads_of list ∷ []

pub counts : map (λ e. counts_of (text e.list)) lists ≡ map (λ e. e.counts) lists
unfolding same digits_at word_at is_reset is_read is_write line_says lines_of accesses_in malformed_from reads_in
counts = refl
