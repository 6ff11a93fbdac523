-- Words and accelerators, there and back, and what is written in place.
use Rattle.std.specs.Prelude.{ℕ, suc, ◌<◌, ◌+◌, ◌-◌, ◌%◌, Bool, cond, not, ◌≡◌, eqb, get_or}
use Rattle.std.proofs.Math.Bool.{true, false}
use mathlib.Core.List.{List, [], ◌∷◌, ◌++◌}
use Rattle.std.proofs.Math.Path.{refl, ap}
use Rattle.std.proofs.Common.{sym, ◌∙◌, arith, length-set}
use Rattle.std.proofs.Math.ListN.{length, set, get_or-append}
use Rattle.std.proofs.lemmas.List.{set-append_left}
use Rattle.basics.specs.Tables.{made, table}
use Rattle.basics.specs.Laws.Tables.{table_of, length_table}
use Rattle.basics.specs.Laws.Tests.{cases}
use Rattle.places.specs.declared.Console.{Console}
use Rattle.flash.specs.declared.Saves.{Saves}
use Rattle.jlp.specs.declared.Jlp.{Jlp}
use Rattle.jlp.specs.declared.Results.{Results}
use Rattle.jlp.specs.Window.{is_operand, operands_start}
use Rattle.jlp.specs.Accelerators.{operand_count, with_on, turns_on, turns_off, with_crc_and_saves, written_on, written_jlp}
use Rattle.registers.specs.Words.{accelerator_words, one_if, words_of, jlp_from, operates, behind_operand}
use Rattle.registers.specs.Code.Tidy.{Tidy}

on_again : (b : Bool) → not (eqb (one_if b) 0) ≡ b
on_again true = refl
on_again false = refl

operands_again : (o : List ℕ) → length o ≡ operand_count → table operand_count (λ i. get_or o i 0) ≡ o
operands_again o l = sym (table_of 0 operand_count (λ i. get_or o i 0) o l (λ i h. refl))

-- accelerators whose field is a byte, and which have 12 operands, as those of every cartridge have
pub words_again : (j : Jlp) → j.field < 256 → length j.operands ≡ operand_count → jlp_from (words_of j) ≡ j
unfolding made
words_again j f l =
    let field : j.field % 256 ≡ j.field = omega arith in
    rw (on_again j.on, field, operands_again j.operands l)

-- and so all that are made of words
pub same_again : (w : List ℕ) → jlp_from (words_of (jlp_from w)) ≡ jlp_from w
same_again w = words_again (jlp_from w) (omega arith) (length_table operand_count (λ i. get_or w (2 + i) 0))

-- a write keeps the field, and as many operands
module _ (j : Jlp) (at : Console) (v : ℕ) where
  on_field : (written_on j at v).field ≡ j.field
  unfolding written_on
  on_field = cases (turns_off at v) (λ t. rw t) (λ t. cases (is_operand at) (λ b. rw (t, b)) (λ b. rw (t, b)))

  field_kept : (written_jlp j at v).field ≡ j.field
  unfolding written_jlp
  field_kept = cases (turns_on j.field at v) (λ t. rw t) (λ t. rw t (by j.on))
    where
      by : (b : Bool) → (cond b (written_on j at v) j).field ≡ j.field
      by true = on_field
      by false = refl

  on_count : length (written_on j at v).operands ≡ length j.operands
  unfolding written_on
  on_count = cases (turns_off at v) (λ t. rw t) (λ t. cases (is_operand at) (λ b. rw (t, b) (length-set j.operands (at.0 - operands_start) v)) (λ b. rw (t, b)))

  count_kept : length (written_jlp j at v).operands ≡ length j.operands
  unfolding written_jlp
  count_kept = cases (turns_on j.field at v) (λ t. rw t) (λ t. rw t (by j.on))
    where
      by : (b : Bool) → length (cond b (written_on j at v) j).operands ≡ length j.operands
      by true = on_count
      by false = refl

-- so what it leaves of accelerators that were made of words is laid out, and made again
pub written_again : (w : List ℕ) (at : Console) (v : ℕ) → jlp_from (words_of (written_jlp (jlp_from w) at v)) ≡ written_jlp (jlp_from w) at v
written_again w at v =
    words_again (written_jlp (jlp_from w) at v) (omega (arith, field_kept (jlp_from w) at v))
    (count_kept (jlp_from w) at v ∙ length_table operand_count (λ i. get_or w (2 + i) 0))

-- a write to an operand while they are on leaves the words that it computes; any other leaves them as they are
module _ (w : List ℕ) (at : Console) (v : ℕ) where
  pub behind_operand_lem : operates (jlp_from w) at ≡ true → behind_operand w at v ≡ words_of (written_jlp (jlp_from w) at v)
  unfolding behind_operand
  behind_operand_lem e = rw e

  pub behind_other : operates (jlp_from w) at ≡ false → behind_operand w at v ≡ w
  unfolding behind_operand
  behind_other e = rw e

-- any words made tidy, in place
pub tidied : (w : List ℕ) (on : ℕ) → length w ≡ accelerator_words → on ≡ one_if (not (eqb (get_or w 1 0) 0)) → set (set w 0 (get_or w 0 0 % 256)) 1 on ≡ words_of (jlp_from w)
unfolding made
tidied [] on l e = absurd (omega arith)
tidied (a ∷ []) on l e = absurd (omega arith)
tidied (a ∷ b ∷ r) on l e = rw e (ap (λ (s : List ℕ). a % 256 ∷ one_if (not (eqb b 0)) ∷ s) (table_of 0 18 (λ i. get_or r i 0) r (omega arith) (λ i h. refl)))

-- then they are the same accelerators
module _ (w₀ w : List ℕ) (e : w ≡ words_of (jlp_from w₀)) where
  pub from_tidied : jlp_from w ≡ jlp_from w₀
  from_tidied = ap jlp_from e ∙ same_again w₀

  pub tidy_now : Tidy w
  tidy_now = e ∙ ap words_of (sym from_tidied)

-- behind the field and on
past_two : (a b : ℕ) (l : List ℕ) (m : ℕ) → get_or (a ∷ b ∷ l) (2 + m) 0 ≡ get_or l m 0
past_two a b l m = let e : 2 + m ≡ suc (suc m) = omega arith in ap (λ (n : ℕ). get_or (a ∷ b ∷ l) n 0) e

set_past_two : (a b : ℕ) (l : List ℕ) (m v : ℕ) → set (a ∷ b ∷ l) (2 + m) v ≡ a ∷ b ∷ set l m v
set_past_two a b l m v = let e : 2 + m ≡ suc (suc m) = omega arith in ap (λ (n : ℕ). set (a ∷ b ∷ l) n v) e

-- tidy words, written in place
module _ (w : List ℕ) (t : Tidy w) where
  pub turned : (b : Bool) → set w 1 (one_if b) ≡ words_of (with_on (jlp_from w) b)
  turned b = ap (λ (l : List ℕ). set l 1 (one_if b)) t

  pub noted : (c : ℕ) (s : Saves) → set (set (set (set w 16 c) 17 s.sectors) 18 s.addr) 19 s.row ≡ words_of (with_crc_and_saves (jlp_from w) c s)
  unfolding made
  noted c s = ap (λ (l : List ℕ). set (set (set (set l 16 c) 17 s.sectors) 18 s.addr) 19 s.row) t

  module _ (k v : ℕ) (h : k < operand_count) where
    abbrev o : List ℕ
    o = (jlp_from w).operands

    abbrev rest : List ℕ
    rest = get_or w 14 0 ∷ get_or w 15 0 ∷ get_or w 16 0 ∷ get_or w 17 0 ∷ get_or w 18 0 ∷ get_or w 19 0 ∷ []

    long : length o ≡ operand_count
    long = length_table operand_count (λ i. get_or w (2 + i) 0)

    -- the operand's word, and no other
    placed : set w (2 + k) v ≡ (jlp_from w).field ∷ one_if (jlp_from w).on ∷ (set o k v ++ rest)
    placed =
        ap (λ (l : List ℕ). set l (2 + k) v) (t ∙ ap (λ (l : List ℕ). (jlp_from w).field ∷ one_if (jlp_from w).on ∷ (l ++ rest)) (operands_again o long))
        ∙ set_past_two (jlp_from w).field (one_if (jlp_from w).on) (o ++ rest) k v
        ∙ ap (λ (l : List ℕ). (jlp_from w).field ∷ one_if (jlp_from w).on ∷ l) (set-append_left o rest k v (omega (arith, long)))

    pub operand_at : (m : ℕ) → m < operand_count → get_or (set w (2 + k) v) (2 + m) 0 ≡ get_or (set o k v) m 0
    operand_at m b =
        ap (λ (l : List ℕ). get_or l (2 + m) 0) placed
        ∙ past_two (jlp_from w).field (one_if (jlp_from w).on) (set o k v ++ rest) m
        ∙ get_or-append (set o k v) rest 0 m (omega (arith, long, length-set o k v))

    pub laid_out : (r : Results) → set (set (set w (2 + k) v) 14 r.first) 15 r.second
        ≡ words_of (record { field = (jlp_from w).field; on = (jlp_from w).on; operands = set o k v; results = r; crc = (jlp_from w).crc; saves = (jlp_from w).saves })
    unfolding made
    laid_out r =
        ap (λ (l : List ℕ). set (set l 14 r.first) 15 r.second)
        (placed ∙ ap (λ (l : List ℕ). (jlp_from w).field ∷ one_if (jlp_from w).on ∷ (l ++ rest)) (sym (operands_again (set o k v) (length-set o k v ∙ long))))
