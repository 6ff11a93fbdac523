-- Laws of the CRC: a list of words is the fold of one, also as a program writes them to $9FFC.
use Rattle.std.specs.Prelude.{ℕ, true, List, [], ◌∷◌, ◌++◌, ◌≡◌, refl}
use Rattle.std.proofs.Common.{◌∙◌, ap, arith}
use Rattle.basics.specs.Laws.Tests.{cond_true}
use Rattle.places.specs.Places.{console}
use Rattle.flash.specs.Registers.{remembered}
use Rattle.flash.specs.Laws.Registers.{registers_stay}
use Rattle.jlp.specs.declared.Jlp.{Jlp}
use Rattle.jlp.specs.Window.{between, data_at}
use Rattle.jlp.specs.Crc.{crc_word, crc_words}
use Rattle.jlp.specs.Accelerators.{turns_on, turns_off, crc_after, with_crc_and_saves, written_on, written_jlp}

pub words_append : (c : ℕ) (xs ys : List ℕ) → crc_words c (xs ++ ys) ≡ crc_words (crc_words c xs) ys
unfolding crc_words
words_append c [] ys = refl
words_append c (x ∷ xs) ys = words_append (crc_word c x) xs ys

-- the words written to $9FFC, one after the other
abbrev pub merged : Jlp → List ℕ → Jlp
merged j [] = j
merged j (w ∷ ws) = merged (written_jlp j (console data_at) w) ws

abbrev pub with_crc : Jlp → ℕ → Jlp
with_crc j c = with_crc_and_saves j c j.saves

one_merged : (j : Jlp) (w : ℕ) → j.on ≡ true → written_jlp j (console data_at) w ≡ with_crc j (crc_word j.crc w)
unfolding written_jlp written_on turns_on turns_off between crc_after
one_merged j w on =
    cond_true j.on (with_crc_and_saves j (crc_word j.crc w) (remembered j.saves (console data_at) w)) j on
    ∙ ap (with_crc_and_saves j (crc_word j.crc w)) (registers_stay j.saves (console data_at) w (λ e. omega arith) (λ e. omega arith))

-- they leave their CRC, and all else as it was
pub merged_is : (j : Jlp) (ws : List ℕ) → j.on ≡ true → merged j ws ≡ with_crc j (crc_words j.crc ws)
unfolding crc_words
merged_is j [] on = refl
merged_is j (w ∷ ws) on = ap (λ (k : Jlp). merged k ws) (one_merged j w on) ∙ merged_is (with_crc j (crc_word j.crc w)) ws on
