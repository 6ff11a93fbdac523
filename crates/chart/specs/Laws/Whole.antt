-- The silent ranges and the accelerators' window are whole paragraphs, so that a paragraph's first address speaks for each of its addresses.
use Rattle.std.specs.Prelude.{ℕ, ◌<◌, ◌*◌, ◌/◌, true, false, ◌||◌, ◌⊎◌, ◌≡◌, ltb, eqb}
use Rattle.std.proofs.Common.{inl, inr, arith, lt-ltb, ltb-true, eqb-true}
use Rattle.basics.specs.Laws.Tests.{or_cases, same_test}
use Rattle.places.specs.declared.Console.{Console}
use Rattle.places.specs.Limits.{paragraph_size}
use Rattle.jlp.specs.Window.{in_window, window_start, window_end}
use Rattle.jlp.specs.Laws.Window.{between_low, between_high, between_in, between_below}
use Rattle.cart.specs.Cells.{paragraph}
use Rattle.cart.specs.Reads.{silent}
use Rattle.chart.specs.Chart.{start_of}

chapter_of_lem : (a : ℕ) → a / paragraph_size * paragraph_size / 0x1000 ≡ a / 0x1000
chapter_of_lem a = omega arith

first_five : (a : ℕ) → ltb (a / paragraph_size * paragraph_size) 0x500 ≡ ltb a 0x500
first_five a =
    same_test _ _ (λ e. lt-ltb a 0x500 (omega (arith, ltb-true (a / paragraph_size * paragraph_size) 0x500 e)))
    (λ e. lt-ltb (a / paragraph_size * paragraph_size) 0x500 (omega (arith, ltb-true a 0x500 e)))

pub whole_silent : (at : Console) → silent (start_of (paragraph at)) ≡ silent at
unfolding silent
whole_silent at = rw (first_five at.0, chapter_of_lem at.0)

pub whole_window : (at : Console) → in_window (start_of (paragraph at)) ≡ in_window at
whole_window at =
    same_test _ _ (λ e. between_in window_start window_end at.0 (omega (arith, between_low _ _ _ e)) (omega (arith, between_high _ _ _ e)))
    (λ e. between_in window_start window_end (start_of (paragraph at)).0 (omega (arith, between_low _ _ _ e)) (omega (arith, between_high _ _ _ e)))

-- the silent ranges stand below the window
pub silent_outside : (at : Console) → silent at ≡ true → in_window at ≡ false
unfolding silent
silent_outside at e = between_below window_start window_end at.0 (low (or_cases _ _ e))
  where
    low : (ltb at.0 0x500 || eqb (at.0 / 0x1000) 1 ≡ true) ⊎ (eqb (at.0 / 0x1000) 3 ≡ true) → at.0 < window_start
    low (inr h) = omega (arith, eqb-true (at.0 / 0x1000) 3 h)
    low (inl h) = lower (or_cases _ _ h)
      where
        lower : (ltb at.0 0x500 ≡ true) ⊎ (eqb (at.0 / 0x1000) 1 ≡ true) → at.0 < window_start
        lower (inl g) = omega (arith, ltb-true at.0 0x500 g)
        lower (inr g) = omega (arith, eqb-true (at.0 / 0x1000) 1 g)
