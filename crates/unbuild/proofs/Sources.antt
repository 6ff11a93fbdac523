-- The sizes of the BIN and of the CFG, and the answers by them.
use Prim.Native.Nat.{◌*◌, ◌<◌, ◌≤◌, max, ℕ}
use mathlib.Core.List.{List}
use mathlib.Core.Path.{◌∙◌, ◌≡◌, ap, sym}
use mathlib.Core.Bool.{Bool, ◌||◌, false, not, true}
use native.Mathlib.Omega.{arith}
use lib.Dec.{ltb}
use lib.ListN.{length, take}
use Rattle.basics.specs.Lists.{put_front}
use Rattle.basics.specs.Refusals.{no_refusal, refuse}
use Rattle.basics.specs.declared.Refusal.{Refusal}
use Rattle.places.specs.Limits.{bin_limit, line_limit}
use Rattle.lines.specs.declared.Line.{Line}
use Rattle.canon.specs.Laws.Bin.{bin_size}
use Rattle.canon.proofs.Theorems.Bin.{length_bin}
use Rattle.ledger.specs.Held.{plan_in, words_in}
use Rattle.ledger.specs.declared.Listing.{Listing}
use Rattle.ledger.specs.declared.Sketch.{Sketch}
use Rattle.sheet.specs.Code.Sheets.{cfg_lines, sheet_of}
use Rattle.sheet.specs.Laws.Sheets.{cfg_few, cfg_front, sheet_front}
use Rattle.sheet.specs.declared.Sheet.{Sheet}
use Rattle.unbuild.specs.Code.Answers.{AnswersBy, bare, bin_in, cfgIn}
use Rattle.unbuild.specs.Laws.Answers.{answers-long, answers-short, answers-unfit, answers-written}
use Rattle.unbuild.specs.declared.Unbuilding.{Unbuilding}

size_is : (s : Sketch) (ram : List ℕ) (n : ℕ) → n ≡ 2 * max 1 (bin_size (plan_in s.kinds s.pages)) → n ≡ length (bin_in s ram)
size_is s ram n e = e ∙ sym (length_bin (plan_in s.kinds s.pages) (words_in ram))

pub size_low : (s : Sketch) (ram : List ℕ) (n : ℕ) → n ≡ 2 * max 1 (bin_size (plan_in s.kinds s.pages)) → n ≤ bin_limit → length (bin_in s ram) ≤ bin_limit
size_low s ram n e h = omega (arith, size_is s ram n e)

-- the CFG of a listing's slice of lines is that of the listing
pub text_is : (l : Listing) (ls : List Line) (text : Sheet) → length l.lines ≡ line_limit → ls ≡ take l.count l.lines → text ≡ sheet_of (cfg_lines l.mapping (length ls) ls)
    → text ≡ sheet_of (cfgIn l)
text_is l ls text h el et = et ∙ ap sheet_of (rw el (cfg_front l.mapping l.count l.lines h))

module _ (l : Listing) (text : Sheet) (et : text ≡ sheet_of (cfgIn l)) where
  text_long : text.length ≡ length (cfgIn l)
  unfolding sheet_of
  text_long = ap (λ (t : Sheet). t.length) et

  module _ (s : Sketch) (ram bin cfg : List ℕ) (h : length (bin_in s ram) ≤ bin_limit) (n : ℕ) (en : n ≡ 2 * max 1 (bin_size (plan_in s.kinds s.pages))) (t : Bool)
      (es : t ≡ (ltb (length bin) n || ltb (length cfg) text.length)) where
    pub both_short : t ≡ true → (r : Refusal) → r ≡ refuse 29 0 → AnswersBy false (bin_in s ram) (cfgIn l) bin cfg (record { refusal = r; bin = n; cfg = text.length }) bin cfg
    both_short e r er = rw er (answers-short (bin_in s ram) (cfgIn l) bin cfg h n text.length (size_is s ram n en) text_long t es e)

    pub both_written : t ≡ false → (r : Refusal) (bin' cfg' : List ℕ) → r ≡ no_refusal → bin' ≡ put_front (bin_in s ram) bin → cfg' ≡ put_front (take text.length text.bytes) cfg
        → AnswersBy false (bin_in s ram) (cfgIn l) bin cfg (record { refusal = r; bin = n; cfg = text.length }) bin' cfg'
    both_written e r bin' cfg' er eb ec =
        let x : take text.length text.bytes ≡ cfgIn l = sheet_front (cfgIn l) text (cfg_few l.mapping l.count l.lines) et in
        rw er (answers-written (bin_in s ram) (cfgIn l) bin cfg h n text.length (size_is s ram n en) text_long t es e bin' cfg' eb (rw x at ec))

-- by whether it fits
module _ (f : Bool) (b c bin cfg : List ℕ) (r : Unbuilding) where
  pub source_unfit : not f ≡ true → (v : Refusal) → v ≡ refuse 31 0 → r ≡ bare v → AnswersBy (not f) b c bin cfg r bin cfg
  source_unfit h v ev er = rw (h, er, ev) (answers-unfit b c bin cfg)

  pub source_fits : not f ≡ false → (bin' cfg' : List ℕ) → AnswersBy false b c bin cfg r bin' cfg' → AnswersBy (not f) b c bin cfg r bin' cfg'
  source_fits h bin' cfg' a = rw h a

pub source_long : (f : Bool) (s : Sketch) (ram c bin cfg : List ℕ) (n : ℕ) (r : Unbuilding) (v : Refusal) → not f ≡ false → n ≡ 2 * max 1 (bin_size (plan_in s.kinds s.pages))
    → bin_limit < n → v ≡ refuse 32 0 → r ≡ bare v → AnswersBy (not f) (bin_in s ram) c bin cfg r bin cfg
source_long f s ram c bin cfg n r v h en l ev er = rw (h, er, ev) (answers-long (bin_in s ram) c bin cfg (omega (arith, size_is s ram n en)))
