-- 31, 32, 29, or both buffers written: an answer for each.
use Rattle.std.specs.Prelude.{◌<◌, ◌≤◌, ℕ, List, ◌≡◌, Bool, ◌||◌, length}
use Rattle.std.proofs.Common.{◌∙◌, sym, le-ltb, lt-ltb}
use Rattle.std.proofs.Math.Path.{refl}
use Rattle.std.proofs.Math.Bool.{false, true}
use Rattle.std.proofs.Math.Dec.{ltb}
use Rattle.basics.specs.Lists.{put_front}
use Rattle.basics.specs.Refusals.{no_refusal, refuse}
use Rattle.places.specs.Limits.{bin_limit}
use Rattle.unbuild.specs.Code.Answers.{AnswersBy, bare, refusalBy}
use Rattle.unbuild.specs.declared.Unbuilding.{Unbuilding}

module _ (b c bin cfg : List ℕ) where
  pub answers-unfit : AnswersBy true b c bin cfg (bare (refuse 31 0)) bin cfg
  unfolding refusalBy
  answers-unfit = record { answer = refl; bin-after = refl; cfg-after = refl }

  -- whatever the BIN and the CFG would be
  pub unfit-any : (d e : List ℕ) (r : Unbuilding) (bin' cfg' : List ℕ) → AnswersBy true b c bin cfg r bin' cfg' → AnswersBy true d e bin cfg r bin' cfg'
  unfolding refusalBy
  unfit-any d e r bin' cfg' a = record { answer = a.answer; bin-after = a.bin-after; cfg-after = a.cfg-after }

  pub answers-long : bin_limit < length b → AnswersBy false b c bin cfg (bare (refuse 32 0)) bin cfg
  unfolding refusalBy
  answers-long h = record { answer = rw (lt-ltb bin_limit (length b) h); bin-after = rw (lt-ltb bin_limit (length b) h); cfg-after = rw (lt-ltb bin_limit (length b) h) }

  module _ (h : length b ≤ bin_limit) (n m : ℕ) (en : n ≡ length b) (em : m ≡ length c) (s : Bool) (es : s ≡ (ltb (length bin) n || ltb (length cfg) m)) where
    pub answers-short : s ≡ true → AnswersBy false b c bin cfg (record { refusal = refuse 29 0; bin = n; cfg = m }) bin cfg
    unfolding refusalBy
    answers-short e =
        let t : ltb (length bin) (length b) || ltb (length cfg) (length c) ≡ true = rw (← en, ← em) (sym es ∙ e) in
        record { answer = rw (le-ltb bin_limit (length b) h, t, en, em); bin-after = rw (le-ltb bin_limit (length b) h, t); cfg-after = rw (le-ltb bin_limit (length b) h, t) }

    pub answers-written : s ≡ false → (bin' cfg' : List ℕ) → bin' ≡ put_front b bin → cfg' ≡ put_front c cfg
        → AnswersBy false b c bin cfg (record { refusal = no_refusal; bin = n; cfg = m }) bin' cfg'
    unfolding refusalBy
    answers-written e bin' cfg' eb ec =
        let t : ltb (length bin) (length b) || ltb (length cfg) (length c) ≡ false = rw (← en, ← em) (sym es ∙ e) in
        record {
          answer = rw (le-ltb bin_limit (length b) h, t, en, em);
          bin-after = eb ∙ rw (le-ltb bin_limit (length b) h, t);
          cfg-after = ec ∙ rw (le-ltb bin_limit (length b) h, t);
        }
