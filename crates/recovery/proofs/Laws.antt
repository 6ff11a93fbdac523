-- One law for each return of the functions on one block, and of the salvage.
use Prim.Native.Nat.{ℕ, ◌+◌, ◌-◌, ◌^◌, ◌<◌, ◌≤◌}
use mathlib.Core.Path.{◌≡◌, sym, ◌∙◌}
use mathlib.Core.List.{List}
use mathlib.Core.Bool.{Bool, true, false, not}
use native.Mathlib.Omega.{arith}
use borrow.Author.Tests.{eq-eqb, ne_eqb}
use lib.ListN.{length, get_or}
use lib.Dec.{eqb}
use mir.Val.{Fits}
use mir.Syntax.{w64}
use Rattle.std.specs.Prelude.{Some, None, Result, Ok, Err}
use Rattle.std.specs.Result.{is_err}
use Rattle.basics.specs.declared.Refusal.{Refusal}
use Rattle.basics.specs.Laws.Outcomes.{ok_none, err_is, err_some}
use Rattle.basics.specs.Lists.{part}
use Rattle.basics.specs.Refusals.{refuse, passes}
use Rattle.basics.specs.Laws.Lists.{length_part}
use Rattle.basics.specs.Laws.Tests.{cases}
use Rattle.places.specs.Limits.{lent_limit}
use Rattle.sums.specs.Crc.{crc324_of}
use Rattle.blocks.specs.declared.Frame.{Frame}
use Rattle.blocks.specs.declared.Frame.TheVariants.{Over, Cut, Framed}
use Rattle.blocks.specs.Judged.{Judged}
use Rattle.blocks.specs.Blocks.{payload_in}
use Rattle.blocks.specs.Frames.{frame_at}
use Rattle.blocks.specs.Judged.{verdict}
use Rattle.blocks.specs.Laws.Frames.{FrameIs, frame_held}
use Rattle.blocks.proofs.Theorems.Judged.{standing, judged_standing, judged_within}
use Rattle.load.specs.Code.Passes.{judgement_of}
use Rattle.recovery.specs.declared.Step.TheVariants.{Stops, Keeps, Drops}
use Rattle.recovery.specs.Salvage.{left_out}
use Rattle.recovery.specs.Laws.Kept.{other_kept, left_out_is}
use Rattle.recovery.specs.Code.Passes.{step_of}

-- ---- a block by itself

module _ (x : List ℕ) (t : ℕ) (et : t ≡ get_or x 0 0) where
  pub out_other : (t ≡ 2 → ⊥) → false ≡ left_out x
  out_other n = sym (other_kept x (ne_eqb _ _ (rw et at n)))

  -- an error is a refusal, whose number is not 0
  erring : (j : Judged) → is_err (verdict j) ≡ not (eqb j.refusal.number 0)
  erring j = cases (passes j.refusal) (λ p. rw p) (λ p. rw p)

  pub out_hunk : t ≡ 2 → (v : Result ℕ Refusal) → v ≡ verdict (judgement_of lent_limit false 0 x) → (b : Bool) → b ≡ is_err v → b ≡ left_out x
  out_hunk h v ev b eb = eb ∙ rw ev (erring (judgement_of lent_limit false 0 x)) ∙ sym (left_out_is x (eq-eqb _ _ (sym et ∙ h)))

-- ---- a step

-- a frame's block lies in the image
module _ (s : List ℕ) (p : ℕ) (f : Frame) (ef : f ≡ frame_at s p) (t q : ℕ) (e : f ≡ Framed t q) where
  frame : FrameIs s p t q
  frame = frame_held s p t q (sym ef ∙ e)

  pub frame_later : p ≤ q
  frame_later = omega (arith, frame.starts)

  pub frame_inside : q ≤ length s
  frame_inside = frame.ends

module _ (s : List ℕ) (earlier : Bool) (p : ℕ) (f : Frame) (ef : f ≡ frame_at s p) where
  pub step_over : f ≡ Over → Ok (Stops None) ≡ step_of s earlier p
  unfolding step_of
  step_over e = rw (← ef, e)

  pub step_cut : f ≡ Cut → Ok (Stops (Some p)) ≡ step_of s earlier p
  unfolding step_of
  step_cut e = rw (← ef, e)

  module _ (t q : ℕ) (e : f ≡ Framed t q) (v : Result ℕ Refusal) (ev : v ≡ verdict (judgement_of lent_limit earlier 0 (part s p q))) where
    abbrev j : Judged
    j = judgement_of lent_limit earlier 0 (part s p q)

    at_p : judgement_of lent_limit earlier p (part s p q) ≡ standing p j
    at_p = judged_standing lent_limit earlier p _ (part s p q)

    pub step_keeps : (n : ℕ) → v ≡ Ok n → Ok (Keeps t q) ≡ step_of s earlier p
    unfolding step_of
    step_keeps n w =
        let o : passes j.refusal ≡ true = eq-eqb _ _ (ok_none j.refusal j.words n (sym ev ∙ w)) in
        rw (← ef, e, at_p, o) (rw o)

    module _ (r : Refusal) (w : v ≡ Err r) where
      bad : passes j.refusal ≡ false
      bad = ne_eqb _ _ (err_some j.refusal j.words r (sym ev ∙ w))

      is : j.refusal ≡ r
      is = err_is j.refusal j.words r (sym ev ∙ w)

      pub step_drops : t ≡ 2 → Ok (Drops q) ≡ step_of s earlier p
      unfolding step_of
      step_drops k = rw (← ef, e, at_p, bad) (rw (bad, k))

      pub step_no : (t ≡ 2 → ⊥) → (o : Refusal) → o ≡ refuse r.number (p + r.place) → Err o ≡ step_of s earlier p
      unfolding step_of
      step_no k o eo = rw (← ef, e, at_p, bad, eo, ← is) (rw (bad, ne_eqb _ _ k))

      pub place_fits : length s < 2 ^ 64 → Fits w64 (p + r.place)
      place_fits l =
          let i : FrameIs s p t q = frame s p f ef t q e in
          let x : length (part s p q) ≡ q - p = length_part s p q i.ends in
          let y : r.place ≤ length (part s p q) =
          rw is at (judged_within lent_limit earlier (crc324_of (payload_in (part s p q))) (part s p q) (omega (arith, i.starts))) in
          omega (arith, y, x, i.starts, i.ends)

pub ruleset steps = (step_over, step_cut, step_keeps, step_drops, step_no)
