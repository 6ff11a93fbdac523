-- One law for each return of the functions on one block, and of the load.
use Prim.Native.Nat.{ℕ, ◌+◌, ◌-◌, ◌^◌, ◌<◌, ◌≤◌}
use mathlib.Core.Path.{◌≡◌, sym, ap, ◌∙◌}
use mathlib.Core.List.{List}
use mathlib.Core.Bool.{Bool, true, false}
use native.Mathlib.Omega.{arith}
use borrow.Author.Tests.{eq-eqb, ne_eqb}
use lib.ListN.{length}
use mir.Val.{Fits}
use mir.Syntax.{w64}
use Rattle.std.specs.Prelude.{Option, Some, None, Result, Ok, Err}
use Rattle.std.specs.Option.{is_some}
use Rattle.basics.specs.declared.Refusal.{Refusal}
use Rattle.basics.specs.Laws.Outcomes.{outcome_err, ok_none, ok_value, err_is, err_some}
use Rattle.basics.specs.Lists.{part}
use Rattle.basics.specs.Refusals.{refuse, passes, passed}
use Rattle.basics.specs.Laws.Lists.{length_part}
use Rattle.places.specs.Limits.{lent}
use Rattle.sums.specs.Crc.{crc324_of}
use Rattle.header.specs.declared.Compat.{Compat}
use Rattle.header.specs.Header.{flags_of}
use Rattle.header.specs.Flags.{compat_of}
use Rattle.cart.specs.declared.Cartridge.{Cartridge}
use Rattle.tables.specs.Tables.{jlp_of, cartridge_of, flash_words, tables_refusal}
use Rattle.tables.specs.Laws.Tables.{cartridge_flips}
use Rattle.blocks.specs.declared.Frame.{Frame}
use Rattle.blocks.specs.declared.Frame.TheVariants.{Over, Cut, Framed}
use Rattle.blocks.specs.Judged.{Judged}
use Rattle.blocks.specs.Blocks.{payload_in}
use Rattle.blocks.specs.Frames.{frame_at}
use Rattle.blocks.specs.Images.{blocks_in}
use Rattle.blocks.specs.Judged.{verdict}
use Rattle.blocks.specs.Laws.Frames.{FrameIs, frame_held}
use Rattle.blocks.proofs.Theorems.Judged.{standing, judged_standing, judged_within}
use Rattle.load.specs.Code.Passes.{judgement_of, tables_after, next_at, step_of, tables_at, end_refusal, loaded_by, finished_of, finished_ram_of}
use Rattle.load.specs.declared.Found.{Found}
use Rattle.load.specs.Load.{hunks_laid}

-- a frame's block lies in the image
module _ (s : List ℕ) (p : ℕ) (f : Frame) (ef : f ≡ frame_at s p) (t q : ℕ) (e : f ≡ Framed t q) where
  frame : FrameIs s p t q
  frame = frame_held s p t q (sym ef ∙ e)

  pub frame_later : p ≤ q
  frame_later = omega (arith, frame.starts)

  pub frame_inside : q ≤ length s
  frame_inside = frame.ends

-- one step
module _ (s : List ℕ) (m : ℕ) (tables : Option ℕ) (p : ℕ) (f : Frame) (ef : f ≡ frame_at s p) where
  pub step_over : f ≡ Over → Ok None ≡ step_of s m tables p
  unfolding step_of
  step_over e = rw (← ef, e)

  pub step_cut : f ≡ Cut → (r : Refusal) → r ≡ refuse 5 p → Err r ≡ step_of s m tables p
  unfolding step_of
  step_cut e r er = rw (← ef, e, er)

  module _ (t q : ℕ) (e : f ≡ Framed t q) (b : Bool) (eb : b ≡ is_some tables) (v : Result ℕ Refusal) (ev : v ≡ verdict (judgement_of m b 0 (part s p q))) where
    abbrev j : Judged
    j = judgement_of m (is_some tables) 0 (part s p q)

    here : v ≡ verdict j
    here = ev ∙ ap (λ (c : Bool). verdict (judgement_of m c 0 (part s p q))) eb

    -- the block's judgement where it stands, by its judgement by itself
    at_p : judgement_of m (is_some tables) p (part s p q) ≡ standing p j
    at_p = judged_standing m (is_some tables) p _ (part s p q)

    pub step_bad : (r : Refusal) → v ≡ Err r → (r₂ : Refusal) → r₂ ≡ refuse r.number (p + r.place) → Err r₂ ≡ step_of s m tables p
    unfolding step_of
    step_bad r w r₂ k =
        let n : j.refusal.number ≡ 0 → ⊥ = err_some j.refusal j.words r (sym here ∙ w) in
        let i : j.refusal ≡ r = err_is j.refusal j.words r (sym here ∙ w) in
        let o : passes j.refusal ≡ false = ne_eqb _ _ n in
        rw (← ef, e, at_p, o, k, ← i) (rw (ne_eqb _ _ n))

    pub step_good : (n : ℕ) → v ≡ Ok n → (u : Option ℕ) → u ≡ tables_after tables p t → Ok (Some (next_at q u n)) ≡ step_of s m tables p
    unfolding step_of
    step_good n w u k =
        let z : j.refusal.number ≡ 0 = ok_none j.refusal j.words n (sym here ∙ w) in
        let i : j.words ≡ n = ok_value j.refusal j.words n (sym here ∙ w) in
        let o : passes j.refusal ≡ true = eq-eqb _ _ z in
        rw (← ef, e, at_p, o, k, ← i) (rw o)

    pub place_fits : (r : Refusal) → v ≡ Err r → length s < 2 ^ 64 → Fits w64 (p + r.place)
    place_fits r w l =
        let d : FrameIs s p t q = frame s p f ef t q e in
        let x : length (part s p q) ≡ q - p = length_part s p q d.ends in
        let i : j.refusal ≡ r = err_is j.refusal j.words r (sym here ∙ w) in
        let y : r.place ≤ length (part s p q) = rw i at (judged_within m (is_some tables) (crc324_of (payload_in (part s p q))) (part s p q) (omega (arith, d.starts))) in
        omega (arith, y, x, d.starts, d.ends)

pub ruleset steps = (step_over, step_cut, step_bad, step_good)

-- what is refused behind the blocks, of the cartridge that is made of the tables block
pub end_judged :
    (s : List ℕ) (t : ℕ) (c : Cartridge) → c ≡ cartridge_of (jlp_of (flags_of s)) (tables_at s t) → (m f : ℕ)
    → tables_refusal (flags_of s) c.flips m f ≡ end_refusal s t m f
end_judged s t c ec m f =
    ap (λ (flips : List ℕ). tables_refusal (flags_of s) flips m f) (ap (λ (d : Cartridge). d.flips) ec ∙ cartridge_flips (jlp_of (flags_of s)) (tables_at s t))

module _ (s : List ℕ) (found : Found) (f : ℕ) (ram : List ℕ) (c : Cartridge) (ec : c ≡ cartridge_of (jlp_of (flags_of s)) (tables_at s found.tables))
    (m : ℕ) (em : m ≡ lent ram) (flags : List ℕ) (ef : flags ≡ flags_of s) where
  end_is : tables_refusal flags c.flips m f ≡ end_refusal s found.tables (lent ram) f
  end_is = rw (ef, em) (end_judged s found.tables c ec (lent ram) f)

  pub refused_so : (r : Refusal) → passed (tables_refusal flags c.flips m f) ≡ Err r → (Err r ≡ finished_of s (lent ram) f found) × (ram ≡ finished_ram_of s found.tables ram f)
  unfolding finished_of finished_ram_of
  refused_so r e =
      let q : passed (end_refusal s found.tables (lent ram) f) ≡ Err r = rw end_is at e in
      let n : (end_refusal s found.tables (lent ram) f).number ≡ 0 → ⊥ = err_some _ tt r q in
      (sym (outcome_err (end_refusal s found.tables (lent ram) f) (loaded_by s found) n ∙ ap Err (err_is _ tt r q)), rw (ne_eqb _ _ n))

  pub loaded_so : (u : Unit {0}) → passed (tables_refusal flags c.flips m f) ≡ Ok u → (k : Compat) → k ≡ compat_of flags → (after : List ℕ)
      → after ≡ hunks_laid (blocks_in s) ram
      → (Ok (record { cartridge = c; compat = k; blocks = found.blocks; words = found.words }) ≡ finished_of s (lent ram) f found) × (after ≡ finished_ram_of s found.tables ram f)
  unfolding finished_of finished_ram_of
  loaded_so u e k ek after ea =
      let q : passed (end_refusal s found.tables (lent ram) f) ≡ Ok u = rw end_is at e in
      let z : (end_refusal s found.tables (lent ram) f).number ≡ 0 = ok_none _ tt u q in
      (rw (eq-eqb _ _ z, ec, ek, ef), rw (eq-eqb _ _ z) ea)

-- the same refusals where the flash is of the size that the flags say
pub size_judged :
    (s : List ℕ) (t : ℕ) (c : Cartridge) → c ≡ cartridge_of (jlp_of (flags_of s)) (tables_at s t) → (m : ℕ) (flags : List ℕ) → flags ≡ flags_of s → (f : ℕ) → f ≡ flash_words flags
    → (v : Result (Unit {0}) Refusal) → v ≡ passed (tables_refusal flags c.flips m f) → v ≡ passed (end_refusal s t m (flash_words (flags_of s)))
size_judged s t c ec m flags ef f el v ev = ev ∙ rw (el, ef) (ap passed (end_judged s t c ec m (flash_words (flags_of s))))
