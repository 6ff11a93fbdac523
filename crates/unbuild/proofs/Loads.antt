-- The load into zeros, which judges an image, its hunks laid over ones, and what is retraced by them.
use Prim.Native.Nat.{ℕ}
use mathlib.Core.List.{List, []}
use mathlib.Core.Path.{◌∙◌, ◌≡◌, ap, refl, sym}
use mathlib.Core.Bool.{not}
use lib.ListN.{replicate}
use borrow.Author.Tests.{eq-eqb, ne_eqb}
use Rattle.basics.specs.Refusals.{refuse, no_refusal, passed}
use Rattle.basics.specs.declared.Refusal.{Refusal}
use Rattle.places.specs.Limits.{lent, lent_limit}
use Rattle.tables.specs.Tables.{tables}
use Rattle.blocks.specs.Images.{blocks_in}
use Rattle.load.specs.Laws.Refusals.{answer_refusal}
use Rattle.std.specs.Prelude.{Result, Ok, Err}
use Rattle.basics.specs.Laws.Outcomes.{ok_none, err_is, err_some}
use Rattle.cart.specs.declared.Cartridge.{Cartridge}
use Rattle.load.specs.declared.Loaded.{Loaded}
use Rattle.load.specs.Load.{Loading, refused, load_answer, loading_from, hunks_laid, load_ram_of, loading_of, refusal_by_size}
use Rattle.load.specs.Laws.Answers.{loading_ok, loading_err, err_refuses}
use Rattle.rebuild.specs.Code.Retraced.{retraced_of}
use Rattle.rebuild.specs.declared.Retraced.{Retraced}
use Rattle.unbuild.specs.Behind.{bin_behind, cfg_behind, unbuildable}
use Rattle.unbuild.specs.Code.Answers.{Answered, AnswersBy, Plain, bare, bin_in, cfgIn, refusalAccelerated}
use Rattle.unbuild.specs.Content.{image_jlp, image_tables, whole_ram}
use Rattle.unbuild.proofs.Theorems.Loaded.{answers_loaded, laid_ones, refusal_alike, tables_loaded}
use Rattle.unbuild.specs.Laws.Named.{lent_whole}
use Rattle.unbuild.specs.Laws.Two.{whole_ones}
use Rattle.unbuild.proofs.Theorems.Unbuilt.{answered, answered_load, load_passes}
use Rattle.unbuild.specs.declared.Unbuilding.{Unbuilding}

pub whole_zeros : (r : List ℕ) → r ≡ replicate lent_limit 0 → r ≡ whole_ram
unfolding whole_ram
whole_zeros r e = e

pub whole_ones_lem : (r : List ℕ) → r ≡ replicate lent_limit 0xFFFF → r ≡ whole_ones
unfolding whole_ones
whole_ones_lem r e = e

-- what is refused of an image that has accelerators
module _ (s : List ℕ) (v : Result (Unit {0}) Refusal) (ev : v ≡ passed (refusal_by_size s lent_limit)) where
  pub accelerated_load : (r : Refusal) → v ≡ Err r → r ≡ refusalAccelerated s
  accelerated_load r e =
      let q : passed (refusal_by_size s lent_limit) ≡ Err r = sym ev ∙ e in
      rw (ne_eqb _ _ (err_some (refusal_by_size s lent_limit) tt r q)) (sym (err_is (refusal_by_size s lent_limit) tt r q))

  pub accelerated_loads : (u : Unit {0}) → v ≡ Ok u → (w : Refusal) → w ≡ refuse 31 0 → w ≡ refusalAccelerated s
  accelerated_loads u e w ew = ew ∙ rw (eq-eqb _ _ (ok_none (refusal_by_size s lent_limit) tt u (sym ev ∙ e)))

-- the load into zeros judges an image that has none
module _ (s zs : List ℕ) (jlp : image_jlp s ≡ 0) (ez : zs ≡ whole_ram) (v : Result Loaded Refusal) (ev : v ≡ load_answer (loading_of s (lent zs) 0)) where
  whole : v ≡ load_answer (loading_of s lent_limit 0)
  whole = ev ∙ rw (ez, lent_whole)

  alike : (l : Loading) → l ≡ loading_of s lent_limit 0 → l.refusal ≡ refusal_by_size s lent_limit
  alike l el = ap (λ (x : Loading). x.refusal) el ∙ answer_refusal s lent_limit 0 ∙ refusal_alike s jlp lent_limit

  pub load_refuses : (r : Refusal) → v ≡ Err r → (bin cfg : List ℕ) (u : Unbuilding) → u ≡ bare r → Answered s bin cfg u bin cfg
  load_refuses r e bin cfg u eu =
      answered_load s bin cfg r (alike (refused r) (loading_err s lent_limit 0 v whole r e)) (err_refuses s lent_limit 0 v whole r e) u eu

  module _ (l : Loaded) (e : v ≡ Ok l) where
    is : loading_from (Ok l) ≡ loading_of s lent_limit 0
    is = loading_ok s lent_limit 0 v whole l e

    pub cartridge_is : l.cartridge ≡ (loading_of s lent_limit 0).cartridge
    cartridge_is = ap (λ (x : Loading). x.cartridge) is

    pub load_plain : Plain s
    load_plain = record { loaded = load_passes s [] [] no_refusal (alike (loading_from (Ok l)) is) refl; jlp = jlp }

    pub load_answers : (bin cfg : List ℕ) (u : Unbuilding) (bin' cfg' : List ℕ)
        → AnswersBy (unbuildable s) (bin_behind s) (cfg_behind s) bin cfg u bin' cfg' → Answered s bin cfg u bin' cfg'
    load_answers bin cfg u bin' cfg' a = answered s bin cfg load_plain.loaded u bin' cfg' a

pub zeros_loaded : (s zs zs₀ : List ℕ) → zs₀ ≡ whole_ram → zs ≡ load_ram_of s zs₀ 0 → zs ≡ load_ram_of s whole_ram 0
zeros_loaded s zs zs₀ e h = h ∙ rw e

-- its hunks laid over ones, and what is retraced
module _ (s : List ℕ) (p : Plain s) where
  pub ones_laid : (os os₀ : List ℕ) → os₀ ≡ whole_ones → os ≡ hunks_laid (blocks_in s) os₀ → os ≡ load_ram_of s whole_ones 0
  ones_laid os os₀ e h = h ∙ rw e (laid_ones s p.loaded p.jlp)

  pub retraced_loaded : (zs os : List ℕ) (c : Cartridge) (k : Retraced) → c ≡ (loading_of s lent_limit 0).cartridge
      → k ≡ retraced_of (tables c.initial_mapping c.initial_permissions c.flips) zs os → k ≡ retraced_of (image_tables s) zs os
  retraced_loaded zs os c k ec ek = ek ∙ rw (ec, tables_loaded s p.loaded p.jlp (loading_of s lent_limit 0) refl)

  pub answers_plain : (zs os bin cfg : List ℕ) (k : Retraced) (r : Unbuilding) (bin' cfg' : List ℕ) → zs ≡ load_ram_of s whole_ram 0 → os ≡ load_ram_of s whole_ones 0
      → k ≡ retraced_of (image_tables s) zs os → AnswersBy (not k.fits) (bin_in k.sketch zs) (cfgIn k.listing) bin cfg r bin' cfg'
      → AnswersBy (unbuildable s) (bin_behind s) (cfg_behind s) bin cfg r bin' cfg'
  answers_plain zs os bin cfg k r bin' cfg' ez eo ek a =
      answers_loaded s p.loaded p.jlp bin cfg r bin' cfg' (image_tables s) k refl (ek ∙ rw (ez, eo)) (rw ez at a)
