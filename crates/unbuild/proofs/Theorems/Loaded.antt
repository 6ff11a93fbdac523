-- An image that loads and has JLP field 0, loaded into zeros and into ones with no flash: what is retraced of it is the plan behind it.
use Rattle.std.specs.Prelude.{◌*◌, ◌+◌, ◌<◌, ◌≤◌, ℕ, List, ◌≡◌, refl, Bool, false, eqb, leb, get_or, length}
use Rattle.std.proofs.Common.{◌∙◌, sym, arith}
use Rattle.std.proofs.Math.Path.{ap, subst}
use Rattle.std.proofs.Math.Bool.{not, true}
use borrow.Author.Tests.{eq-eqb, leb-true, lt-leb}
use Rattle.basics.specs.Laws.Counts.{all_at, all_same}
use Rattle.basics.specs.Laws.Tables.{length_table}
use Rattle.basics.specs.Laws.Tests.{and_left, and_right, cases, not-false}
use Rattle.basics.specs.Tables.{table}
use Rattle.basics.specs.declared.Refusal.{Refusal}
use Rattle.places.specs.Limits.{lent, lent_limit, line_limit, locutus_paragraphs}
use Rattle.header.specs.Flags.{jlp_field}
use Rattle.header.specs.Header.{flags_of}
use Rattle.tables.specs.Laws.Refusals.{lent_alike}
use Rattle.tables.specs.Tables.{Tables, cartridge_of, mislent, tables, tables_in}
use Rattle.blocks.specs.Images.{blocks_in, payload_of_tables}
use Rattle.load.proofs.Theorems.Ram.{laid}
use Rattle.load.specs.Laws.Refusals.{answer_refusal}
use Rattle.load.specs.Load.{flash_asked, hunks_laid, load_ram_of, loading_of, loads, refusal_by_size, refusal_of}
use Rattle.load.specs.Load.{Loading}
use Rattle.plan.specs.Fewest.{fewest}
use Rattle.plan.specs.Plan.{Plan}
use Rattle.behind.specs.Behind.{behind}
use Rattle.behind.proofs.Theorems.Behind.{behind_valid}
use Rattle.canon.specs.Bin.{canonical_bin}
use Rattle.canon.proofs.Theorems.Good.{length_lines}
use Rattle.ledger.specs.Code.Lists.{listing_of}
use Rattle.ledger.specs.Held.{plan_in, words_in}
use Rattle.retrace.specs.Code.Named.{named_in, word_named}
use Rattle.retrace.specs.Code.Shown.{marked_in, sketch_of}
use Rattle.retrace.specs.Laws.Behind.{marked_all}
use Rattle.rebuild.specs.Code.Retraced.{plan_named, retraced_of}
use Rattle.rebuild.specs.Fits.{fits, lines_fit, names_fit, ram_fits}
use Rattle.rebuild.specs.Laws.Same.{bin_same, in_arrays}
use Rattle.rebuild.specs.declared.Retraced.{Retraced}
use Rattle.unbuild.specs.Behind.{bin_behind, cfg_behind, names_paragraph, plan_behind, rebuilds, unbuildable}
use Rattle.unbuild.specs.Code.Answers.{AnswersBy, bin_in, cfgIn}
use Rattle.unbuild.specs.Content.{image_jlp, image_tables, loaded_word, names_word, whole_ram}
use Rattle.unbuild.specs.Laws.Answers.{unfit-any}
use Rattle.unbuild.specs.Laws.Named.{names_below}
use Rattle.unbuild.specs.Laws.Two.{lent_ones, names_two, whole_ones}
use Rattle.unbuild.specs.Laws.Written.{cfg_in}
use Rattle.unbuild.specs.declared.Unbuilding.{Unbuilding}

-- with JLP field 0 no flash is asked
module _ (s : List ℕ) (jlp : image_jlp s ≡ 0) where
  none_asked : mislent (flags_of s) 0 ≡ false
  unfolding mislent
  none_asked = rw (lt-leb 2 (jlp_field (flags_of s)) (omega arith))

  pub refusal_alike : (m : ℕ) → refusal_of s m 0 ≡ refusal_by_size s m
  unfolding refusal_of
  refusal_alike m = rw (lent_alike (flags_of s) (tables_in (payload_of_tables (blocks_in s))).flips m 0 none_asked)

  pub loading_alike : (m : ℕ) → loading_of s m 0 ≡ loading_of s m (flash_asked s)
  unfolding loading_of
  loading_alike m = rw (refusal_alike m)

  pub ram_alike : (ram : List ℕ) → load_ram_of s ram 0 ≡ load_ram_of s ram (flash_asked s)
  unfolding load_ram_of
  ram_alike ram = rw (refusal_alike (lent ram))

module _ (s : List ℕ) (loaded : (loading_of s lent_limit (flash_asked s)).refusal.number ≡ 0) (jlp : image_jlp s ≡ 0) where
  abbrev zeros : List ℕ
  zeros = load_ram_of s whole_ram 0

  abbrev ones : List ℕ
  ones = load_ram_of s whole_ones 0

  bare_load : (loading_of s lent_limit 0).refusal.number ≡ 0
  bare_load = rw (loading_alike s jlp lent_limit) loaded

  pub laid_ones : hunks_laid (blocks_in s) whole_ones ≡ ones
  laid_ones = laid s whole_ones 0 (rw lent_ones bare_load)

  word_named_lem : (i : ℕ) → i < lent_limit → word_named zeros ones i ≡ names_word s i
  word_named_lem i h = sym (names_two s 0 bare_load i h)

  words_are : words_in zeros ≡ loaded_word s
  words_are = ap {B = ℕ → ℕ} (λ (r : List ℕ) (i : ℕ). get_or r i 0) (ram_alike s jlp whole_ram)

  named_past : (p : ℕ) → locutus_paragraphs ≤ p → names_paragraph s p ≡ false
  named_past p h =
      cases (names_paragraph s p)
      (λ e. absurd (omega (arith, names_below s loaded (256 * p + 0) (all_at 256 (λ i. names_word s (256 * p + i)) e 0 (omega arith)))))
      (λ e. e)

  marks_are : marked_in (table locutus_paragraphs (named_in zeros ones)) ≡ names_paragraph s
  marks_are =
      marked_all (named_in zeros ones) (names_paragraph s)
      (λ p h. all_same 256 (λ i. word_named zeros ones (256 * p + i)) (λ i. names_word s (256 * p + i)) (λ i l. word_named_lem (256 * p + i) (omega arith))) named_past

  plan_is : plan_named (image_tables s) zeros ones ≡ plan_behind s
  plan_is = ap (behind (image_tables s)) marks_are

  abbrev q : Plan
  q = plan_behind s

  fits_are : fits q (image_tables s) (word_named zeros ones) (words_in zeros) ≡ fits q (image_tables s) (names_word s) (loaded_word s)
  unfolding fits
  fits_are =
      let n : names_fit q (word_named zeros ones) ≡ names_fit q (names_word s) = all_same lent_limit _ _ (λ i h. rw (word_named_lem i h)) in
      let r : ram_fits q (words_in zeros) ≡ ram_fits q (loaded_word s) = ap (ram_fits q) words_are in
      rw (n, r)

  unfit_is : (f : Bool) → f ≡ fits q (image_tables s) (word_named zeros ones) (words_in zeros) → not f ≡ unbuildable s
  unfolding unbuildable rebuilds
  unfit_is f e = rw (eq-eqb (image_jlp s) 0 jlp) (ap not (e ∙ fits_are))

  -- the tables of the cartridge that is loaded
  passes_load : loads s lent_limit 0 ≡ true
  passes_load = eq-eqb (refusal_of s lent_limit 0).number 0 (ap (λ (r : Refusal). r.number) (sym (answer_refusal s lent_limit 0)) ∙ bare_load)

  pub tables_loaded : (l : Loading) → l ≡ loading_of s lent_limit 0
      → tables l.cartridge.initial_mapping l.cartridge.initial_permissions l.cartridge.flips ≡ image_tables s
  unfolding loading_of cartridge_of
  tables_loaded l e = rw (e, passes_load)

  -- what is retraced
  few_lines : fits q (image_tables s) (names_word s) (loaded_word s) ≡ true → fewest q ≤ line_limit
  unfolding fits
  few_lines e =
      let l : lines_fit q ≡ true = and_left (lines_fit q) _ e in
      leb-true (fewest q) line_limit (and_left (leb (fewest q) line_limit) _ (and_right (leb 1 (fewest q)) _ l))

  permissions_long : length (image_tables s).permissions ≡ 256
  unfolding tables_in
  permissions_long = length_table 256 _

  flips_long : length (image_tables s).flips ≡ 256
  unfolding tables_in
  flips_long = length_table 256 _

  retraced : Retraced
  retraced = record { sketch = sketch_of q; listing = listing_of q; fits = fits q (image_tables s) (word_named zeros ones) (words_in zeros) }

  retraced_so : retraced_of (image_tables s) zeros ones ≡ retraced
  unfolding retraced_of retraced
  retraced_so = rw plan_is

  bin_is : bin_in (sketch_of q) zeros ≡ bin_behind s
  bin_is =
      bin_same (plan_in (sketch_of q).kinds (sketch_of q).pages) q (in_arrays (image_tables s) (names_paragraph s) permissions_long flips_long) (words_in zeros)
      ∙ ap (canonical_bin q) words_are

  cfg_is : unbuildable s ≡ false → cfgIn (listing_of q) ≡ cfg_behind s
  unfolding unbuildable rebuilds
  cfg_is e =
      let f : fits q (image_tables s) (names_word s) (loaded_word s) ≡ true = and_right (eqb (image_jlp s) 0) _ (not-false _ e) in
      cfg_in q (omega (arith, few_lines f, length_lines q (behind_valid (image_tables s) (names_paragraph s))))

  module _ (bin cfg : List ℕ) (r : Unbuilding) (bin' cfg' : List ℕ) where
    answers_fit : AnswersBy (unbuildable s) (bin_in (sketch_of q) zeros) (cfgIn (listing_of q)) bin cfg r bin' cfg' → AnswersBy (unbuildable s) (bin_behind s) (cfg_behind s) bin cfg r bin' cfg'
    answers_fit a =
        cases (unbuildable s) (λ e. rw e (unfit-any _ _ bin cfg (bin_behind s) (cfg_behind s) r bin' cfg' (rw e at a)))
        (λ e. subst (λ (x : List ℕ). AnswersBy (unbuildable s) (bin_behind s) x bin cfg r bin' cfg') (cfg_is e)
        (subst (λ (x : List ℕ). AnswersBy (unbuildable s) x (cfgIn (listing_of q)) bin cfg r bin' cfg') bin_is a))

    pub answers_loaded : (t : Tables) (k : Retraced) → t ≡ image_tables s → k ≡ retraced_of t zeros ones → AnswersBy (not k.fits) (bin_in k.sketch zeros) (cfgIn k.listing) bin cfg r bin' cfg'
        → AnswersBy (unbuildable s) (bin_behind s) (cfg_behind s) bin cfg r bin' cfg'
    unfolding retraced
    answers_loaded t k et ek a =
        let e : k ≡ retraced = ek ∙ ap (λ (x : Tables). retraced_of x zeros ones) et ∙ retraced_so in
        let b : AnswersBy (not retraced.fits) (bin_in retraced.sketch zeros) (cfgIn retraced.listing) bin cfg r bin' cfg' =
        subst (λ (x : Retraced). AnswersBy (not x.fits) (bin_in x.sketch zeros) (cfgIn x.listing) bin cfg r bin' cfg') e a in
        answers_fit (subst (λ (u : Bool). AnswersBy u (bin_in (sketch_of q) zeros) (cfgIn (listing_of q)) bin cfg r bin' cfg') (unfit_is retraced.fits refl) b)
