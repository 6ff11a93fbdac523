-- What is answered of a BIN and a CFG, and left in the two buffers, where they build the image or do not: 31, 32, 29, or both written.
use Rattle.std.specs.Prelude.{ℕ, List, [], ◌∷◌, ◌≡◌, Bool, ◌||◌, cond, eqb, ltb, length}
use Rattle.basics.specs.Lists.{put_front}
use Rattle.basics.specs.Refusals.{first_refusal, passes, refuse}
use Rattle.basics.specs.declared.Refusal.{Refusal}
use Rattle.places.specs.Limits.{bin_limit, lent_limit}
use Rattle.load.specs.Load.{flash_asked, loading_of, refusal_by_size}
use Rattle.canon.specs.Bin.{canonical_bin}
use Rattle.ledger.specs.Held.{plan_in, words_in}
use Rattle.ledger.specs.declared.Listing.{Listing}
use Rattle.ledger.specs.declared.Sketch.{Sketch}
use Rattle.sheet.specs.Code.Sheets.{cfg_lines}
use Rattle.unbuild.specs.Content.{image_jlp}
use Rattle.unbuild.specs.Unbuild.{bin_after, cfg_after, unbuilding_of}
use Rattle.unbuild.specs.declared.Unbuilding.{Unbuilding}

-- an image that loads and asks no accelerators
pub record Plain (s : List ℕ) : Type 0 where
  pub loaded : (loading_of s lent_limit (flash_asked s)).refusal.number ≡ 0
  pub jlp : image_jlp s ≡ 0

-- all that is promised of an image and two buffers
abbrev pub Answered : List ℕ → List ℕ → List ℕ → Unbuilding → List ℕ → List ℕ → Type 0
Answered s bin cfg r bin' cfg' = (r ≡ unbuilding_of s bin cfg) × (bin' ≡ bin_after s bin cfg) × (cfg' ≡ cfg_after s bin cfg)

-- what is refused of an image that asks accelerators: what its load refuses, 13 by its size; else 31
abbrev pub refusalAccelerated : List ℕ → Refusal
refusalAccelerated s = cond (passes (refusal_by_size s lent_limit)) (refuse 31 0) (refusal_by_size s lent_limit)

-- a refusal, and zero in all else
abbrev pub bare : Refusal → Unbuilding
bare r = record { refusal = r; bin = 0; cfg = 0 }

-- the BIN of a plan in two arrays, with the words of a RAM; the CFG of lines in an array
abbrev pub bin_in : Sketch → List ℕ → List ℕ
bin_in s ram = canonical_bin (plan_in s.kinds s.pages) (words_in ram)

abbrev pub cfgIn : Listing → List ℕ
cfgIn l = cfg_lines l.mapping l.count l.lines

-- of a BIN b and a CFG c, for these two buffers
module _ (unfit : Bool) (b c bin cfg : List ℕ) where
  unfoldable pub refusalBy : Refusal
  refusalBy =
      first_refusal
      ((unfit, refuse 31 0) ∷ (ltb bin_limit (length b), refuse 32 0) ∷ (ltb (length bin) (length b) || ltb (length cfg) (length c), refuse 29 0) ∷ [])

  abbrev pub told : Refusal → ℕ → ℕ
  told r n = cond (passes r || eqb r.number 29) n 0

  pub record AnswersBy (r : Unbuilding) (bin' cfg' : List ℕ) : Type 0 where
    pub answer : r ≡ record { refusal = refusalBy; bin = told refusalBy (length b); cfg = told refusalBy (length c) }
    pub bin-after : bin' ≡ cond (passes refusalBy) (put_front b bin) bin
    pub cfg-after : cfg' ≡ cond (passes refusalBy) (put_front c cfg) cfg
