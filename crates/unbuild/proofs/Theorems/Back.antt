-- Back again (02, W-213): where an image can be built and its BIN is not too long, building its BIN and CFG gives its tables and loaded words again.
use Prim.Native.Nat.{◌%◌, ◌≤◌, ℕ}
use Rattle.std.specs.Prelude.{◌≡◌, true, drop, length, take}
use Rattle.std.proofs.Math.Path.{ap}
use mathlib.Core.List.{List, []}
use Rattle.std.proofs.Math.Bool.{false}
use Rattle.std.proofs.Math.Dec.{eqb}
use Rattle.std.proofs.Math.Seq.{take-append_seam}
use borrow.Author.Tests.{le-ltb}
use Rattle.basics.specs.Laws.Rows.{silent_append, silent_first}
use Rattle.basics.specs.Laws.Tests.{not-false, or_false_left, or_false_right}
use Rattle.basics.specs.Refusals.{no_refusal, passes}
use Rattle.basics.specs.Rows.{none as silence, also as still}
use Rattle.basics.specs.declared.Refusal.{Refusal}
use Rattle.places.specs.Limits.{bin_limit, lent_limit}
use Rattle.load.specs.Load.{flash_asked, loading_of}
use Rattle.cfg.specs.File.{entries_of}
use Rattle.build.specs.Building.{building_of, builds, built_of, pressed_image, refusal_of, too_large, too_short, wrong_bin}
use Rattle.unbuild.specs.Behind.{bin_behind, cfg_behind, plan_behind, rebuilds, unbuildable}
use Rattle.unbuild.specs.Content.{SameContent}
use Rattle.unbuild.proofs.Theorems.Exactly.{Apart, canonical_apart, canonical_source}
use Rattle.unbuild.specs.Laws.Pressed.{no_label}

pub record BackAgain (s out : List ℕ) : Type 0 where
  -- nothing is refused, and the image that is then at the buffer's front holds what s does
  pub builds : builds (bin_behind s) (cfg_behind s) [] out ≡ true
  pub front : take (building_of (bin_behind s) (cfg_behind s) [] out).length (built_of (bin_behind s) (cfg_behind s) [] out) ≡ pressed_image (bin_behind s) (cfg_behind s) []
  pub same : SameContent (pressed_image (bin_behind s) (cfg_behind s) []) s

module _ (s out : List ℕ) (loads : (loading_of s lent_limit (flash_asked s)).refusal.number ≡ 0) (e : unbuildable s ≡ false) (short : length (bin_behind s) ≤ bin_limit)
    (room : length (pressed_image (bin_behind s) (cfg_behind s) []) ≤ length out) where
  rebuilt : rebuilds (plan_behind s) s ≡ true
  unfolding unbuildable
  rebuilt = not-false (rebuilds (plan_behind s) s) e

  apart : Apart (bin_behind s) (cfg_behind s)
  apart = canonical_apart s loads rebuilt

  bin_right : wrong_bin (bin_behind s) ≡ false
  unfolding wrong_bin
  bin_right =
      let a : eqb (length (bin_behind s)) 0 ≡ false = or_false_left _ _ apart.whole in
      let b : eqb (length (bin_behind s) % 2) 1 ≡ false = or_false_right (eqb (length (bin_behind s)) 0) _ apart.whole in
      rw (a, b, le-ltb bin_limit (length (bin_behind s)) short)

  enough : too_short (bin_behind s) (cfg_behind s) [] out ≡ false
  unfolding too_short
  enough = le-ltb (length out) (length (pressed_image (bin_behind s) (cfg_behind s) [])) room

  large : too_large (entries_of (cfg_behind s)) ≡ false
  large = apart.fits

  passed : refusal_of (bin_behind s) (cfg_behind s) [] out ≡ no_refusal
  unfolding refusal_of
  passed =
      silent_first no_refusal
      (still bin_right (silent_append apart.reads (silent_append apart.judges (still large (still no_label (still enough silence))))))

  pub back_again : BackAgain s out
  unfolding building_of built_of
  back_again =
      let image : List ℕ = pressed_image (bin_behind s) (cfg_behind s) [] in
      record {
        builds = ap (λ (r : Refusal). passes r) passed;
        front = rw passed (take-append_seam image (drop (length image) out));
        same = (canonical_source s loads rebuilt).same;
      }
