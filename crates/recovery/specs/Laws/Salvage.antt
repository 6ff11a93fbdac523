-- Salvage: what it writes loads into a RAM of 524,288 words and stores what the kept hunks say; an image that such a RAM accepts loads the
-- same before and after; what salvage wrote is salvaged as it is; and each block before the stop is kept or left out (02, W-208).
use Rattle.std.specs.Prelude.{ℕ, ◌+◌, ◌*◌, ◌≤◌, ◌≡◌, refl, List, [], ◌∷◌, ◌++◌, true, length, take, drop}
use Rattle.std.proofs.Common.{sym, ap, ap₂, ◌∙◌, take-append-drop, length-take-le}
use Rattle.std.proofs.Math.Bool.{false, not}
use native.Mathlib.Omega.{arith}
use Rattle.basics.specs.declared.Refusal.{Refusal}
use Rattle.basics.specs.Lists.{flat, Each}
use Rattle.basics.specs.Rows.{first_of, Silent, none, also}
use Rattle.basics.specs.Refusals.{refuse, no_refusal, first_refusal}
use Rattle.basics.specs.Laws.Tests.{not-false, or_false_right}
use Rattle.basics.specs.Laws.Rows.{first_append, silent_append, silent_left, silent_right}
use Rattle.basics.specs.Laws.Refusals.{silent_behind}
use Rattle.basics.specs.Laws.Stands.{stands_length}
use Rattle.places.specs.Limits.{lent, lent_limit, image_limit}
use Rattle.header.specs.Header.{header_size, header_rows, flags_of}
use Rattle.header.specs.Laws.Refusals.{header_accepted, accepted_length}
use Rattle.tables.specs.Tables.{tables_in, flash_words, oversized, mislent, tables_rows}
use Rattle.tables.specs.Laws.Refusals.{lent_right, lent_alike}
use Rattle.blocks.specs.Blocks.{Block}
use Rattle.blocks.specs.Images.{first_block, blocks_in, is_cut, judge_all, any_tables, payload_of_tables, hunks_in, overlay}
use Rattle.blocks.specs.Laws.Images.{reading}
use Rattle.load.specs.Load.{walk_rows, refusal_of, loaded_of, loading_of, load_ram_of}
use Rattle.load.specs.Laws.Refusals.{Accepted, accepted, accepts}
use Rattle.recovery.specs.Salvage.{Nowhere}
use Rattle.recovery.specs.Salvage.{kept, kept_in, drops_in, stopped_of, closed, salvage_of, kept_rows, end_rows, blocks_rows, image_rows}
use Rattle.recovery.specs.Laws.Kept.{keeps, kept_each, kept_silent, AllKept, all_kept, kept_dropped, drops_few}
use Rattle.recovery.specs.Laws.Closed.{flags_are, header_other, closing_one, closed_is, length_closed, closed_header, closed_length, closed_blocks, closed_whole}

pub salvage_is : (s : List ℕ) → salvage_of s ≡ closed (take header_size s) (kept_in s)
unfolding salvage_of
salvage_is s = refl

-- ---- any bytes that hold a header

module _ (s : List ℕ) (long : header_size ≤ length s) where
  header_long : length (take header_size s) ≡ 32
  header_long = length-take-le header_size s long

  each : Each Block (kept_in s)
  each = kept_each (blocks_in s) (reading s).each

  kept_short : 32 + length (flat (kept_in s)) ≤ length s
  kept_short = omega (arith, (keeps (blocks_in s)).short, stands_length s 32 (flat (blocks_in s)) (drop (reading s).stop s) (reading s).stands)

  -- a byte more than there was, at most: the end
  pub salvage_short : length (salvage_of s) ≤ length s + 1
  salvage_short = omega (arith, ap length (salvage_is s), length_closed (take header_size s) (kept_in s) header_long, closing_one (32 + length (flat (kept_in s))), kept_short)

  pub salvage_blocks : blocks_in (salvage_of s) ≡ kept_in s
  salvage_blocks = ap blocks_in (salvage_is s) ∙ closed_blocks (take header_size s) (kept_in s) header_long each

  pub salvage_whole : is_cut (salvage_of s) ≡ false
  salvage_whole = ap is_cut (salvage_is s) ∙ closed_whole (take header_size s) (kept_in s) header_long each

  pub salvage_header : take header_size (salvage_of s) ≡ take header_size s
  salvage_header = ap (take header_size) (salvage_is s) ∙ closed_header (take header_size s) (kept_in s) header_long

  salvage_flags : flags_of (salvage_of s) ≡ flags_of s
  salvage_flags =
      ap flags_of (salvage_is s ∙ closed_is (take header_size s) (kept_in s) header_long) ∙ flags_are (take header_size s) _ header_long
      ∙ sym (flags_are (take header_size s) (drop header_size s) header_long) ∙ ap flags_of (take-append-drop header_size s)

  -- a second salvage changes nothing
  pub salvage_again : salvage_of (salvage_of s) ≡ salvage_of s
  salvage_again = salvage_is (salvage_of s) ∙ ap₂ closed salvage_header (ap kept salvage_blocks ∙ (keeps (blocks_in s)).again) ∙ sym (salvage_is s)

  salvage_head : length s ≤ image_limit → Silent (header_rows s) → Silent (header_rows (salvage_of s))
  salvage_head short q =
      let h : List ℕ = take header_size s in
      let e : salvage_of s ≡ closed h (kept_in s) = salvage_is s in
      let split : h ++ drop header_size s ≡ s = take-append-drop header_size s in
      let q₁ : Silent (header_rows (h ++ drop header_size s)) = rw split q in
      let w = closed_length h (kept_in s) header_long (omega (arith, kept_short)) in
      let f = closed_is h (kept_in s) header_long in
      rw (e, f) (header_other h (drop header_size s) _ header_long q₁ (rw f at w))

-- ---- what is written loads

-- what a salvage that is not refused writes: it loads into 524,288 words with the flags and tables that stood there, answers the kept blocks and
-- their words, and stores what the kept hunks say
pub record Salvages (s : List ℕ) : Type 0 where
  pub loads : (f : ℕ) → mislent (flags_of s) f ≡ false → refusal_of (salvage_of s) lent_limit f ≡ no_refusal
  pub blocks : blocks_in (salvage_of s) ≡ kept_in s
  pub answer : (f : ℕ) → mislent (flags_of s) f ≡ false → loading_of (salvage_of s) lent_limit f ≡ loaded_of (flags_of s) (kept_in s)
  pub tables : payload_of_tables (kept_in s) ≡ payload_of_tables (blocks_in s)
  pub stores : (ram : List ℕ) (f : ℕ) → mislent (flags_of s) f ≡ false → lent_limit ≤ length ram → load_ram_of (salvage_of s) ram f ≡ overlay (hunks_in (kept_in s)) ram

module _ (s : List ℕ) (q : Silent (image_rows s)) where
  head_silent : Silent (header_rows s)
  head_silent = silent_left (header_rows s) _ q

  blocks_silent : (Silent (kept_rows false first_block (blocks_in s))) × ((any_tables (blocks_in s) ≡ true) × (Silent (end_rows lent_limit (flash_words (flags_of s)) (flags_of s) (blocks_in s))))
  unfolding blocks_rows
  blocks_silent =
      let b = silent_right (header_rows s) _ q in
      go (silent_left (kept_rows false first_block (blocks_in s)) _ b) (silent_right (kept_rows false first_block (blocks_in s)) _ b)
    where
      go : Silent (kept_rows false first_block (blocks_in s)) → Silent ((not (any_tables (blocks_in s)), refuse 8 (length s)) ∷ end_rows lent_limit (flash_words (flags_of s)) (flags_of s) (blocks_in s))
          → (Silent (kept_rows false first_block (blocks_in s))) × ((any_tables (blocks_in s) ≡ true) × (Silent (end_rows lent_limit (flash_words (flags_of s)) (flags_of s) (blocks_in s))))
      go a (also n e) = (a, (not-false (any_tables (blocks_in s)) n, e))

  within : (header_size ≤ length s) × (length s ≤ image_limit)
  within = accepted_length s ((header_accepted s).1 head_silent)

  long : header_size ≤ length s
  long = within.0

  -- its rows and those of what is written ask the same of the tables, whatever flash 13 lets through
  end_same : (f : ℕ) → mislent (flags_of s) f ≡ false
      → end_rows lent_limit f (flags_of (salvage_of s)) (blocks_in (salvage_of s)) ≡ end_rows lent_limit (flash_words (flags_of s)) (flags_of s) (blocks_in s)
  end_same f r =
      rw (salvage_flags s long, salvage_blocks s long, (keeps (blocks_in s)).tables)
      (lent_alike (flags_of s) (tables_in (payload_of_tables (blocks_in s))).flips lent_limit f r)

  written_accepted : (f : ℕ) → mislent (flags_of s) f ≡ false → Accepted (salvage_of s) lent_limit f
  written_accepted f r =
      record {
        header = salvage_head s long within.1 head_silent;
        blocks = rw (salvage_blocks s long) (kept_silent (blocks_in s) false first_block first_block blocks_silent.0);
        ended = salvage_whole s long;
        tables = rw (salvage_blocks s long) ((keeps (blocks_in s)).any ∙ blocks_silent.1.0);
        supported = rw (end_same f r) blocks_silent.1.1;
      }

  written_loads : (f : ℕ) → mislent (flags_of s) f ≡ false → refusal_of (salvage_of s) lent_limit f ≡ no_refusal
  written_loads f r = accepts (salvage_of s) lent_limit f (written_accepted f r)

  pub salvages : Salvages s
  unfolding loading_of load_ram_of
  salvages =
      record {
        loads = written_loads;
        blocks = salvage_blocks s long;
        answer = λ f r. rw (written_loads f r, salvage_flags s long, salvage_blocks s long);
        tables = (keeps (blocks_in s)).tables;
        stores =
            λ ram f r k.
            let e : lent ram ≡ lent_limit = omega arith in
            rw (e, written_loads f r, salvage_blocks s long);
      }

-- ---- an image that is accepted

-- nothing of it is refused or left out, and it loads the same before and after: into any RAM and with any flash, the same answer and the same words
pub record Whole (s : List ℕ) : Type 0 where
  pub silent : Silent (image_rows s)
  pub all : kept_in s ≡ blocks_in s
  pub nothing : drops_in s ≡ []
  pub nowhere : stopped_of s ≡ Nowhere
  pub same : (m f : ℕ) → loading_of (salvage_of s) m f ≡ loading_of s m f
  pub same_ram : (ram : List ℕ) (f : ℕ) → load_ram_of (salvage_of s) ram f ≡ load_ram_of s ram f

-- a load with a good header, an end and tables is refused by its blocks, or by its flags and tables
by_blocks : (s : List ℕ) (m f : ℕ) → Silent (header_rows s) → is_cut s ≡ false → any_tables (blocks_in s) ≡ true
    → refusal_of s m f ≡ first_of (judge_all m false first_block (blocks_in s)) (first_refusal (end_rows m f (flags_of s) (blocks_in s)))
unfolding refusal_of walk_rows
by_blocks s m f h c t =
    silent_behind (header_rows s) _ h ∙ first_append (walk_rows s m) (end_rows m f (flags_of s) (blocks_in s)) no_refusal
    ∙ first_append (judge_all m false first_block (blocks_in s)) _ (first_refusal (end_rows m f (flags_of s) (blocks_in s))) ∙ rw (c, t)

-- a flash with which an image is accepted is one that 13 lets through
right_flash : (flags flips : List ℕ) (m f : ℕ) → Silent (tables_rows flags flips m f) → mislent flags f ≡ false
unfolding tables_rows
right_flash flags flips m f (also _ (also _ (also h none))) = or_false_right (oversized flags) (mislent flags f) h

module _ (s : List ℕ) (f : ℕ) (e : (refusal_of s lent_limit f).number ≡ 0) where
  good : Accepted s lent_limit f
  good = accepted s lent_limit f e

  lets : mislent (flags_of s) f ≡ false
  lets = right_flash (flags_of s) _ lent_limit f good.supported

  good_kept : AllKept false first_block (blocks_in s)
  good_kept = all_kept (blocks_in s) false first_block good.blocks

  good_silent : Silent (image_rows s)
  unfolding blocks_rows
  good_silent =
      let n : not (any_tables (blocks_in s)) ≡ false = rw good.tables in
      let t : Silent (end_rows lent_limit (flash_words (flags_of s)) (flags_of s) (blocks_in s)) =
      rw (← lent_alike (flags_of s) (tables_in (payload_of_tables (blocks_in s))).flips lent_limit f lets) good.supported in
      silent_append good.header (silent_append good_kept.silent (also n t))

  same_blocks : blocks_in (salvage_of s) ≡ blocks_in s
  same_blocks = salvage_blocks s (long s good_silent) ∙ good_kept.all

  same_flags : flags_of (salvage_of s) ≡ flags_of s
  same_flags = salvage_flags s (long s good_silent)

  same_refusal : (m g : ℕ) → refusal_of (salvage_of s) m g ≡ refusal_of s m g
  same_refusal m g =
      let w : Accepted (salvage_of s) lent_limit f = written_accepted s good_silent f lets in
      by_blocks (salvage_of s) m g w.header w.ended w.tables ∙ rw (same_blocks, same_flags) (sym (by_blocks s m g good.header good.ended good.tables))

  pub whole : Whole s
  unfolding loading_of load_ram_of
  whole =
      record {
        silent = good_silent;
        all = good_kept.all;
        nothing = good_kept.nothing;
        nowhere = rw good.ended;
        same = λ m g. rw (same_refusal m g, same_flags, same_blocks);
        same_ram = λ ram g. rw (same_refusal (lent ram) g, same_blocks);
      }

-- ---- what salvage wrote

-- it is salvaged as it is: nothing refused, left out or cut
pub record Again (s : List ℕ) : Type 0 where
  pub silent : Silent (image_rows s)
  pub same : salvage_of s ≡ s
  pub nothing : drops_in s ≡ []
  pub nowhere : stopped_of s ≡ Nowhere

pub again : (s : List ℕ) → Silent (image_rows s) → Again (salvage_of s)
again s q =
    let f : ℕ = flash_words (flags_of s) in
    let w : Whole (salvage_of s) = whole (salvage_of s) f (ap (λ (r : Refusal). r.number) (written_loads s q f (lent_right (flags_of s)))) in
    record { silent = w.silent; same = salvage_again s (long s q); nothing = w.nothing; nowhere = w.nowhere }

-- ---- the blocks before the stop

-- each is kept or left out; and eight bytes of the image at least for each that is left out
pub all_told : (s : List ℕ) → length (kept_in s) + length (drops_in s) ≡ length (blocks_in s)
all_told s = kept_dropped (blocks_in s) first_block

pub drops_room : (s : List ℕ) → 8 * length (drops_in s) ≤ length s
drops_room s =
    omega
    (arith, drops_few (blocks_in s) first_block (reading s).each, stands_length s 32 (flat (blocks_in s)) (drop (reading s).stop s) (reading s).stands)
