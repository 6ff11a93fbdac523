-- What going back answers and leaves in the two lent buffers (02, W-213).
use Rattle.std.specs.Prelude.{ℕ, List, [], ◌++◌, ◌∷◌, Bool, ◌||◌, cond, eqb, ltb, length}
use Rattle.basics.specs.Lists.{put_front}
use Rattle.basics.specs.Refusals.{first_refusal, passes, refuse}
use Rattle.basics.specs.Rows.{Row}
use Rattle.basics.specs.declared.Refusal.{Refusal}
use Rattle.places.specs.Limits.{bin_limit, lent_limit}
use Rattle.load.specs.Load.{rows_by_size}
use Rattle.unbuild.specs.Behind.{bin_behind, cfg_behind, unbuildable}
use Rattle.unbuild.specs.declared.Unbuilding.{Unbuilding}

-- 32: the BIN written would pass 524,288 bytes
abbrev pub bin_too_long : List ℕ → Bool
bin_too_long s = ltb bin_limit (length (bin_behind s))

-- 29: either buffer is shorter than what it is to hold
abbrev pub either_short : List ℕ → List ℕ → List ℕ → Bool
either_short s bin cfg = ltb (length bin) (length (bin_behind s)) || ltb (length cfg) (length (cfg_behind s))

-- all load refusals for a RAM of 524,288 words, 13 by size; then 31, 32, 29, place 0 for each
abbrev pub refusal_rows : List ℕ → List ℕ → List ℕ → List (Row Refusal)
refusal_rows s bin cfg =
    rows_by_size s lent_limit
    ++ ((unbuildable s, refuse 31 0) ∷ (bin_too_long s, refuse 32 0) ∷ (either_short s bin cfg, refuse 29 0) ∷ [])

unfoldable pub refusal_of : List ℕ → List ℕ → List ℕ → Refusal
refusal_of s bin cfg = first_refusal (refusal_rows s bin cfg)

-- the answer: the refusal, and both lengths where nothing is refused and at 29; else zero
abbrev pub answer_for : Refusal → List ℕ → Unbuilding
answer_for r s =
    record {
      refusal = r;
      bin = cond (passes r || eqb r.number 29) (length (bin_behind s)) 0;
      cfg = cond (passes r || eqb r.number 29) (length (cfg_behind s)) 0;
    }

unfoldable pub unbuilding_of : List ℕ → List ℕ → List ℕ → Unbuilding
unbuilding_of s bin cfg = answer_for (refusal_of s bin cfg) s

-- the buffers: the BIN and the CFG at their fronts, bytes past them kept; and all bytes of both kept where it is refused
unfoldable pub bin_after : List ℕ → List ℕ → List ℕ → List ℕ
bin_after s bin cfg = cond (passes (refusal_of s bin cfg)) (put_front (bin_behind s) bin) bin

unfoldable pub cfg_after : List ℕ → List ℕ → List ℕ → List ℕ
cfg_after s bin cfg = cond (passes (refusal_of s bin cfg)) (put_front (cfg_behind s) cfg) cfg
