-- What stands at a place of an image where a block may start: the end, a block that is cut, or a whole block (01, File layout, refusal 5).
use Rattle.std.specs.Prelude.{ℕ, ◌+◌, List, Bool, cond, not, ◌||◌, length, get_or, eqb, leb, ltb}
use Rattle.basics.specs.Bytes.{at16}
use Rattle.basics.specs.Lists.{part}
use Rattle.sums.specs.Crc.{dowcrc_of}
use Rattle.blocks.specs.declared.Frame.{Frame}
use Rattle.blocks.specs.declared.Frame.TheVariants.{Over, Cut, Framed}
use Rattle.blocks.specs.Blocks.{frame_size, start_size, end_mark}

-- an image ends at a block's boundary, or by 0xFF where a type is expected
abbrev pub ends_at : List ℕ → ℕ → Bool
ends_at s p = leb (length s) p || eqb (get_or s p 0) end_mark

-- the place behind the block at p, by the length that it says
abbrev pub next_of : List ℕ → ℕ → ℕ
next_of s p = p + frame_size + at16 s (p + 1)

-- 5: block header cut or its checksum wrong, or payload past the end
unfoldable pub cut_at : List ℕ → ℕ → Bool
cut_at s p =
    ltb (length s) (p + frame_size)
    || (not (eqb (dowcrc_of (part s p (p + start_size))) (get_or s (p + start_size) 0))
    || ltb (length s) (next_of s p))

-- a whole block has a type and the place of the next block
unfoldable pub frame_at : List ℕ → ℕ → Frame
frame_at s p = cond (ends_at s p) Over (cond (cut_at s p) Cut (Framed (get_or s p 0) (next_of s p)))

abbrev pub on_frame : {A : Type 0} → Frame → A → A → (ℕ → ℕ → A) → A
on_frame Over over cut on = over
on_frame Cut over cut on = cut
on_frame (Framed t q) over cut on = on t q
