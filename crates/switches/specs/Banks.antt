-- Intellicart bankswitching: which half-page a write asks for, when it acts, and what the active tables then hold (02, W-202; 001,
-- Intellicart Bankswitching Reference).
use Rattle.std.specs.Prelude.{ℕ, ◌+◌, ◌*◌, ◌/◌, ◌%◌, Bool, cond, List, ◌==◌, slice_index, Option, Some, None}
use Rattle.basics.specs.Lists.{laid}
use Rattle.places.specs.declared.Console.{Console}
use Rattle.places.specs.Limits.{chapter_paragraphs}
use Rattle.switches.specs.Flips.{Active, active}

-- a half-page is 8 paragraphs (001, LUIGI Memory Organization Terminology)
abbrev pub half_page_paragraphs : ℕ
half_page_paragraphs = 8

-- $0040-$004F is the register of half-page $x000-$x7FF and $0050-$005F that of $x800-$xFFF, x being the low digit; a half-page is named by its
-- first paragraph
unfoldable pub register_at : Console → Option ℕ
register_at at =
    cond (at.0 / 0x10 == 4) (Some (chapter_paragraphs * (at.0 % 0x10)))
    (cond (at.0 / 0x10 == 5) (Some (chapter_paragraphs * (at.0 % 0x10) + half_page_paragraphs)) None)

-- it acts where BANKSW, bit 3 of a permission, is set in the half-page's first paragraph
abbrev pub BANKSW : ℕ → Bool
BANKSW x = x / 8 % 2 == 1

abbrev pub banked : List ℕ → ℕ → Bool
banked permissions p = BANKSW (slice_index permissions p)

-- paragraph j behind number v of the 64K-word Intellicart space, going round from 255 to 0; the space is Locutus $00000-$0FFFF
abbrev pub number_from : ℕ → ℕ → ℕ
number_from v j = (v + j) % 256

-- a mapping whose half-page number h has taken number v and the seven after it
unfoldable pub switched : ℕ → ℕ → List ℕ → List ℕ
switched h v m = laid (half_page_paragraphs * h) half_page_paragraphs (number_from v) m

-- the active tables after the half-page of paragraph p is switched to v: permissions stay
abbrev pub bankswitched : ℕ → ℕ → Active → Active
bankswitched p v a = active (switched (p / half_page_paragraphs) v a.mapping) a.permissions
