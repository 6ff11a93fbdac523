-- Page flips: what a write asks for, when it acts, and what the active tables then hold (01, The machine).
use Rattle.std.specs.Prelude.{ℕ, ◌+◌, ◌-◌, ◌*◌, ◌/◌, ◌%◌, Bool, cond, ◌&&◌, List, ◌==◌, nat_le, slice_index, Option, Some, None}
use Rattle.basics.specs.Lists.{laid}
use Rattle.places.specs.declared.Console.{Console}
use Rattle.places.specs.Limits.{chapter_pages, chapter_paragraphs}

-- a write of $xA5y to $xFFF asks for flip entry 16x + y
unfoldable pub asks : Console → ℕ → Option ℕ
asks at v =
    cond (at.0 % 0x1000 == 0xFFF && (v / 0x1000 == at.0 / 0x1000 && v / 16 % 256 == 0xA5))
    (Some (v / 0x1000 * chapter_pages + v % chapter_pages))
    None

-- it acts when PFE, bit 3 of the entry, is set and chapter x is neither 0 nor 1
abbrev pub PFE : ℕ → Bool
PFE e = e / 8 % 2 == 1

abbrev pub acts : List ℕ → ℕ → Bool
acts flips n = PFE (slice_index flips n) && nat_le 2 (n / chapter_pages)

-- acting gives each paragraph k of the chapter the mapping (entry e with its low four bits cleared) + k, and the entry's low three bits
-- as permissions
abbrev pub flip_mapping : ℕ → ℕ → ℕ
flip_mapping e k = e / 16 * 16 + k

abbrev pub flip_permissions : ℕ → ℕ → ℕ
flip_permissions e k = e % 8

-- from this k on: in chapter 4 only k = 8 to 15 change
abbrev pub first_k : ℕ → ℕ
first_k x = cond (x == 4) 8 0

-- from this paragraph on, so many change when flip entry n acts: 16, and 8 in chapter 4 (02, W-212)
abbrev pub flip_from : ℕ → ℕ
flip_from n = chapter_paragraphs * (n / chapter_pages) + first_k (n / chapter_pages)

abbrev pub flip_size : ℕ → ℕ
flip_size n = chapter_paragraphs - first_k (n / chapter_pages)

-- a table whose chapter x has taken f k for each such paragraph k
unfoldable pub turned : ℕ → (ℕ → ℕ) → List ℕ → List ℕ
turned x f m = laid (chapter_paragraphs * x + first_k x) (chapter_paragraphs - first_k x) (λ j. f (first_k x + j)) m

-- the active tables, and what they are after flip entry n has acted
pub record Active : Type 0 where
  pub mapping : List ℕ
  pub permissions : List ℕ

abbrev pub active : List ℕ → List ℕ → Active
active mapping permissions = record { mapping = mapping; permissions = permissions }

abbrev pub flipped : List ℕ → ℕ → Active → Active
flipped flips n a =
    active
    (turned (n / chapter_pages) (flip_mapping (slice_index flips n)) a.mapping)
    (turned (n / chapter_pages) (flip_permissions (slice_index flips n)) a.permissions)
