-- Sizes and places in numbers, and what refusals 10, 11 and 13 ask: the definitions compute.
use Rattle.std.specs.Prelude.{ℕ, List, ◌∷◌, ◌≡◌, refl, true, false, replicate, set}
use Rattle.basics.specs.Counts.{any}
use Rattle.tables.specs.Tables.{permissions_at, flips_at, tables_size, sectors_of, unsupported, lacks_ram, oversized, mislent}

pub places : (permissions_at ≡ 512) × (flips_at ≡ 768) × (tables_size ≡ 1280)
places = (refl, refl, refl)

-- the builder's flags, and a table of zeros
abbrev built : List ℕ
built = 0x55 ∷ 0x05 ∷ replicate 14 0

abbrev zeros : List ℕ
zeros = replicate 256 0

-- field 2 with a flash of one sector: 10 does not speak of it, and 13 wants 768 words
abbrev one_sector : List ℕ
one_sector = set built 2 0x42

pub flash_supported : unsupported one_sector zeros ≡ false
unfolding unsupported any
flash_supported = refl

pub a_word_short : mislent one_sector 767 ≡ true
unfolding mislent
a_word_short = refl

pub a_sector_lent : mislent one_sector 768 ≡ false
unfolding mislent
a_sector_lent = refl

pub a_word_long : mislent one_sector 769 ≡ true
unfolding mislent
a_word_long = refl

-- field 2 with a size of 0 wants no word
pub no_flash_lent : mislent (set built 2 0x02) 0 ≡ false
unfolding mislent
no_flash_lent = refl

pub flash_of_none : mislent (set built 2 0x02) 1 ≡ true
unfolding mislent
flash_of_none = refl

-- field 3 with 682 sectors, and with 683; field 1 with a size, which has no flash and is not asked
pub largest_flash : oversized (set (set built 2 0x83) 3 0xAA) ≡ false
unfolding oversized
largest_flash = refl

pub too_large : oversized (set (set built 2 0xC3) 3 0xAA) ≡ true
unfolding oversized
too_large = refl

abbrev not_theirs : List ℕ
not_theirs = set (set built 2 0x01) 3 0xFF

pub size_not_asked : oversized not_theirs ≡ false
unfolding oversized
size_not_asked = refl

pub words_not_asked : mislent not_theirs 5 ≡ false
unfolding mislent
words_not_asked = refl

pub sectors_not_theirs : sectors_of not_theirs ≡ 0
sectors_not_theirs = refl

-- field 1 wants 73,600 words, and field 0 none
pub too_few : lacks_ram (set built 2 0x01) 73599 ≡ true
unfolding lacks_ram
too_few = refl

pub enough : lacks_ram (set built 2 0x01) 73600 ≡ false
unfolding lacks_ram
enough = refl

pub none_wanted : lacks_ram built 0 ≡ false
unfolding lacks_ram
none_wanted = refl

-- flag 32

pub locutus_mapper : unsupported (set built 4 0x01) zeros ≡ true
unfolding unsupported any
locutus_mapper = refl

-- PFE in entry 31, the last of chapter 1, and in those before and after that chapter
pub chapter_1 : unsupported built (set zeros 31 0x08) ≡ true
unfolding unsupported any
chapter_1 = refl

pub other_chapters : unsupported built (set (set zeros 15 0x08) 32 0x08) ≡ false
unfolding unsupported any
other_chapters = refl
