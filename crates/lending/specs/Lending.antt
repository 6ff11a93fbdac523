-- The flash that is lent to a load: as many words as the image asks for (02, W-209).
use Rattle.std.specs.Prelude.{◌*◌, ℕ, List, cond, ltb, length}
use Rattle.header.specs.Header.{flags_of, uid_at}
use Rattle.flash.specs.Flash.{sector_limit, sector_words}
use Rattle.tables.specs.Tables.{sectors_of}

-- the most that refusal 13 lets through: 682 sectors of 768 words, where the ten bits of the flags can say 1,023
abbrev pub flash_limit : ℕ
flash_limit = sector_limit * sector_words

-- what its flags ask for; none where it is too short to have flags
unfoldable pub flash_for : List ℕ → ℕ
flash_for image = cond (ltb (length image) uid_at) 0 (sectors_of (flags_of image) * sector_words)
