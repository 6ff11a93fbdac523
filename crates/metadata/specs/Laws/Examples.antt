-- Worked examples: payloads, texts and dates.
use Rattle.std.specs.Prelude.{ℕ, ◌≡◌, refl, List, [], ◌∷◌, true, false, ℤ, pos, negsuc, Option, Some, None, Ok, Err}
use Rattle.metadata.specs.declared.ReleaseDate.{ReleaseDate}
use Rattle.metadata.specs.Records.{whole_at, starts_from, starts, is_cut}
use Rattle.metadata.specs.Texts.{texts_in, texts_of, seek_in, given_twice}
use Rattle.metadata.specs.Dates.{date_of}

-- two names, an author with no text between them, and a tag that 001 does not name
abbrev payload : List ℕ
payload = 0x00 ∷ 2 ∷ 0x41 ∷ 0x42 ∷ 0x02 ∷ 0 ∷ 0x00 ∷ 1 ∷ 0x43 ∷ 0x10 ∷ 0 ∷ []

pub whole : is_cut payload ≡ false
unfolding is_cut starts starts_from whole_at
whole = refl

-- cut behind a tag, and in a text; a payload with no bytes is whole
pub cut_in_head : is_cut (0x02 ∷ 0 ∷ 0x03 ∷ []) ≡ true
unfolding is_cut starts starts_from whole_at
cut_in_head = refl

pub cut_in_text : is_cut (0x02 ∷ 2 ∷ 0x41 ∷ []) ≡ true
unfolding is_cut starts starts_from whole_at
cut_in_text = refl

pub empty_whole : is_cut [] ≡ false
unfolding is_cut starts starts_from whole_at
empty_whole = refl

-- the second name; the author's empty text, apart from none; a tag that 001 does not name
pub second_name : seek_in 2 (texts_of 0x00 payload) ≡ Ok (record { from = 8; to = 9 })
unfolding seek_in texts_in starts starts_from whole_at
second_name = refl

pub empty_text : seek_in 1 (texts_of 0x02 payload) ≡ Ok (record { from = 6; to = 6 })
unfolding seek_in texts_in starts starts_from whole_at
empty_text = refl

pub no_second_author : seek_in 2 (texts_of 0x02 payload) ≡ Err 1
unfolding seek_in texts_in starts starts_from whole_at
no_second_author = refl

pub unnamed_tag : seek_in 1 (texts_of 0x10 payload) ≡ Err 1
unfolding seek_in texts_in starts starts_from whole_at
unnamed_tag = refl

pub name_twice : given_twice 0x00 (texts_of 0x00 payload) ≡ true
unfolding texts_in starts starts_from whole_at
name_twice = refl

-- a date of one byte gives the year alone (001, Metadata Tags); a day without a month; -0130 is -2 hours and 30 minutes, and a ninth byte
-- is not looked at
abbrev dated : Option ℕ → ℤ → ℕ → ReleaseDate
dated day zoneHours zoneMinutes =
    record {
      year = 1982;
      month = None;
      day = day;
      hour = 0;
      minute = 0;
      second = 0;
      zone_hours = zoneHours;
      zone_minutes = zoneMinutes;
    }

pub year_alone : date_of (82 ∷ []) ≡ dated None (pos 0) 0
unfolding date_of
year_alone = refl

pub day_alone : date_of (82 ∷ 0 ∷ 7 ∷ []) ≡ dated (Some 7) (pos 0) 0
unfolding date_of
day_alone = refl

pub west : date_of (82 ∷ 0 ∷ 0 ∷ 0 ∷ 0 ∷ 0 ∷ 0xFE ∷ 30 ∷ 99 ∷ []) ≡ dated None (negsuc 1) 30
unfolding date_of
west = refl
