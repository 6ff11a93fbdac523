-- The release date: eight fields of a byte, of which a text may lack the last ones; they are then 0 (001, Metadata Tags; 02, W-204).
use Rattle.std.specs.Prelude.{ℕ, ◌+◌, ◌-◌, ℤ, pos, negsuc, List, cond, Option, Some, None, get_or, eqb, ltb}
use Rattle.metadata.specs.declared.ReleaseDate.{ReleaseDate}

-- month 0 and day 0 mean not given
abbrev pub given_of : ℕ → Option ℕ
given_of b = cond (eqb b 0) None (Some b)

-- a signed byte: 0x80 to 0xFF are -128 to -1
abbrev pub hours_of : ℕ → ℤ
hours_of b = cond (ltb b 128) (pos b) (negsuc (255 - b))

-- values outside 001's ranges are shown as they stand
unfoldable pub date_of : List ℕ → ReleaseDate
date_of text =
    record {
      year = 1900 + get_or text 0 0;
      month = given_of (get_or text 1 0);
      day = given_of (get_or text 2 0);
      hour = get_or text 3 0;
      minute = get_or text 4 0;
      second = get_or text 5 0;
      zone_hours = hours_of (get_or text 6 0);
      zone_minutes = get_or text 7 0;
    }
