-- Rules 25 to 28 of a CFG's lines, each by itself, and the first that is broken (01, What a CFG may say; Numbers that come back).
use Rattle.std.specs.Prelude.{ℕ, ◌+◌, ◌-◌, ◌%◌, ◌/◌, Bool, ◌||◌, ◌&&◌, not, cond, false, List, [], ◌∷◌, ◌++◌, ltb, leb, eqb, Option, Some, None}
use Rattle.basics.specs.declared.Refusal.{Refusal}
use Rattle.basics.specs.Rows.{Row}
use Rattle.basics.specs.Refusals.{refuse, first_refusal}
use Rattle.basics.specs.Tables.{table}
use Rattle.places.specs.Limits.{chapters, paragraph_size, chapter_size, half_size, half_start, chapter_pages}
use Rattle.lines.specs.declared.Entry.{Entry}
use Rattle.lines.specs.declared.Entry.TheVariants.{Rom, Paged, Ram}
use Rattle.lines.specs.declared.Line.{Line}
use Rattle.lines.specs.Lines.{layer, first, last}
use Rattle.owners.specs.Owners.{least_has}
use Rattle.rules.specs.Chapters.{paged, under, bare}

-- 25: lo above hi
abbrev pub backwards : Entry → Bool
backwards (Rom lo hi at) = ltb hi.0 lo.0
backwards (Paged lo hi at y) = ltb hi.0 lo.0
backwards (Ram lo hi w) = ltb hi.0 lo.0

-- 25: in mapping hi past the BIN, of so many words
abbrev pub past_bin : ℕ → Entry → Bool
past_bin words (Rom lo hi at) = leb words hi.0
past_bin words (Paged lo hi at y) = leb words hi.0
past_bin words (Ram lo hi w) = false

-- 25: one of these, or addresses past $FFFF, which no RAM line can name
abbrev pub out_of_range : ℕ → Entry → Bool
out_of_range words e = backwards e || (past_bin words e || ltb 0xFFFF (last e))

-- words a to b and words c to d have a word in common
abbrev pub meets : ℕ → ℕ → ℕ → ℕ → Bool
meets a b c d = leb a d && leb c b

-- 26: words a to b touch the ranges where reads are silent
unfoldable pub touches_silent : ℕ → ℕ → Bool
touches_silent a b = meets a b 0 0x4FF || (meets a b 0x1000 0x1FFF || meets a b 0x3000 0x3FFF)

-- 26: a plain line starts at a paragraph, fills whole paragraphs, and is nowhere silent
unfoldable pub plain_shape : ℕ → ℕ → Bool
plain_shape a b = eqb (a % paragraph_size) 0 && (eqb (b % paragraph_size) (paragraph_size - 1) && not (touches_silent a b))

-- 26: a PAGE line is 4,096 words at $x000 for x = 2 or 5 to 15, or 2,048 words at $4800
abbrev pub whole_page : ℕ → ℕ → Bool
whole_page a b =
    eqb (b - a + 1) chapter_size && (eqb (a % chapter_size) 0 && (eqb (a / chapter_size) 2 || leb 5 (a / chapter_size)))

abbrev pub half_page : ℕ → ℕ → Bool
half_page a b = eqb (b - a + 1) half_size && eqb a half_start

unfoldable pub page_shape : ℕ → ℕ → Bool
page_shape a b = whole_page a b || half_page a b

-- 26: the shape or range of an entry; layer 1 + y is that of page y, one hex digit
abbrev pub misshapen : Entry → Bool
misshapen e =
    cond (eqb (layer e) 0) (not (plain_shape (first e) (last e))) (ltb chapter_pages (layer e) || not (page_shape (first e) (last e)))

-- 26: that of a line; and its number is not 0, as no CFG line's is
abbrev pub not_allowed : Line → Bool
not_allowed l = eqb l.source 0 || misshapen l.entry

-- 27: two lines share a plain word, or chapter and page
unfoldable pub shares : Entry → Entry → Bool
shares e f =
    eqb (layer e) (layer f)
    && cond (eqb (layer e) 0) (meets (first e) (last e) (first f) (last f)) (eqb (first e / chapter_size) (first f / chapter_size))

-- 27: a line shares with one of the earlier ones
abbrev pub shares_earlier : List Line → Entry → Bool
shares_earlier [] e = false
shares_earlier (m ∷ ms) e = shares m.entry e || shares_earlier ms e

-- 28: in a chapter with PAGE lines plain ROM covers all of the flippable range or none of it, and RAM none
unfoldable pub breaks_plain : List Line → ℕ → Bool
breaks_plain lines x = paged lines x && not (under lines x || bare lines x)

-- the lines in order, 25 before 26; then 27, each line against the earlier ones; then 28, the lowest chapter first
abbrev pub rows_of : ℕ → Line → List (Row Refusal)
rows_of words l = (out_of_range words l.entry, refuse 25 l.source) ∷ (not_allowed l, refuse 26 l.source) ∷ []

abbrev pub line_rows : ℕ → List Line → List (Row Refusal)
line_rows words [] = []
line_rows words (l ∷ ls) = rows_of words l ++ line_rows words ls

abbrev pub share_rows : List Line → List Line → List (Row Refusal)
share_rows earlier [] = []
share_rows earlier (l ∷ ls) = (shares_earlier earlier l.entry, refuse 27 l.source) ∷ share_rows (earlier ++ (l ∷ [])) ls

abbrev pub chapter_rows : List Line → List (Row Refusal)
chapter_rows lines = table chapters (λ x. (breaks_plain lines x, refuse 28 x))

abbrev pub refusal_rows : ℕ → List Line → List (Row Refusal)
refusal_rows words lines = line_rows words lines ++ (share_rows [] lines ++ chapter_rows lines)

-- what the rules say of the lines of a CFG, for a BIN of so many words
unfoldable pub refusal_of : ℕ → List Line → Refusal
refusal_of words lines = first_refusal (refusal_rows words lines)

-- of the first line that shares with earlier ones, the least of their numbers; 0 where no line does
abbrev pub first_rival : List Line → List Line → ℕ
first_rival earlier [] = 0
first_rival earlier (l ∷ ls) =
    cond (shares_earlier earlier l.entry) (least_has (λ m. shares m l.entry) earlier) (first_rival (earlier ++ (l ∷ [])) ls)

-- the number of the earlier line with which the line that 27 refuses collides; 0 where 27 is not what refuses
unfoldable pub collides_with : ℕ → List Line → ℕ
collides_with words lines = cond (eqb (refusal_of words lines).number 27) (first_rival [] lines) 0

-- a line's number, where 0 stands for no line
abbrev pub numbered : ℕ → Option ℕ
numbered n = cond (eqb n 0) None (Some n)
