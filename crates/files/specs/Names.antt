-- Names of files: the folder, what the system takes for a name, and the name of a part file beside its target.
use Rattle.std.specs.Prelude.{ℕ, zero, suc, ◌+◌, ◌/◌, ◌%◌, Bool, cond, not, ◌&&◌, List, [], ◌∷◌, ◌++◌, eqb, ltb, length, get_or, take, drop, Option, Some, None}
use Rattle.basics.specs.Counts.{all}
use Rattle.basics.specs.Lists.{joined}
use Rattle.files.specs.Digits.{hex_digit_ascii}

-- the place behind the last `/` of the first n bytes
unfoldable pub behind : List ℕ → ℕ → ℕ
behind s zero = 0
behind s (suc n) = cond (eqb (get_or s n 0) 47) (suc n) (behind s n)

-- how many bytes name the folder
abbrev pub folder_of : List ℕ → ℕ
folder_of s = behind s (length s)

-- under 4,096 bytes, and none of them 0 (POSIX: PATH_MAX, with the byte that ends a name)
unfoldable pub is_name : List ℕ → Bool
is_name s = ltb (length s) 4096 && all (length s) (λ i. not (eqb (get_or s i 0) 0))

-- a byte as two hexadecimal digits
abbrev pub hex_of : ℕ → List ℕ
hex_of b = hex_digit_ascii (b / 16 % 16) ∷ hex_digit_ascii (b % 16) ∷ []

-- ".luigi-"
abbrev pub mark : List ℕ
mark = 46 ∷ 108 ∷ 117 ∷ 105 ∷ 103 ∷ 105 ∷ 45 ∷ []

-- the name of a part: the target's folder, the mark, and a tag of twelve bytes
unfoldable pub part_of : List ℕ → List ℕ → List ℕ
part_of name tag = take (folder_of name) name ++ (mark ++ joined hex_of tag)

-- a part's name has 31 bytes behind its folder, and stands at the buffer's front; where it does not fit, nothing is written and it has no length
abbrev pub is_short : List ℕ → ℕ → Bool
is_short name room = ltb room (folder_of name + 31)

unfoldable pub part_length : List ℕ → ℕ → Option ℕ
part_length name room = cond (is_short name room) None (Some (folder_of name + 31))

unfoldable pub part_in : List ℕ → List ℕ → List ℕ → List ℕ
part_in name tag out = cond (is_short name (length out)) out (part_of name tag ++ drop (folder_of name + 31) out)
