-- The bytes of a text, and those that may stand in one (01, What a CFG may say).
use Prim.Native.String.{String, [] as no_more, ◌∷◌ as ◌then◌}
use Rattle.std.specs.Prelude.{ℕ, suc, List, [], ◌∷◌, Bool, cond, not, ◌&&◌, ◌||◌, eqb, leb, get_or}
use Prim.Native.Char.{code}

abbrev pub text : String → List ℕ
text no_more = []
text (c then s) = code c ∷ text s

abbrev pub tab : ℕ
tab = code "\t"

abbrev pub lf : ℕ
lf = code "\n"

abbrev pub cr : ℕ
cr = code "\r"

-- a CR before LF: a byte, and the next, which is 0 where the text ends
abbrev pub cr_lf : ℕ → ℕ → Bool
cr_lf b next = eqb b cr && eqb next lf

-- 0x20 to 0x7E, tab, LF, and CR only before LF
abbrev pub allowed : ℕ → ℕ → Bool
allowed b next = (leb 0x20 b && leb b 0x7E) || eqb b tab || eqb b lf || cr_lf b next

-- how many bytes stand before the first that passes a test of it and of the next; all of them where none passes
unfoldable pub until : (ℕ → ℕ → Bool) → List ℕ → ℕ
until f [] = 0
until f (b ∷ s) = cond (f b (get_or s 0 0)) 0 (suc (until f s))

abbrev pub foreign : ℕ → ℕ → Bool
foreign b next = not (allowed b next)

-- the place of the first byte that is not allowed; the text's length where each is
abbrev pub first_foreign : List ℕ → ℕ
first_foreign s = until foreign s
