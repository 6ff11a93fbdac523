-- The words of a line (01, What a CFG may say): blanks part words, `-` and `=` are words by themselves, and `;` ends the line.
-- So `$5000PAGE` is one word, which no entry has: that is 01's rule on the blanks around PAGE.
use Rattle.std.specs.Prelude.{ℕ, List, [], ◌∷◌, cond, ◌||◌, eqb, get_or}
use Prim.Native.Char.{code}
use Rattle.text.specs.Bytes.{tab}
use Rattle.grammar.specs.declared.Kind.{Kind}
use Rattle.grammar.specs.declared.Kind.TheVariants.{Blank, Sign, Comment, Letter}

-- what a byte does to the words
abbrev pub kind_of : ℕ → Kind
kind_of b =
    cond (eqb b (code " ") || eqb b tab) Blank
    (cond (eqb b (code "-") || eqb b (code "=")) Sign (cond (eqb b (code ";")) Comment Letter))

-- a line cut into words: the letters that stand at its front, and the words after them
pub record Cut : Type 0 where
  pub front : List ℕ
  pub rest : List (List ℕ)

abbrev pub nothing : Cut
nothing = record { front = []; rest = [] }

-- letters are a word, where there are any
abbrev pub push : List ℕ → List (List ℕ) → List (List ℕ)
push [] ws = ws
push (b ∷ w) ws = (b ∷ w) ∷ ws

abbrev pub words_after : Cut → List (List ℕ)
words_after c = push c.front c.rest

-- one byte before what is cut
abbrev pub before : Kind → ℕ → Cut → Cut
before Blank b c = record { front = []; rest = words_after c }
before Sign b c = record { front = []; rest = (b ∷ []) ∷ words_after c }
before Comment b c = nothing
before Letter b c = record { front = b ∷ c.front; rest = c.rest }

unfoldable pub cut : List ℕ → Cut
cut [] = nothing
cut (b ∷ s) = before (kind_of b) b (cut s)

-- the words of a line
abbrev pub words_of : List ℕ → List (List ℕ)
words_of line = words_after (cut line)

-- word k, counted from 0; no bytes where there are fewer words
abbrev pub word : List (List ℕ) → ℕ → List ℕ
word ws k = get_or ws k []
