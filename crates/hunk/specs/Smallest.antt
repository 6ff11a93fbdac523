-- The form that a data block is written in: the smallest that can carry its words (02, W-207).
use Rattle.std.specs.Prelude.{ℕ, zero, suc, ◌-◌, max, List, Bool, true, false, cond, not, ◌&&◌, ◌||◌, ltb, leb, get_or, length}
use Rattle.hunk.specs.declared.Form.{Form}
use Rattle.hunk.specs.declared.Form.TheVariants.{Bytes, Decles, Words, Reserved}
use Rattle.hunk.specs.Forms.{most_for, size_for, data_in}

-- the largest of the first n words; of all words but the last
unfoldable pub largest : ℕ → List ℕ → ℕ
largest zero words = 0
largest (suc n) words = max (largest n words) (get_or words n 0)

abbrev pub top_of : List ℕ → ℕ
top_of words = largest (length words - 1) words

-- a word that a form can hold before its last one: 8 bits, 10 bits, any (001, "N-1 8-bit data bytes", "decles", "N 16-bit words")
abbrev pub can_hold : Form → ℕ → Bool
can_hold Bytes w = ltb w 0x100
can_hold Decles w = ltb w 0x400
can_hold Words w = true
can_hold Reserved w = false

-- a form can carry n words whose largest but the last is top
unfoldable pub carries : Form → ℕ → ℕ → Bool
carries f n top = leb 1 n && (leb n (most_for f) && can_hold f top)

-- of two forms the first, where it can carry them and the second cannot or takes no fewer bytes; else the second
unfoldable pub smaller : Form → Form → ℕ → ℕ → Form
smaller f g n top = cond (carries f n top && (not (carries g n top) || leb (size_for f n) (size_for g n))) f g

-- the smallest of the three forms; on a tie 16-bit before 10-bit before 8-bit
unfoldable pub form_for : List ℕ → Form
form_for words = smaller Words (smaller Decles Bytes (length words) (top_of words)) (length words) (top_of words)

-- words as a data block
unfoldable pub data_of : List ℕ → List ℕ
data_of words = data_in (form_for words) words
