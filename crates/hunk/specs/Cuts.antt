-- How a hunk's words are cut into data blocks (01, How an image is laid out by the builder; 02, W-207, "Keep the data block cuts").
use Rattle.std.specs.Prelude.{ℕ, zero, suc, ◌+◌, ◌-◌, ◌/◌, List, [], ◌∷◌, length, take, drop}
use Rattle.hunk.specs.declared.Form.TheVariants.{Words}
use Rattle.hunk.specs.Forms.{most_for}

-- the most words that a 16-bit data block's count allows, whatever the form of the block that is cut: 62
abbrev pub data_words : ℕ
data_words = most_for Words

-- words cut into n pieces: each has the most words, the last what is left
unfoldable pub pieces : ℕ → List ℕ → List (List ℕ)
pieces zero words = []
pieces (suc n) words = take data_words words ∷ pieces n (drop data_words words)

-- the cuts of a hunk: as few as its words need
unfoldable pub cuts_of : List ℕ → List (List ℕ)
cuts_of words = pieces ((length words + (data_words - 1)) / data_words) words
