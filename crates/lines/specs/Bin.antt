-- The words of a BIN, and the one that a line puts at an address (01, File layout; What a CFG may say).
use Rattle.std.specs.Prelude.{ℕ, ◌/◌, ◌*◌, ◌+◌, ◌-◌, List, length, get_or}
use Rattle.places.specs.declared.BinWord.{BinWord}
use Rattle.places.specs.declared.Console.{Console}

-- how many words a BIN has; BIN words are big endian
abbrev pub bin_words : List ℕ → ℕ
bin_words bin = length bin / 2

abbrev pub bin_word : List ℕ → BinWord → ℕ
bin_word bin w = get_or bin (2 * w.0) 0 * 256 + get_or bin (2 * w.0 + 1) 0

-- a line that puts BIN word lo at address `at` puts the words after it at the addresses after that
abbrev pub bin_place : BinWord → Console → Console → BinWord
bin_place lo at a = record { 0 = lo.0 + (a.0 - at.0) }
