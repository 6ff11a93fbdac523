-- The bytes of the BIN of a plan, with the words of a RAM: those of ROM, those of the pages, and both.
use Rattle.std.specs.Prelude.{ℕ, List, ◌++◌}
use Rattle.basics.specs.Lists.{joined}
use Rattle.canon.specs.Bin.{be16, paged_words, rom_words}
use Rattle.ledger.specs.Held.{sketched, words_in}
use Rattle.ledger.specs.declared.Sketch.{Sketch}

abbrev pub rom_bytes : Sketch → List ℕ → List ℕ
rom_bytes s ram = joined be16 (rom_words (sketched s) (words_in ram))

abbrev pub page_bytes : Sketch → List ℕ → List ℕ
page_bytes s ram = joined be16 (paged_words (sketched s) (words_in ram))

abbrev pub both_bytes : Sketch → List ℕ → List ℕ
both_bytes s ram = joined be16 (rom_words (sketched s) (words_in ram) ++ paged_words (sketched s) (words_in ram))
