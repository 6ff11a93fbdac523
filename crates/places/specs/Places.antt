-- Makers of the three numberings and of page numbers (01, What the cartridge desk gets).
use Rattle.std.specs.Prelude.{ℕ}
use Rattle.places.specs.declared.Console.{Console}
use Rattle.places.specs.declared.Locutus.{Locutus}
use Rattle.places.specs.declared.BinWord.{BinWord}
use Rattle.places.specs.declared.Page.{Page}

abbrev pub console : ℕ → Console
console a = record { 0 = a }

abbrev pub locutus : ℕ → Locutus
locutus l = record { 0 = l }

abbrev pub bin_word : ℕ → BinWord
bin_word w = record { 0 = w }

abbrev pub page : ℕ → Page
page y = record { 0 = y }
