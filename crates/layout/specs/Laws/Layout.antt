-- Laws of `Layout`.
use Rattle.std.specs.Prelude.{ℕ, ◌*◌, ◌/◌, ◌+◌, ◌%◌, List}
use Rattle.places.specs.declared.Console.{Console}
use Rattle.places.specs.declared.Locutus.{Locutus}
use Rattle.places.specs.Places.{locutus}
use Rattle.places.specs.Limits.{chapter_size, page_size}
use Rattle.lines.specs.declared.Line.{Line}
use Rattle.layout.specs.Layout.{page_of}

-- where layer t keeps the word of an address: words keep their place within the page
unfoldable pub place_of : List Line → ℕ → Console → Locutus
place_of lines t a = locutus (page_size * page_of lines (a.0 / chapter_size) t + a.0 % chapter_size)
