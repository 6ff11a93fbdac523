-- The drawing, as the code comes to it.
use Prim.Native.Nat.{ℕ}
use mathlib.Core.List.{List}
use mathlib.Core.Bool.{Bool}
use mathlib.Core.Path.{◌≡◌}
use Rattle.basics.specs.Tables.{table}
use Rattle.places.specs.Limits.{paragraphs, locutus_paragraphs}
use Rattle.layout.specs.declared.found.Survey.{Survey}
use Rattle.layout.specs.Code.Entries.{flips_by, mapping_in, permissions_in, mark_in, drawn_by}

pub drawn_as :
    (s : Survey) (f mapping permissions : List ℕ) (marks : List Bool) → f ≡ flips_by s → mapping ≡ table paragraphs (mapping_in s f)
    → permissions ≡ table paragraphs (permissions_in s f) → marks ≡ table locutus_paragraphs (mark_in s)
    → record { mapping = mapping; permissions = permissions; flips = f; pages = s.pages; marks = marks } ≡ drawn_by s
unfolding drawn_by
drawn_as s f mapping permissions marks ef em ep ek = rw (em, ep, ek, ef)
