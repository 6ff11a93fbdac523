-- What a Locutus paragraph holds, as the code comes to it.
use Prim.Native.Nat.{ℕ, ◌≤◌, ◌<◌, ◌+◌, ◌*◌, ◌/◌, ◌%◌}
use mathlib.Core.Path.{◌≡◌}
use lib.ListN.{get_or}
use borrow.Author.Tests.{le-ltb, lt-ltb}
use Rattle.places.specs.Limits.{layers, paragraphs, page_paragraphs}
use Rattle.layout.specs.declared.found.Survey.{Survey}
use Rattle.layout.specs.Code.Entries.{slot_in, paragraph_in, held_in}

pub held_none : (s : Survey) (p : ℕ) → s.pages ≤ p / page_paragraphs → 0 ≡ held_in s p
unfolding held_in
held_none s p h = rw (le-ltb (p / page_paragraphs) s.pages h)

pub held_some : (s : Survey) (p t q i : ℕ) → p / page_paragraphs < s.pages → t ≡ slot_in s p → q ≡ paragraph_in s p → i ≡ paragraphs * (t % layers) + q
    → get_or s.cells i 0 ≡ held_in s p
unfolding held_in
held_some s p t q i h es eq ei = rw (lt-ltb (p / page_paragraphs) s.pages h, ei, es, eq)
