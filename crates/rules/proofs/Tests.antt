-- Rule 26 by the layer; and a line's faults, 25 before 26.
use Prim.Native.Nat.{ℕ, ◌<◌, ◌≤◌}
use Rattle.std.specs.Prelude.{Ok, Err}
use mathlib.Core.Bool.{Bool, true, false, not}
use mathlib.Core.Path.{◌≡◌}
use lib.Dec.{ltb}
use borrow.Author.Tests.{eq-eqb, ne_eqb, lt-ltb, le-ltb}
use Rattle.basics.specs.declared.Refusal.{Refusal}
use Rattle.basics.specs.Refusals.{refuse, first_refusal, passed}
use Rattle.places.specs.declared.Console.{Console}
use Rattle.places.specs.Limits.{chapter_pages}
use Rattle.places.specs.Places.{console}
use Rattle.lines.specs.declared.Entry.{Entry}
use Rattle.lines.specs.declared.Line.{Line}
use Rattle.lines.specs.Lines.{first, last, layer}
use Rattle.rules.specs.Rules.{plain_shape, page_shape, misshapen, out_of_range, not_allowed, rows_of}

module _ (e : Entry) (at : Console) (t b : ℕ) (s : Bool) (ea : at ≡ console (first e)) (et : t ≡ layer e) (eb : b ≡ last e) where
  pub misshapen_plain : t ≡ 0 → s ≡ plain_shape at.0 b → not s ≡ misshapen e
  misshapen_plain h es = rw (es, ea, eb, ← et, eq-eqb t 0 h)

  pub misshapen_large : (t ≡ 0 → ⊥) → chapter_pages < t → ltb chapter_pages t ≡ misshapen e
  misshapen_large h l = rw (← et, ne_eqb t 0 h, lt-ltb chapter_pages t l)

  pub misshapen_page : (t ≡ 0 → ⊥) → t ≤ chapter_pages → s ≡ page_shape at.0 b → not s ≡ misshapen e
  misshapen_page h l es = rw (es, ea, eb, ← et, ne_eqb t 0 h, le-ltb chapter_pages t l)

module _ (words : ℕ) (l : Line) (b : Bool) (eb : b ≡ out_of_range words l.entry) where
  pub fault_range : b ≡ true → (r : Refusal) → r ≡ refuse 25 l.source → Err r ≡ passed (first_refusal (rows_of words l))
  fault_range h r er = rw (er, ← eb, h)

  module _ (h : b ≡ false) (d : Bool) (ed : d ≡ not_allowed l) where
    pub fault_shape : d ≡ true → (r : Refusal) → r ≡ refuse 26 l.source → Err r ≡ passed (first_refusal (rows_of words l))
    fault_shape g r er = rw (er, ← eb, h, ← ed, g)

    pub fault_none : d ≡ false → Ok tt ≡ passed (first_refusal (rows_of words l))
    fault_none g = rw (← eb, h, ← ed, g)
