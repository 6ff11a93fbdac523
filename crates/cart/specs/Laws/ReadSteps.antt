-- Laws of reads, step by step: a cell, a register and an address as they are decided one after the other, and the source that they make.
use Rattle.std.specs.Prelude.{◌≡◌, ℕ, ◌<◌, ◌≤◌, Bool, true, false, not, ◌&&◌, List, slice_index, Option, Some, None}
use Rattle.std.proofs.Common.{sym, ◌∙◌}
use borrow.Author.Tests.{lt-ltb, le-ltb, not-true, not-false}
use Rattle.basics.specs.Laws.Tests.{and_true, cond_true}
use Rattle.places.specs.declared.Console.{Console}
use Rattle.places.specs.declared.Locutus.{Locutus}
use Rattle.places.specs.Limits.{lent}
use Rattle.switches.specs.Flips.{Active}
use Rattle.jlp.specs.declared.Jlp.{Jlp}
use Rattle.jlp.specs.Window.{in_window, in_ram, ram_location}
use Rattle.jlp.specs.Accelerators.{heard_at}
use Rattle.cart.specs.declared.Rights.{Rights}
use Rattle.cart.specs.declared.Cell.{Cell}
use Rattle.cart.specs.declared.Source.{Source}
use Rattle.cart.specs.declared.Source.TheVariants.{Nobody, Latched, Ram}
use Rattle.cart.specs.Cells.{cell_at, window_cell}
use Rattle.cart.specs.Laws.Reads.{fetch_shut}
use Rattle.cart.specs.Reads.{silent, fetched, register_source, window_source, mapped_source, source_of}

-- past the n words that are lent; open
module _ (c : Cell) (ram : List ℕ) where
  module _ (n : ℕ) (h : n ≡ lent ram) (r : not c.rights.read ≡ false) where
    pub fetch_past : n ≤ c.location.0 → None ≡ fetched c ram
    unfolding fetched
    fetch_past l = rw (not-false c.rights.read r, ← h, le-ltb _ _ l)

    pub fetch_open : c.location.0 < n → Some (slice_index ram c.location.0) ≡ fetched c ram
    unfolding fetched
    fetch_open l = rw (not-false c.rights.read r, ← h, lt-ltb _ _ l)

pub ruleset fetches = (fetch_shut, fetch_past, fetch_open)

-- the word of JLP RAM as it is put together; and a register that answers
pub window_is : (at : Console) (l : Locutus) (r : Rights) → l ≡ ram_location at → r ≡ record { read = true; write = true; narrow = false }
    → record { location = l; rights = r } ≡ window_cell at
window_is at l r e f = rw (e, f)

pub register_word_lem : (h : Option ℕ) (w : ℕ) → h ≡ Some w → Latched w ≡ register_source h
register_word_lem h w e = rw e

-- the word of JLP RAM, or a register, by the code's test of the address
module _ (j : Jlp) (at : Console) (b : Bool) (e : b ≡ in_ram at) where
  pub window_ram : (c : Cell) → b ≡ true → c ≡ window_cell at → Ram c ≡ window_source j at
  window_ram c t h = rw (← e, t, h)

  pub window_register : (h : Option ℕ) (s : Source) → b ≡ false → h ≡ heard_at j at → s ≡ register_source h → s ≡ window_source j at
  window_register h s t f g = rw (← e, t, ← f) g

-- by the tables: a silent range, and any other address
module _ (a : Active) (at : Console) (b : Bool) (e : b ≡ silent at) where
  pub mapped_silent : b ≡ true → Nobody ≡ mapped_source a at
  mapped_silent t = rw (← e, t)

  pub mapped_cell : (c : Cell) → b ≡ false → c ≡ cell_at a at → Ram c ≡ mapped_source a at
  mapped_cell c t h = rw (← e, t, h)

pub ruleset mapped = (mapped_silent, mapped_cell)

-- off; on, and outside of the window; on, and in it
module _ (j : Jlp) (a : Active) (at : Console) (s : Source) where
  pub source_off : not j.on ≡ true → s ≡ mapped_source a at → s ≡ source_of j a at
  source_off o e = rw (not-true j.on o) e

  module _ (b : Bool) (e : b ≡ in_window at) (o : not j.on ≡ false) where
    pub source_outside : not b ≡ true → s ≡ mapped_source a at → s ≡ source_of j a at
    source_outside n h = rw (not-false j.on o, ← e, not-true b n) h

    pub source_inside : not b ≡ false → s ≡ window_source j at → s ≡ source_of j a at
    source_inside n h =
        h ∙ sym (cond_true (j.on && in_window at) (window_source j at) (mapped_source a at) (and_true j.on (in_window at) (not-false j.on o) (sym e ∙ not-false b n)))

pub ruleset sources = (source_off, source_outside, source_inside)
