-- What a sign promises: a read anywhere in a silent paragraph gets silence; a write anywhere in ROM changes no word; pages show exactly where a flip
-- entry that acts changes the paragraph, the silent ranges and the accelerators' window aside.
use Rattle.std.specs.Prelude.{ℕ, true, false, ◌&&◌, List, ◌↔◌, ◌≡◌, Option, Some, None}
use Rattle.std.proofs.Common.{⊎_elim, sym, arith}
use Rattle.std.proofs.Math.Path.{ap}
use Rattle.basics.specs.Laws.Tests.{cases, and_false}
use Rattle.places.specs.declared.Console.{Console}
use Rattle.switches.specs.Flips.{asks, acts}
use Rattle.switches.specs.Banks.{register_at, banked}
use Rattle.flash.specs.declared.Saves.{Saves}
use Rattle.flash.specs.Flash.{Memories, memories, ram_start, ram_end}
use Rattle.flash.specs.Laws.Registers.{others_ask_nothing}
use Rattle.jlp.specs.Window.{in_window, on_at}
use Rattle.jlp.specs.Accelerators.{turns_on, takes}
use Rattle.jlp.specs.Laws.Window.{between_below}
use Rattle.jlp.specs.Laws.Accelerators.{turns_on_exactly}
use Rattle.cart.specs.declared.Cartridge.{Cartridge}
use Rattle.cart.specs.declared.Taker.{Taker}
use Rattle.cart.specs.declared.Taker.TheVariants.{Ram}
use Rattle.cart.specs.Cells.{READ, WRITE, paragraph, cell_at}
use Rattle.cart.specs.Reads.{silent, read_by}
use Rattle.cart.specs.Writes.{bank_taker, flip_taker, mapped_taker, window_taker, taker_of, memories_by, leaves_ram, leaves_flash}
use Rattle.cart.specs.Cartridges.{active_of, read_of, write_ram_of, write_flash_of}
use Rattle.cart.specs.Laws.Reads.{fetch_shut}
use Rattle.cart.specs.Laws.Writes.{store_shut}
use Rattle.chart.specs.declared.Shown.TheVariants.{Silent, Paged, Rom}
use Rattle.chart.specs.Chart.{start_of, shown_at}
use Rattle.chart.specs.Laws.Pages.{Turns, paged_exactly}
use Rattle.chart.specs.Laws.Says.{permission, is_theirs, said, silent_at, theirs_at}
use Rattle.chart.specs.Laws.Whole.{silent_outside}

-- a read anywhere in a silent paragraph gets silence, whatever the RAM
module _ (c : Cartridge) (ram : List ℕ) (at : Console) where
  in_range : silent at ≡ true → read_of c ram at ≡ None
  unfolding read_by
  in_range q = rw (and_false c.jlp.on (in_window at) (silent_outside at q), q)

  unread : (c.jlp.on && in_window at) ≡ false → READ (permission c (paragraph at)) ≡ false → read_of c ram at ≡ None
  unfolding read_by
  unread t r =
      cases (silent at) (λ q. in_range q) (λ q. rw (t, q) (sym (fetch_shut (cell_at (active_of c) at) ram (rw r))))

  pub silent_reads : shown_at c (paragraph at) ≡ Silent → read_of c ram at ≡ None
  silent_reads e =
      ⊎_elim (λ q. in_range (silent_at c at true q)) (λ h. unread (theirs_at c at false h.0.free) h.1) (said c (paragraph at) Silent e)

-- the next taker leaves the memories as they are, and so does a switch or a flip before it
bank_keeps : (permissions : List ℕ) (r : Option ℕ) (next : Taker) (s : Saves) (m : Memories) (at : Console) (v : ℕ) → memories_by next s m at v ≡ m
    → memories_by (bank_taker permissions r v next) s m at v ≡ m
bank_keeps permissions (Some p) next s m at v e = cases (banked permissions p) (λ b. rw b) (λ b. rw b e)
bank_keeps permissions None next s m at v e = e

flip_keeps : (flips : List ℕ) (r : Option ℕ) (next : Taker) (s : Saves) (m : Memories) (at : Console) (v : ℕ) → memories_by next s m at v ≡ m
    → memories_by (flip_taker flips r next) s m at v ≡ m
flip_keeps flips (Some n) next s m at v e = cases (acts flips n) (λ b. rw b) (λ b. rw b e)
flip_keeps flips None next s m at v e = e

-- a write anywhere in ROM changes no word of the RAM, nor of the flash
module _ (c : Cartridge) (flash ram : List ℕ) (at : Console) (v : ℕ) where
  abbrev taker : Taker
  taker = taker_of c.jlp (active_of c) c.flips at v

  by_tables_lem : WRITE (permission c (paragraph at)) ≡ false
      → memories_by (mapped_taker (active_of c) c.flips at v) c.jlp.saves (memories flash ram) at v ≡ memories flash ram
  by_tables_lem w =
      bank_keeps c.permissions (register_at at) _ c.jlp.saves (memories flash ram) at v
      (flip_keeps c.flips (asks at v) (Ram (cell_at (active_of c) at)) c.jlp.saves (memories flash ram) at v
      (ap (λ (r : List ℕ). memories flash r) (sym (store_shut (cell_at (active_of c) at) ram v (rw w)))))

  -- the word that turns the accelerators on goes to none of their commands
  turning : turns_on c.jlp.field at v ≡ true → memories_by (window_taker at) c.jlp.saves (memories flash ram) at v ≡ memories flash ram
  turning t =
      let e : at.0 ≡ on_at = ((turns_on_exactly c.jlp.field at v).0 t).0 in
      rw (
        between_below ram_start ram_end at.0 (omega arith),
        others_ask_nothing c.jlp.saves at v (λ h. omega arith) (λ h. omega arith) (λ h. omega arith),
      )

  unwritten : (c.jlp.on && in_window at) ≡ false → WRITE (permission c (paragraph at)) ≡ false → memories_by taker c.jlp.saves (memories flash ram) at v ≡ memories flash ram
  unfolding takes
  unwritten t w = cases (turns_on c.jlp.field at v) (λ o. rw o (turning o)) (λ o. rw (o, t) (by_tables_lem w))

  kept : shown_at c (paragraph at) ≡ Rom → memories_by taker c.jlp.saves (memories flash ram) at v ≡ memories flash ram
  kept e = let h = said c (paragraph at) Rom e in unwritten (theirs_at c at false h.0.free) h.2

  pub rom_keeps_ram : shown_at c (paragraph at) ≡ Rom → write_ram_of c flash ram at v ≡ ram
  unfolding leaves_ram
  rom_keeps_ram e = ap (λ (m : Memories). m.ram) (kept e)

  pub rom_keeps_flash : shown_at c (paragraph at) ≡ Rom → write_flash_of c flash ram at v ≡ flash
  unfolding leaves_flash
  rom_keeps_flash e = ap (λ (m : Memories). m.flash) (kept e)

-- pages
module _ (c : Cartridge) (p : ℕ) where
  pages : shown_at c p ≡ Paged → (silent (start_of p) ≡ false) × (is_theirs c p ≡ false) × Turns c.flips p
  pages e = let h = said c p Paged e in (h.0, h.1, (paged_exactly c.flips p).0 h.2)

  back : (silent (start_of p) ≡ false) × (is_theirs c p ≡ false) × Turns c.flips p → shown_at c p ≡ Paged
  unfolding shown_at
  back h = rw (h.0, h.1, (paged_exactly c.flips p).1 h.2)

  pub pages_exactly : (shown_at c p ≡ Paged) ↔ ((silent (start_of p) ≡ false) × (is_theirs c p ≡ false) × Turns c.flips p)
  pages_exactly = (pages, back)
