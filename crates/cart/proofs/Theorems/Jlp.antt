-- The accelerators over the cartridge (02, W-206): while off, all is as if there were none, but for the word that turns them on; while on,
-- nothing in their window goes by the tables; with field 0 they never come on.
use Rattle.std.specs.Prelude.{◌≡◌, ℕ, Bool, true, false, cond, List, Option, Some, None}
use Rattle.std.proofs.Math.Path.{refl, sym, ap}
use Rattle.std.proofs.Common.{◌∙◌}
use Rattle.basics.specs.Laws.Tests.{true_is_not_false}
use Rattle.places.specs.declared.Console.{Console}
use Rattle.switches.specs.Flips.{Active, asks, acts}
use Rattle.switches.specs.Banks.{register_at, banked}
use Rattle.flash.specs.declared.Saves.{Saves}
use Rattle.flash.specs.Flash.{Memories, memories}
use Rattle.jlp.specs.declared.Jlp.{Jlp}
use Rattle.jlp.specs.Window.{in_window, in_ram}
use Rattle.jlp.specs.Accelerators.{fresh_jlp, turns_on}
use Rattle.jlp.specs.Laws.Accelerators.{off_takes, on_takes, none_taken}
use Rattle.cart.specs.declared.Taker.{Taker}
use Rattle.cart.specs.declared.Taker.TheVariants.{Accelerators, Bank, Flip, Ram}
use Rattle.cart.specs.Cells.{cell_at, window_cell}
use Rattle.cart.specs.Reads.{read_by}
use Rattle.cart.specs.Writes.{bank_taker, flip_taker, mapped_taker, window_taker, taker_of, left_by, memories_by, leaves, leaves_ram, leaves_flash, assigned, leaves_readable}

-- field 0, never on: writes go by the tables alone
module _ (j : Jlp) (none : j.field ≡ 0) (off : j.on ≡ false) (a : Active) (at : Console) where
  pub unaccelerated_taker : (flips : List ℕ) (v : ℕ) → taker_of j a flips at v ≡ mapped_taker a flips at v
  unaccelerated_taker flips v = rw (none_taken j none off at v)

-- a write that goes by the tables is not the accelerators', so that what it leaves of the memories does not depend on the flash's registers
abbrev pub by_tables : Taker → Bool
by_tables Accelerators = false
by_tables (Bank p first) = true
by_tables (Flip n) = true
by_tables (Ram c) = true

chosen : (b : Bool) (t u : Taker) → by_tables t ≡ true → by_tables u ≡ true → by_tables (cond b t u) ≡ true
chosen true t u e f = e
chosen false t u e f = f

bank_by_tables : (permissions : List ℕ) (r : Option ℕ) (v : ℕ) (next : Taker) → by_tables next ≡ true → by_tables (bank_taker permissions r v next) ≡ true
bank_by_tables permissions (Some p) v next e = chosen (banked permissions p) _ next refl e
bank_by_tables permissions None v next e = e

flip_by_tables : (flips : List ℕ) (r : Option ℕ) (next : Taker) → by_tables next ≡ true → by_tables (flip_taker flips r next) ≡ true
flip_by_tables flips (Some n) next e = chosen (acts flips n) (Flip n) next refl e
flip_by_tables flips None next e = e

pub mapped_by_tables : (a : Active) (flips : List ℕ) (at : Console) (v : ℕ) → by_tables (mapped_taker a flips at v) ≡ true
mapped_by_tables a flips at v =
    bank_by_tables a.permissions (register_at at) v _ (flip_by_tables flips (asks at v) (Ram (cell_at a at)) refl)

pub tables_memories : (t : Taker) (s u : Saves) (m : Memories) (at : Console) (v : ℕ) → by_tables t ≡ true → memories_by t s m at v ≡ memories_by t u m at v
tables_memories Accelerators s u m at v e = true_is_not_false e refl
tables_memories (Bank p first) s u m at v e = refl
tables_memories (Flip n) s u m at v e = refl
tables_memories (Ram c) s u m at v e = refl

-- and leaves the flash as it is
pub tables_flash : (t : Taker) (s : Saves) (m : Memories) (at : Console) (v : ℕ) → by_tables t ≡ true → (memories_by t s m at v).flash ≡ m.flash
tables_flash Accelerators s m at v e = true_is_not_false e refl
tables_flash (Bank p first) s m at v e = refl
tables_flash (Flip n) s m at v e = refl
tables_flash (Ram c) s m at v e = refl

-- off: a read is as with field 0, and so is a write but for $4A5A to $8033
pub record Alike (j k : Jlp) (a : Active) (flips : List ℕ) (at : Console) (v : ℕ) : Type 0 where
  pub tables : leaves j a flips at v ≡ leaves k a flips at v
  pub ram : (flash ram : List ℕ) → leaves_ram j a flips flash ram at v ≡ leaves_ram k a flips flash ram at v
  pub flash : (flash ram : List ℕ) → leaves_flash j a flips flash ram at v ≡ leaves_flash k a flips flash ram at v
  pub number : assigned j a flips at v ≡ assigned k a flips at v
  pub readable : (kept : ℕ) → leaves_readable j a flips kept at v ≡ leaves_readable k a flips kept at v

module _ (j : Jlp) (off : j.on ≡ false) (a : Active) (at : Console) where
  pub off_reads : (ram : List ℕ) → read_by j a ram at ≡ read_by (fresh_jlp 0 0) a ram at
  unfolding read_by
  off_reads ram = rw off

  pub off_writes : (flips : List ℕ) (v : ℕ) → turns_on j.field at v ≡ false → Alike j (fresh_jlp 0 0) a flips at v
  unfolding leaves leaves_ram leaves_flash assigned leaves_readable
  off_writes flips v n =
      let ours : taker_of j a flips at v ≡ mapped_taker a flips at v = rw (off_takes j at v off ∙ n) in
      let theirs : taker_of (fresh_jlp 0 0) a flips at v ≡ mapped_taker a flips at v = rw (none_taken (fresh_jlp 0 0) refl refl at v) in
      let left : (flash ram : List ℕ) → memories_by (taker_of j a flips at v) j.saves (memories flash ram) at v
      ≡ memories_by (taker_of (fresh_jlp 0 0) a flips at v) (fresh_jlp 0 0).saves (memories flash ram) at v =
      λ flash ram.
      ap (λ (t : Taker). memories_by t j.saves (memories flash ram) at v) ours
      ∙ tables_memories (mapped_taker a flips at v) j.saves (fresh_jlp 0 0).saves (memories flash ram) at v (mapped_by_tables a flips at v)
      ∙ ap (λ (t : Taker). memories_by t (fresh_jlp 0 0).saves (memories flash ram) at v) (sym theirs) in
      record {
        tables = rw (ours, theirs);
        ram = λ flash ram. ap (λ (m : Memories). m.ram) (left flash ram);
        flash = λ flash ram. ap (λ (m : Memories). m.flash) (left flash ram);
        number = rw (ours, theirs);
        readable = λ kept. rw (ours, theirs);
      }

-- on: in the window neither a read nor a write asks the tables, and a write leaves them
module _ (j : Jlp) (on : j.on ≡ true) (at : Console) (inside : in_window at ≡ true) where
  pub on_reads : (a b : Active) (ram : List ℕ) → read_by j a ram at ≡ read_by j b ram at
  unfolding read_by
  on_reads a b ram = rw (on, inside)

  takes_it : (a : Active) (flips : List ℕ) (v : ℕ) → taker_of j a flips at v ≡ window_taker at
  takes_it a flips v = rw (on_takes j at v on inside)

  kept : (b : Bool) (a : Active) (flips : List ℕ) → left_by (cond b (Ram (window_cell at)) Accelerators) a flips ≡ a
  kept true a flips = refl
  kept false a flips = refl

  pub on_leaves : (a : Active) (flips : List ℕ) (v : ℕ) → leaves j a flips at v ≡ a
  unfolding leaves
  on_leaves a flips v = rw (takes_it a flips v) (kept (in_ram at) a flips)

  pub on_stores : (a b : Active) (f g : List ℕ) (flash ram : List ℕ) (v : ℕ) → leaves_ram j a f flash ram at v ≡ leaves_ram j b g flash ram at v
  unfolding leaves_ram
  on_stores a b f g flash ram v = ap (λ (t : Taker). (memories_by t j.saves (memories flash ram) at v).ram) (takes_it a f v ∙ sym (takes_it b g v))

  pub on_saves : (a b : Active) (f g : List ℕ) (flash ram : List ℕ) (v : ℕ) → leaves_flash j a f flash ram at v ≡ leaves_flash j b g flash ram at v
  unfolding leaves_flash
  on_saves a b f g flash ram v = ap (λ (t : Taker). (memories_by t j.saves (memories flash ram) at v).flash) (takes_it a f v ∙ sym (takes_it b g v))
