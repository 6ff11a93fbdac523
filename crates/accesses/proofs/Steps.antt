-- One access made over lent tables, and its answer noted: a law for each of what a line may say.
use Rattle.std.specs.Prelude.{Option}
use Prim.Native.Nat.{ℕ, ◌+◌, ◌<◌, ◌≤◌}
use mathlib.Core.List.{List}
use mathlib.Core.Path.{◌≡◌, refl, sym, ◌∙◌}
use mathlib.Core.Bool.{Bool, false}
use native.Mathlib.Omega.{arith}
use lib.ListN.{set}
use Rattle.places.specs.declared.Console.{Console}
use Rattle.switches.specs.Flips.{active}
use Rattle.jlp.specs.declared.Jlp.{Jlp}
use Rattle.jlp.specs.Accelerators.{latches, written_jlp, reset_jlp}
use Rattle.jlp.specs.Laws.Accelerators.{unlatched}
use Rattle.cart.specs.Readable.{readable_of}
use Rattle.cart.specs.Reads.{heard, read_by}
use Rattle.cart.specs.Writes.{leaves, leaves_ram, leaves_flash, leaves_readable}
use Rattle.cart.specs.Run.{World}
use Rattle.accesses.specs.declared.Made.{Made}
use Rattle.std.specs.Prelude.{Option as Maybe, Some, None}
use Rattle.accesses.specs.declared.Access.{Access}
use Rattle.accesses.specs.declared.Access.TheVariants.{Read, Write, Reset}
use Rattle.accesses.specs.Code.Steps.{tabled, stepped, made, count_of, noted, Fits}

-- a write that goes to no register of the accelerators leaves them
pub passed_by : (j : Jlp) (at : Console) (v : ℕ) (b : Bool) → b ≡ latches j at v → b ≡ false → j ≡ written_jlp j at v
passed_by j at v b e f = sym (unlatched j at v (sym e ∙ f))

-- what is answered, and what has become of the tables, the number of readable paragraphs, the flash and the RAM, are those of the line
abbrev pub Done : World → Access → Made → List ℕ → List ℕ → ℕ → List ℕ → List ℕ → Type 0
Done w s r mapping permissions readable flash ram =
    (r ≡ made w s) × (mapping ≡ (stepped w s).cartridge.mapping) × (permissions ≡ (stepped w s).cartridge.permissions)
    × (readable ≡ (stepped w s).cartridge.readable) × (flash ≡ (stepped w s).flash) × (ram ≡ (stepped w s).ram)

module _ (im ip m p flips : List ℕ) (readable : ℕ) (j : Jlp) (flash ram : List ℕ) (s : Access) where
  abbrev W : World
  W = tabled (active im ip) (active m p) flips readable j flash ram

  pub read_done : (at : Console) (x : Option ℕ) (n : ℕ) → s ≡ Read at → x ≡ read_by j (active m p) ram at → n ≡ heard x
      → Done W s (record { jlp = j; reply = Some n }) m p readable flash ram
  read_done at x n e f g = rw (e, g, f) (refl, refl, refl, refl, refl, refl)

  pub write_done : (at : Console) (v : ℕ) (k : Jlp) (u : ℕ) (y z a b : List ℕ) → s ≡ Write at v
      → u ≡ leaves_readable j (active m p) flips readable at v → y ≡ (leaves j (active m p) flips at v).mapping → z ≡ (leaves j (active m p) flips at v).permissions
      → b ≡ leaves_ram j (active m p) flips flash ram at v → a ≡ leaves_flash j (active m p) flips flash ram at v → k ≡ written_jlp j at v
      → Done W s (record { jlp = k; reply = None }) y z u a b
  write_done at v k u y z a b e f g h i l q = rw e (rw q, g, h, f, l, i)

  pub reset_done : (k : Jlp) (start : ℕ) → s ≡ Reset → start ≡ readable_of ip → k ≡ reset_jlp j
      → Done W s (record { jlp = k; reply = None }) im ip start flash ram
  reset_done k start e f g = rw e (rw g, refl, refl, f, refl, refl)

-- an answer in the buffer
module _ (r : Maybe ℕ) (k : ℕ) where
  pub nothing_next : r ≡ None → k ≡ k + count_of r
  nothing_next e = rw e (omega arith)

  pub nothing_noted : (out : List ℕ) → r ≡ None → out ≡ noted r k out
  nothing_noted out e = rw e

  module _ (n : ℕ) (e : r ≡ Some n) where
    pub word_next : k + 1 ≡ k + count_of r
    word_next = rw e

    pub word_noted : (out : List ℕ) → set out k n ≡ noted r k out
    word_noted out = rw e

    pub word_fits : (m : ℕ) → Fits r k m → k < m
    word_fits m h = let g : k + 1 ≤ m = rw e at h in omega arith
