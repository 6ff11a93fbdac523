-- Signs, worked: the definitions compute.
use Rattle.std.specs.Prelude.{◌≡◌, refl, replicate, ℕ}
use Rattle.basics.specs.Counts.{any}
use Rattle.jlp.specs.Window.{between}
use Rattle.jlp.specs.Accelerators.{fresh_jlp}
use Rattle.cart.specs.declared.Cartridge.{Cartridge}
use Rattle.cart.specs.Reads.{silent}
use Rattle.cart.specs.Cartridges.{fresh}
use Rattle.chart.specs.declared.Leaf.TheVariants as Leaves
use Rattle.chart.specs.declared.Shown.TheVariants.{Silent, Accelerators, Paged, Rom, Ram16, Ram8}
use Rattle.chart.specs.Chart.{has_pages, is_paged, kind_of, shown_at, leaf_at}

-- the eight settings of NARROW, WRITE and READ
pub kinds :
    (kind_of 0b000 ≡ Silent) × (kind_of 0b001 ≡ Rom) × (kind_of 0b010 ≡ Silent) × (kind_of 0b011 ≡ Ram16)
    × (kind_of 0b100 ≡ Silent) × (kind_of 0b101 ≡ Rom) × (kind_of 0b110 ≡ Silent) × (kind_of 0b111 ≡ Ram8)
kinds = (refl, refl, refl, refl, refl, refl, refl, refl)

-- RAM everywhere, and each flip entry with PFE
abbrev paged : ℕ → Cartridge
paged field = fresh (fresh_jlp field 0) (replicate 256 0) (replicate 256 3) (replicate 256 9)

-- no page in chapter 0 and below $4800, none in the silent ranges, and none in the accelerators' window while they are on
pub signs :
    (shown_at (paged 1) 0x04 ≡ Silent) × (shown_at (paged 1) 0x05 ≡ Ram16) × (shown_at (paged 1) 0x20 ≡ Paged) × (shown_at (paged 1) 0x3F ≡ Silent)
    × (shown_at (paged 1) 0x47 ≡ Ram16) × (shown_at (paged 1) 0x48 ≡ Paged) × (shown_at (paged 1) 0x80 ≡ Accelerators) × (shown_at (paged 0) 0x80 ≡ Paged)
unfolding shown_at silent between is_paged has_pages any
signs = (refl, refl, refl, refl, refl, refl, refl, refl)

-- an entry of page 300, which is page 44 of 128; one that shows silence; one without PFE; one of chapter 1
pub leaves :
    (leaf_at (replicate 256 0x12C9) 0x20 ≡ Leaves.Page 44) × (leaf_at (replicate 256 0x12C8) 0x20 ≡ Leaves.Silent)
    × (leaf_at (replicate 256 0x12C1) 0x20 ≡ Leaves.Idle) × (leaf_at (replicate 256 0x12C9) 0x1F ≡ Leaves.Idle)
unfolding leaf_at
leaves = (refl, refl, refl, refl)
