-- What the public functions answer and leave one after another: `build` then `load` of the image at its buffer's front, and `write`
-- then `load`. The functions of this crate promise these records, so that the demands speak of what the functions do.
use Rattle.std.specs.Prelude.{ℕ, List, ◌≡◌, length, take}
use Rattle.places.specs.Limits.{lent}
use Rattle.cart.specs.Run.{World}
use Rattle.load.specs.Load.{Loading}
use Rattle.load.specs.Load.{loading_of, load_ram_of}
use Rattle.save.specs.Writing.{Writing}
use Rattle.save.specs.Writing.{Content, writing_of, written_of}
use Rattle.build.specs.Building.{Building}
use Rattle.build.specs.Building.{building_of, built_of}

-- `load` of the first bytes of a buffer, with f words of flash: its answer, and the RAM that it leaves
pub record Loads (image ram : List ℕ) (f : ℕ) (l : Loading) (stored : List ℕ) : Type 0 where
  pub answer : l ≡ loading_of image (lent ram) f
  pub leaves : stored ≡ load_ram_of image ram f

-- a title pressed from a BIN, a CFG and a label into a buffer, and loaded into a RAM, with a flash that is left as found
pub record Pressing : Type 0 where
  pub bin : List ℕ
  pub cfg : List ℕ
  pub label : List ℕ
  pub out : List ℕ
  pub ram : List ℕ
  pub flash : List ℕ
  pub building : Building
  pub left : List ℕ
  pub loading : Loading
  pub stored : List ℕ

pub record Pressed (p : Pressing) : Type 0 where
  pub answer : p.building ≡ building_of p.bin p.cfg p.label p.out
  pub leaves : p.left ≡ built_of p.bin p.cfg p.label p.out
  pub loads : Loads (take p.building.length p.left) p.ram (length p.flash) p.loading p.stored

-- a cartridge written into a buffer, and loaded into a RAM, likewise
pub record Trip : Type 0 where
  pub content : Content
  pub out : List ℕ
  pub ram : List ℕ
  pub flash : List ℕ
  pub writing : Writing
  pub left : List ℕ
  pub loading : Loading
  pub stored : List ℕ

pub record Made (t : Trip) : Type 0 where
  pub answer : t.writing ≡ writing_of t.out t.content
  pub leaves : t.left ≡ written_of t.out t.content
  pub loads : Loads (take t.writing.length t.left) t.ram (length t.flash) t.loading t.stored

-- a cartridge that a load answered, over the flash that was lent and the RAM that it left
abbrev pub world_of : Loading → List ℕ → List ℕ → World
world_of l flash ram = record { cartridge = l.cartridge; flash = flash; ram = ram }
