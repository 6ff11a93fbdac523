-- Bankswitch registers and numbers, worked: the definitions compute.
use Rattle.std.specs.Prelude.{◌≡◌, [], ◌∷◌, replicate, refl, Some, None}
use Rattle.basics.specs.Lists.{laid}
use Rattle.places.specs.Places.{console}
use Rattle.switches.specs.Banks.{register_at, switched}

-- 001's example: $004C is the register of $C000-$C7FF; and the ends of the registers
pub registers :
    (register_at (console 0x004C) ≡ Some 0xC0) × (register_at (console 0x0040) ≡ Some 0) × (register_at (console 0x005F) ≡ Some 0xF8)
    × (register_at (console 0x003F) ≡ None) × (register_at (console 0x0060) ≡ None) × (register_at (console 0x0140) ≡ None)
unfolding register_at
registers = (refl, refl, refl, refl, refl, refl)

-- going round: half-page 0 switched to 254
pub goes_round : switched 0 254 (replicate 9 0x1234) ≡ 254 ∷ 255 ∷ 0 ∷ 1 ∷ 2 ∷ 3 ∷ 4 ∷ 5 ∷ 0x1234 ∷ []
unfolding switched laid
goes_round = refl
