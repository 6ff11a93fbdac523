-- `exports::luigi_writes_by_value` meets its contract. The invariant: c, the RAM and the flash are what the first i writes leave.
use Prim.Native.Nat.{ℕ}
use mathlib.Core.Path.{◌≡◌, ◌∙◌}
use mathlib.Core.List.{List}
use native.Mathlib.Nat.{min-le_left, min-le_right}
use native.Mathlib.Omega.{arith}
use borrow.Author.Rules.{rules}
use Rattle.cart.specs.declared.Cartridge.{Cartridge}
use Rattle.exports.specs.Runs.{written}
use Rattle.exports.specs.Laws.Runs.{cartridge_none, ram_none, flash_none, cartridge_one, ram_one, flash_one}
use Rattle.exports.proofs.luigi_writes_by_value.Goals as goal

ram_last : (c d : Cartridge) (ram flash at v m : List ℕ) (i n : ℕ)
    → c ≡ d → i ≡ n → m ≡ (written c ram flash at v i).ram → m ≡ (written d ram flash at v n).ram
ram_last c d ram flash at v m i n p q e = rw (← p, ← q) e

flash-last : (c d : Cartridge) (ram flash at v m : List ℕ) (i n : ℕ)
    → c ≡ d → i ≡ n → m ≡ (written c ram flash at v i).flash → m ≡ (written d ram flash at v n).flash
flash-last c d ram flash at v m i n p q e = rw (← p, ← q) e

pub loop-i-init : goal.loop-i-init
loop-i-init c = (
  (search rules),
  (search (rules, c.min-i-end.ensures, min-le_left)),
  (search (rules, c.min-i-end.ensures, min-le_right)),
  (search rules),
  (search rules),
  (search cartridge_none),
  (search ram_none),
  (search flash_none),
)

pub loop-i-preserved : goal.loop-i-preserved
loop-i-preserved c =
    let done = c.write.ensures in (
      (search rules),
      (search rules),
      (search rules),
      (search rules),
      (search rules),
      (search (cartridge_one, done.0)),
      (search (ram_one, done.1)),
      (search (flash_one, done.2)),
    )

pub returns : goal.returns
returns c =
    let made = c.fresh-c.ensures in
    let i : c.loop-i.i ≡ c.min-i-end.result = omega arith in
    let n = i ∙ c.min-i-end.ensures in (
      rw (← made, ← n, ← c.loop-i.invariant.5) c.active_as.ensures,
      ram_last _ _ _ _ _ _ _ _ _ made n c.loop-i.invariant.6,
      flash-last _ _ _ _ _ _ _ _ _ made n c.loop-i.invariant.7,
    )
