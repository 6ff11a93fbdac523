-- `build::uid_of` meets its contract: the bytes of the two sums.
use Prim.Native.Nat.{ℕ, ◌<◌, ◌/◌, ◌%◌}
use mathlib.Core.Path.{◌≡◌, ◌∙◌, ap}
use native.Mathlib.Omega.{arith}
use Rattle.sums.specs.Crc.{crc32_of}
use mir.Syntax.{w32}
use Rattle.std.specs.Int.{to_le_bytes}
use Rattle.basics.specs.Bytes.{le32}
use Rattle.build.specs.Building.{uid_of}
use Rattle.build.proofs.uid_of.Goals as goal

sum_bytes : (x : ℕ) → x < 4294967296 → to_le_bytes w32 x ≡ le32 x
sum_bytes x h =
    let a : x % 65536 % 256 ≡ x % 256 = omega arith in
    let b : x % 65536 / 256 ≡ x / 256 % 256 = omega arith in
    let d : x / 65536 / 256 ≡ x / 16777216 % 256 = omega arith in
    rw (a, b, d)

pub returns : goal.returns
unfolding uid_of
returns c =
    let b : c.to_le_bytes-b.result ≡ le32 (crc32_of c.args.bin.now) = c.to_le_bytes-b.ensures ∙ sum_bytes _ c.crc32.type_inv ∙ ap le32 c.crc32.ensures in
    let d : c.to_le_bytes-c.result ≡ le32 (crc32_of c.args.cfg.now) = c.to_le_bytes-c.ensures ∙ sum_bytes _ c.crc32-2.type_inv ∙ ap le32 c.crc32-2.ensures in
    rw (b, d)
