-- A block that is made of a payload: how long it is, and that it is read back as a whole block of its type, with its payload and a checksum that is right.
use Rattle.std.specs.Prelude.{ℕ, ◌+◌, ◌≡◌, List, length}
use Rattle.std.proofs.Math.Path.{refl}
use native.Mathlib.Omega.{arith}
use Rattle.basics.specs.Laws.Bytes.{low_high, four_bytes}
use Rattle.sums.specs.Crc.{crc324_of}
use Rattle.blocks.specs.Blocks.{frame_size, type_of, size_said, sum_said, payload_in, frame_of, framed, block_of, end_mark, Block}

module _ (type sum : ℕ) (x : List ℕ) where
  pub length_framed : length (framed type sum x) ≡ frame_size + length x
  unfolding frame_of
  length_framed = omega arith

  pub type_back : type_of (framed type sum x) ≡ type
  unfolding frame_of
  type_back = refl

  pub size_back : size_said (framed type sum x) ≡ length x
  unfolding frame_of
  size_back = low_high (length x)

  pub sum_back : sum_said (framed type sum x) ≡ sum
  unfolding frame_of
  sum_back = four_bytes sum

  pub payload_back : payload_in (framed type sum x) ≡ x
  unfolding frame_of
  payload_back = refl

  pub block_back : (type ≡ end_mark → ⊥) → Block (framed type sum x)
  unfolding frame_of
  block_back d = record { long = omega (arith, length_framed, size_back); sum = refl; going = d }

pub length_block : (type : ℕ) (x : List ℕ) → length (block_of type x) ≡ frame_size + length x
length_block type x = length_framed type (crc324_of x) x
