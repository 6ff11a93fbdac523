-- Laws of the sums. A step is linear over xor and shifts low zeros out, so that a byte with its followers is one entry of a
-- table, xored to what the followers make of the rest; and a sum has the bits of its polynomial.
use Prim.Native.Nat.{ℕ, ◌<◌, ◌%◌, ◌/◌, zero, suc, ◌*◌, ◌^◌, ◌+◌}
use Rattle.std.proofs.Math.Bool.{cond, true, false}
use Rattle.std.specs.Prelude.{Bool, ◌≡◌, eqb, get_or}
use Rattle.std.proofs.Math.Path.{refl, ap₂, ap}
use Rattle.std.proofs.Common.{sym, ◌∙◌, mod-lt, lit<}
use mathlib.Core.List.{List, [], ◌∷◌}
use Rattle.std.proofs.Math.Nat.{mul-one}
use native.Mathlib.Omega.{arith}
use Rattle.std.specs.Int.Bits.{differ, bit_xor, xor_zero_r, xor_self, shifted_half, shifted_even, xor_shifted, xor_comm, xor_lt}
use Rattle.std.proofs.lemmas.Nat.{xor_shr}
use Rattle.std.proofs.Math.Pow.{split, pow_pos}
use Rattle.std.proofs.Math.ListN.{length}
use Rattle.basics.specs.Laws.Xor.{digit, xor_half, xor_odd, odd_lt, xor_swap, xor_past}
use Rattle.basics.specs.Laws.Octets.{Bytes}
use Rattle.sums.specs.Crc.{crc_bit, crc_bits, crc_byte, crc_from, dowcrc_of, dow_poly}

module _ (p : ℕ) where
  -- what an odd sum has added to it
  abbrev added : ℕ → ℕ
  added n = cond (eqb n 1) p 0

  added_linear : (x y : ℕ) → x < 2 → y < 2 → added (differ x y) ≡ bit_xor (added x) (added y)
  added_linear x y hx hy =
      digit (λ x. added (differ x y) ≡ bit_xor (added x) (added y)) refl
      (digit (λ y. added (differ 1 y) ≡ bit_xor p (added y)) (sym (xor_zero_r p)) (sym (xor_self p)) y hy) x hx

  bit_linear : (a b : ℕ) → crc_bit p (bit_xor a b) ≡ bit_xor (crc_bit p a) (crc_bit p b)
  unfolding crc_bit
  bit_linear a b =
      ap₂ bit_xor (xor_half a b) (ap added (xor_odd a b) ∙ added_linear (a % 2) (b % 2) (odd_lt a) (odd_lt b))
      ∙ xor_swap (a / 2) (b / 2) (added (a % 2)) (added (b % 2))

  bits_linear : (n a b : ℕ) → crc_bits p n (bit_xor a b) ≡ bit_xor (crc_bits p n a) (crc_bits p n b)
  unfolding crc_bits
  bits_linear zero a b = refl
  bits_linear (suc n) a b = ap (crc_bits p n) (bit_linear a b) ∙ bits_linear n (crc_bit p a) (crc_bit p b)

  -- n steps shift n low zeros out
  bits_shift : (n h : ℕ) → crc_bits p n (h * 2 ^ n) ≡ h
  unfolding crc_bits crc_bit
  bits_shift zero h = mul-one h
  bits_shift (suc n) h =
      ap (crc_bits p n) (ap₂ (λ (x y : ℕ). bit_xor x (added y)) (shifted_half h n) (shifted_even h n) ∙ xor_zero_r (h * 2 ^ n))
      ∙ bits_shift n h

  -- so they go through the n low digits alone, and move the others down
  pub bits_split : (n x : ℕ) → crc_bits p n x ≡ bit_xor (x / 2 ^ n) (crc_bits p n (x % 2 ^ n))
  bits_split n x =
      ap (crc_bits p n) (sym (split x n) ∙ sym (xor_shifted (x / 2 ^ n) n (x % 2 ^ n) (mod-lt x (pow_pos n))))
      ∙ bits_linear n (x / 2 ^ n * 2 ^ n) (x % 2 ^ n)
      ∙ ap (λ (y : ℕ). bit_xor y (crc_bits p n (x % 2 ^ n))) (bits_shift n (x / 2 ^ n))

  pub bits_add : (m n k c : ℕ) → k ≡ m + n → crc_bits p n (crc_bits p m c) ≡ crc_bits p k c
  unfolding crc_bits
  bits_add zero n k c e = let z : n ≡ k = omega arith in rw z
  bits_add (suc m) n zero c e = absurd (omega arith)
  bits_add (suc m) n (suc k) c e = bits_add m n k (crc_bit p c) (omega arith)

  -- one bit more
  pub bits_next : (n x c y : ℕ) → x ≡ crc_bits p n c → y ≡ crc_bit p x → y ≡ crc_bits p (n + 1) c
  unfolding crc_bits
  bits_next n x c y e f = f ∙ ap (crc_bit p) e ∙ bits_add n 1 (n + 1) c refl

  -- a byte by a table: what the table has at the low digits, and the rest moved down
  pub byte_table : (c b : ℕ) → b < 256 → crc_byte p c b ≡ bit_xor (c / 256) (crc_bits p 8 (bit_xor c b % 256))
  unfolding crc_byte
  byte_table c b h =
      let z : b / 256 ≡ 0 = omega arith in
      bits_split 8 (bit_xor c b)
      ∙ ap (λ (x : ℕ). bit_xor x (crc_bits p 8 (bit_xor c b % 256))) (xor_shr c b 8 ∙ ap (bit_xor (c / 256)) z ∙ xor_zero_r (c / 256))

  -- a sum is linear in where it starts: what is added there goes through the steps of the bytes
  from_linear : (u v : ℕ) (s : List ℕ) → crc_from p (bit_xor u v) s ≡ bit_xor (crc_from p u s) (crc_bits p (8 * length s) v)
  unfolding crc_from crc_byte crc_bits
  from_linear u v [] = refl
  from_linear u v (b ∷ s) =
      ap (λ (x : ℕ). crc_from p x s) (ap (crc_bits p 8) (xor_past u v b) ∙ bits_linear 8 (bit_xor u b) v)
      ∙ from_linear (crc_byte p u b) (crc_bits p 8 v) s
      ∙ ap (bit_xor (crc_from p (crc_byte p u b) s)) (bits_add 8 (8 * length s) (8 * suc (length s)) v (omega arith))

  -- a byte and its followers: its entry, and what they make of the rest
  pub from_peel : (c b : ℕ) (s : List ℕ) → b < 256
      → crc_from p c (b ∷ s) ≡ bit_xor (crc_bits p (8 * length s + 8) (bit_xor c b % 256)) (crc_from p (c / 256) s)
  unfolding crc_from
  from_peel c b s h =
      ap (λ (x : ℕ). crc_from p x s) (byte_table c b h)
      ∙ from_linear (c / 256) (crc_bits p 8 (bit_xor c b % 256)) s
      ∙ ap (bit_xor (crc_from p (c / 256) s)) (bits_add 8 (8 * length s) (8 * length s + 8) (bit_xor c b % 256) (omega arith))
      ∙ xor_comm (crc_from p (c / 256) s) (crc_bits p (8 * length s + 8) (bit_xor c b % 256))

  -- a sum over a polynomial of k bits has k bits
  module _ (k : ℕ) (hp : p < 2 ^ k) where
    bit_lt : (c : ℕ) → c < 2 ^ k → crc_bit p c < 2 ^ k
    unfolding crc_bit
    bit_lt c hc = xor_lt k (c / 2) (added (c % 2)) (omega arith) (added_lt (eqb (c % 2) 1))
      where
        added_lt : (b : Bool) → cond b p 0 < 2 ^ k
        added_lt true = hp
        added_lt false = pow_pos k

    pub bits_lt : (n c : ℕ) → c < 2 ^ k → crc_bits p n c < 2 ^ k
    unfolding crc_bits
    bits_lt zero c hc = hc
    bits_lt (suc n) c hc = bits_lt n (crc_bit p c) (bit_lt c hc)

    pub from_lt : (c : ℕ) (s : List ℕ) → c < 2 ^ k → ((i : ℕ) → get_or s i 0 < 2 ^ k) → crc_from p c s < 2 ^ k
    unfolding crc_from crc_byte
    from_lt c [] hc hs = hc
    from_lt c (b ∷ s) hc hs = from_lt (crc_byte p c b) s (bits_lt 8 (bit_xor c b) (xor_lt k c b hc (hs 0))) (λ i. hs (suc i))

-- the three sums of bytes fit their fields
pub dow_fits : (s : List ℕ) → Bytes s → dowcrc_of s < 256
dow_fits s h = from_lt dow_poly 8 (lit< tt) 0 s (lit< tt) h
