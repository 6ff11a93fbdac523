-- A sum by the tables of a polynomial is the polynomial's sum.
use Prim.Native.Nat.{ℕ, ◌<◌, ◌/◌, ◌%◌, ◌≤◌, ◌-◌, ◌*◌, ◌+◌, suc, ◌^◌, zero}
use Rattle.std.specs.Prelude.{◌≡◌, length, drop}
use Rattle.std.proofs.Math.Path.{ap, sym, ap₂, refl}
use Rattle.std.proofs.Common.{◌∙◌, mod-eq_of_lt, mod-lt, zero-lt-suc, lit<}
use mathlib.Core.List.{List, [], ◌∷◌, ◌++◌}
use native.Mathlib.Omega.{arith}
use Rattle.std.specs.Int.Bits.{bit_xor, xor_zero_r, xor_lt}
use Rattle.std.proofs.Math.ListN.{get_or}
use Rattle.basics.specs.Tables.{table}
use Rattle.basics.specs.Laws.Tables.{get_d_table}
use Rattle.basics.specs.Laws.Octets.{Bytes, bytes_drop}
use Rattle.basics.specs.Laws.Lists.{drop_one}
use Rattle.sums.specs.Crc.{crc_bits, crc_from, crc_byte, dow_poly, dowcrc_of, c324_poly, crc324_of, ieee_poly, crc32_of}
use Rattle.sums.specs.Tables.{table_entries, entry_of, entry_at, tables_of, by_bytes, by_eight, by_eights, by_tables}
use Rattle.sums.specs.Laws.Crc.{bits_split, bits_add, byte_table, from_peel, bits_lt, dow_fits}

module _ (p : ℕ) where
  -- an entry of the first table, and any other from the one 256 places before it
  pub entry_first : (k : ℕ) → k < 256 → crc_bits p 8 k ≡ entry_of p k
  entry_first k h =
      let q : k / 256 ≡ 0 = omega arith in
      let r : k % 256 ≡ k = mod-eq_of_lt h in
      rw (q, r)

  pub entry_next : (i x y : ℕ) → 256 ≤ i → x ≡ entry_of p (i - 256) → y ≡ entry_of p (x % 256) → bit_xor (x / 256) y ≡ entry_of p i
  entry_next i x y h ex ey =
      let q : 8 * (i / 256) + 8 ≡ 8 * ((i - 256) / 256) + 8 + 8 = omega arith in
      let r : (i - 256) % 256 ≡ i % 256 = omega arith in
      ap (bit_xor (x / 256)) (ey ∙ sym (entry_first (x % 256) (mod-lt x (zero-lt-suc 255))))
      ∙ sym (bits_split p 8 x) ∙ ap (crc_bits p 8) ex
      ∙ bits_add p (8 * ((i - 256) / 256) + 8) 8 (8 * (i / 256) + 8) ((i - 256) % 256) q ∙ ap (crc_bits p (8 * (i / 256) + 8)) r

  -- the entry that a byte picks of table j
  picked : (j c b : ℕ) → j < 8 → entry_at (tables_of p) j c b ≡ crc_bits p (8 * j + 8) (bit_xor c b % 256)
  unfolding tables_of entry_at
  picked j c b h = at (bit_xor c b % 256) (mod-lt (bit_xor c b) (zero-lt-suc 255))
    where
      at : (k : ℕ) → k < 256 → get_or (table table_entries (entry_of p)) (256 * j + k) 0 ≡ crc_bits p (8 * j + 8) k
      at k l =
          let q : (256 * j + k) / 256 ≡ j = omega arith in
          let r : (256 * j + k) % 256 ≡ k = omega arith in
          get_d_table 0 table_entries (entry_of p) (256 * j + k) (omega arith) ∙ ap₂ (λ (m n : ℕ). crc_bits p (8 * m + 8) n) q r

  -- byte by byte
  by_bytes_lem : (c : ℕ) (s : List ℕ) → Bytes s → by_bytes (tables_of p) c s ≡ crc_from p c s
  unfolding by_bytes crc_from
  by_bytes_lem c [] h = refl
  by_bytes_lem c (b ∷ s) h =
      ap (λ (x : ℕ). by_bytes (tables_of p) x s) (ap (bit_xor (c / 256)) (picked 0 c b (lit< tt)) ∙ sym (byte_table p c b (h 0)))
      ∙ by_bytes_lem (crc_byte p c b) s (λ i. h (suc i))

  -- a byte that fewer than eight others follow
  more : (c d b : ℕ) (s : List ℕ) {rest : ℕ} → b < 256 → length s < 8 → c / 256 ≡ d → rest ≡ crc_from p d s
      → bit_xor (entry_at (tables_of p) (length s) c b) rest ≡ crc_from p c (b ∷ s)
  more c d b s h l e r =
      ap₂ bit_xor (picked (length s) c b l) (r ∙ ap (λ (x : ℕ). crc_from p x s) (sym e)) ∙ sym (from_peel p c b s h)

  last : (b : ℕ) → b < 256 → entry_at (tables_of p) 0 0 b ≡ crc_from p 0 (b ∷ [])
  unfolding crc_from
  last b h = sym (xor_zero_r (entry_at (tables_of p) 0 0 b)) ∙ more 0 0 b [] h (lit< tt) refl refl

-- eight elements of s from place i on, and what follows them
abbrev eight_at : List ℕ → ℕ → List ℕ
eight_at s i =
    get_or s i 0 ∷ get_or s (i + 1) 0 ∷ get_or s (i + 2) 0 ∷ get_or s (i + 3) 0 ∷ get_or s (i + 4) 0 ∷ get_or s (i + 5) 0 ∷ get_or s (i + 6) 0 ∷ get_or s (i + 7) 0 ∷ []

drop_eight : (s : List ℕ) (i j : ℕ) → i + 8 ≤ length s → j ≡ i + 8 → drop i s ≡ eight_at s i ++ drop j s
drop_eight s i j h e =
    rw (
      drop_one s i (i + 1) (omega arith) (omega arith),
      drop_one s (i + 1) (i + 2) (omega arith) (omega arith),
      drop_one s (i + 2) (i + 3) (omega arith) (omega arith),
      drop_one s (i + 3) (i + 4) (omega arith) (omega arith),
      drop_one s (i + 4) (i + 5) (omega arith) (omega arith),
      drop_one s (i + 5) (i + 6) (omega arith) (omega arith),
      drop_one s (i + 6) (i + 7) (omega arith) (omega arith),
      drop_one s (i + 7) j (omega arith) (omega arith),
    )

-- eight bytes: what they make of c, and what follows makes of that
module _ (p : ℕ) (hp : p < 2 ^ 32) (s : List ℕ) (hs : Bytes s) where
  by_eight_lem : (c i : ℕ) → c < 2 ^ 32 → by_eight (tables_of p) c s i ≡ crc_from p c (eight_at s i)
  unfolding by_eight
  by_eight_lem c i hc =
      more p c (c / 256) _ _ (hs i) (lit< tt) refl
      (more p (c / 256) (c / 65536) _ _ (hs (i + 1)) (lit< tt) (omega arith)
      (more p (c / 65536) (c / 16777216) _ _ (hs (i + 2)) (lit< tt) (omega arith)
      (more p (c / 16777216) 0 _ _ (hs (i + 3)) (lit< tt) (omega arith)
      (more p 0 0 _ _ (hs (i + 4)) (lit< tt) refl
      (more p 0 0 _ _ (hs (i + 5)) (lit< tt) refl (more p 0 0 _ _ (hs (i + 6)) (lit< tt) refl (last p _ (hs (i + 7)))))))))

  picked_lt : (j c b : ℕ) → j < 8 → entry_at (tables_of p) j c b < 2 ^ 32
  picked_lt j c b h = rw (picked p j c b h) (bits_lt p 32 hp (8 * j + 8) (bit_xor c b % 256) (omega arith))

  eight_lt : (c i : ℕ) → by_eight (tables_of p) c s i < 2 ^ 32
  unfolding by_eight
  eight_lt c i =
      xor_lt 32 _ _ (picked_lt 7 _ _ (lit< tt)) (xor_lt 32 _ _ (picked_lt 6 _ _ (lit< tt)) (xor_lt 32 _ _ (picked_lt 5 _ _ (lit< tt))
      (xor_lt 32 _ _ (picked_lt 4 _ _ (lit< tt)) (xor_lt 32 _ _ (picked_lt 3 _ _ (lit< tt)) (xor_lt 32 _ _ (picked_lt 2 _ _ (lit< tt))
      (xor_lt 32 _ _ (picked_lt 1 _ _ (lit< tt)) (picked_lt 0 _ _ (lit< tt))))))))

  eight_from : (c i j : ℕ) → c < 2 ^ 32 → i + 8 ≤ length s → j ≡ i + 8 → crc_from p (by_eight (tables_of p) c s i) (drop j s) ≡ crc_from p c (drop i s)
  unfolding crc_from
  eight_from c i j hc l e = ap (λ (x : ℕ). crc_from p x (drop j s)) (by_eight_lem c i hc) ∙ ap (crc_from p c) (sym (drop_eight s i j l e))

  module _ (c : ℕ) (hc : c < 2 ^ 32) where
    eights_lt : (n : ℕ) → by_eights (tables_of p) c s n < 2 ^ 32
    unfolding by_eights
    eights_lt zero = hc
    eights_lt (suc n) = eight_lt (by_eights (tables_of p) c s n) (8 * n)

    by_eights_lem : (n : ℕ) → 8 * n ≤ length s → crc_from p (by_eights (tables_of p) c s n) (drop (8 * n) s) ≡ crc_from p c s
    unfolding by_eights
    by_eights_lem zero l = refl
    by_eights_lem (suc n) l =
        eight_from (by_eights (tables_of p) c s n) (8 * n) (8 * suc n) (eights_lt n) (omega arith) (omega arith) ∙ by_eights_lem n (omega arith)

    pub by_tables_lem : by_tables (tables_of p) c s ≡ crc_from p c s
    unfolding by_tables
    by_tables_lem =
        by_bytes_lem p (by_eights (tables_of p) c s (length s / 8)) (drop (8 * (length s / 8)) s) (bytes_drop (8 * (length s / 8)) s hs)
        ∙ by_eights_lem (length s / 8) (omega arith)

-- what lent tables give, where they are a sum's own
pub dow_by : (t s : List ℕ) → t ≡ tables_of dow_poly → Bytes s → by_tables t 0 s % 256 ≡ dowcrc_of s
dow_by t s e h = rw (e, by_tables_lem dow_poly (lit< tt) s h 0 (lit< tt)) (mod-eq_of_lt (dow_fits s h))

pub c324_by : (t s : List ℕ) → t ≡ tables_of c324_poly → Bytes s → by_tables t 0 s ≡ crc324_of s
c324_by t s e h = rw e (by_tables_lem c324_poly (lit< tt) s h 0 (lit< tt))

pub ieee_by : (t s : List ℕ) → t ≡ tables_of ieee_poly → Bytes s → bit_xor (by_tables t 0xFFFF_FFFF s) 0xFFFF_FFFF ≡ crc32_of s
ieee_by t s e h = rw (e, by_tables_lem ieee_poly (lit< tt) s h 0xFFFF_FFFF (lit< tt))
