-- What one turn of each loop does: one entry more of the tables; eight bytes more of a sum, or one.
use Prim.Native.Nat.{ℕ, ◌<◌, ◌+◌, ◌≤◌, ◌-◌, ◌/◌, ◌%◌, ◌*◌}
use mathlib.Core.List.{List}
use mathlib.Core.Path.{◌≡◌, ◌∙◌, sym, ap}
use native.Mathlib.Omega.{arith}
use native.Mathlib.Numerals.{add-one}
use native.Mathlib.Nat.{mod-eq_of_lt}
use lib.ListN.{set, get_or, length, drop, drop_of_length-le}
use lib.Bits.{bit_xor}
use lib.Seq.{drop-cons}
use Rattle.basics.specs.Laws.Octets.{Bytes}
use Rattle.basics.specs.Laws.Tables.{Filled, filled_more}
use Rattle.sums.specs.Tables.{table_entries, entry_of, by_eights, by_eight, by_bytes, entry_at}
use Rattle.sums.specs.Crc.{crc_bits, crc_byte, crc_from, dowcrc_of}
use Rattle.sums.specs.Laws.Crc.{dow_fits}
use Rattle.sums.specs.Laws.Tables.{entry_first, entry_next}

-- the first i entries of the tables of p stand in t
abbrev pub Tabled : ℕ → ℕ → List ℕ → Type 0
Tabled p i t = Filled 0 table_entries (entry_of p) i t

module _ (p i : ℕ) (t : List ℕ) (h : Tabled p i t) where
  pub first_next : (v : ℕ) → i < 256 → v ≡ crc_bits p 8 i → Tabled p (i + 1) (set t i v)
  first_next v l e = filled_more 0 table_entries (entry_of p) i v t h (omega arith) (e ∙ entry_first p i l)

  pub tables_next : 256 ≤ i → i < table_entries → Tabled p (i + 1) (set t i (bit_xor (get_or t (i - 256) 0 / 256) (get_or t (get_or t (i - 256) 0 % 256) 0)))
  tables_next l m =
      let x = get_or t (i - 256) 0 in
      filled_more 0 table_entries (entry_of p) i _ t h m
      (entry_next p i x (get_or t (x % 256) 0) l (h.each (i - 256) (omega arith)) (h.each (x % 256) (omega arith)))

module _ (t : List ℕ) (c : ℕ) (s : List ℕ) where
  pub eights_next : (n x y : ℕ) → x ≡ by_eights t c s n → y ≡ by_eight t x s (8 * n) → y ≡ by_eights t c s (n + 1)
  unfolding by_eights
  eights_next n x y e f = rw (add-one, ← e) f

  pub bytes_next : (i x y : ℕ) → i < length s → by_bytes t x (drop i s) ≡ by_bytes t c s → y ≡ entry_at t 0 x (get_or s i 0)
      → by_bytes t (bit_xor (x / 256) y) (drop (i + 1) s) ≡ by_bytes t c s
  unfolding by_bytes
  bytes_next i x y h e f = rw (f, add-one) (sym (ap (by_bytes t x) (drop-cons s i 0 h)) ∙ e)

  pub bytes_end : (i x : ℕ) → length s ≤ i → by_bytes t x (drop i s) ≡ by_bytes t c s → x ≡ by_bytes t c s
  unfolding by_bytes
  bytes_end i x h e = sym (ap (by_bytes t x) (drop_of_length-le s {i = i} h)) ∙ e

-- bit by bit
module _ (p c : ℕ) (s : List ℕ) where
  pub from_next : (i x y : ℕ) → i < length s → crc_from p x (drop i s) ≡ crc_from p c s → y ≡ crc_byte p x (get_or s i 0) → crc_from p y (drop (i + 1) s) ≡ crc_from p c s
  unfolding crc_from
  from_next i x y h e f = rw (f, add-one) (sym (ap (crc_from p x) (drop-cons s i 0 h)) ∙ e)

  pub from_end : (i x : ℕ) → length s ≤ i → crc_from p x (drop i s) ≡ crc_from p c s → x ≡ crc_from p c s
  unfolding crc_from
  from_end i x h e = sym (ap (crc_from p x) (drop_of_length-le s {i = i} h)) ∙ e

pub dow_short : (x : ℕ) (s : List ℕ) → x ≡ dowcrc_of s → Bytes s → x % 256 ≡ dowcrc_of s
dow_short x s e h = rw e (mod-eq_of_lt (dow_fits s h))
