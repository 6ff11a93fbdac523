-- Numbers of several bytes, read back as they were written.
use Rattle.std.specs.Prelude.{ℕ, ◌%◌, ◌+◌, ◌*◌, ◌/◌, ◌≤◌, zero, suc, ◌≡◌, refl, List, [], ◌∷◌, ◌++◌, length, get_or}
use Rattle.std.proofs.Common.{ap, ◌∙◌, arith}
use Rattle.std.proofs.Math.ListN.{get_or-eq_default}
use Rattle.basics.specs.Bytes.{at16, bytes16}

-- past the end
pub at16_past : (s : List ℕ) (at : ℕ) → length s ≤ at → 0 ≡ at16 s at
at16_past s at h = omega (arith, get_or-eq_default s 0 h, get_or-eq_default s 0 {n = at + 1} (omega arith))

pub low_high : (w : ℕ) → w % 256 + 256 * (w / 256) ≡ w
low_high w = omega arith

pub length_bytes16 : (ws : List ℕ) → length (bytes16 ws) ≡ 2 * length ws
unfolding bytes16
length_bytes16 [] = refl
length_bytes16 (w ∷ ws) = omega (arith, length_bytes16 ws)

pub bytes16_append : (xs ys : List ℕ) → bytes16 (xs ++ ys) ≡ bytes16 xs ++ bytes16 ys
unfolding bytes16
bytes16_append [] ys = refl
bytes16_append (x ∷ xs) ys = ap {B = List ℕ} (λ r. x % 256 ∷ x / 256 ∷ r) (bytes16_append xs ys)

-- the bytes of word i
pub bytes16_low : (ws : List ℕ) (i : ℕ) → get_or (bytes16 ws) (2 * i) 0 ≡ get_or ws i 0 % 256
unfolding bytes16
bytes16_low [] i = refl
bytes16_low (w ∷ ws) zero = refl
bytes16_low (w ∷ ws) (suc i) =
    let two : 2 * suc i ≡ suc (suc (2 * i)) = omega arith in
    ap (λ (k : ℕ). get_or (w % 256 ∷ w / 256 ∷ bytes16 ws) k 0) two ∙ bytes16_low ws i

pub bytes16_high : (ws : List ℕ) (i : ℕ) → get_or (bytes16 ws) (2 * i + 1) 0 ≡ get_or ws i 0 / 256
unfolding bytes16
bytes16_high [] i = refl
bytes16_high (w ∷ ws) zero = refl
bytes16_high (w ∷ ws) (suc i) =
    let two : 2 * suc i + 1 ≡ suc (suc (2 * i + 1)) = omega arith in
    ap (λ (k : ℕ). get_or (w % 256 ∷ w / 256 ∷ bytes16 ws) k 0) two ∙ bytes16_high ws i

pub four_bytes : (x : ℕ) → x % 65536 % 256 + 256 * (x % 65536 / 256) + 65536 * (x / 65536 % 256 + 256 * (x / 65536 / 256)) ≡ x
four_bytes x = omega arith
