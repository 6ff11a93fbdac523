-- Laws of `bit_xor` that the library lacks: it is associative, so that terms may change places.
use Rattle.std.specs.Prelude.{ℕ, ◌<◌, zero, suc, ◌%◌, ◌/◌, ◌*◌, ◌+◌, ◌≡◌, refl}
use Rattle.std.proofs.Common.{ap, ◌∙◌, ap₂, sym, arith, mod-lt, zero-lt-suc}
use Rattle.std.specs.Int.Bits.{differ, bit_xor, xor_step}
use Rattle.std.proofs.lemmas.Nat.{xor_shr, xor_comm}
use Rattle.std.proofs.Math.Arith.{digits_mod, bin_ind}

-- what holds of 0 and of 1 holds of a digit
pub digit : (P : ℕ → Type 0) → P 0 → P 1 → (n : ℕ) → n < 2 → P n
digit P z o zero h = z
digit P z o (suc zero) h = o
digit P z o (suc (suc n)) h = absurd (omega arith)

pub odd_lt : (n : ℕ) → n % 2 < 2
odd_lt n = mod-lt n (zero-lt-suc 1)

differ_lt : (x y : ℕ) → x < 2 → y < 2 → differ x y < 2
differ_lt x y hx hy = digit (λ x. differ x y < 2) hy (digit (λ y. differ 1 y < 2) (omega arith) (omega arith) y hy) x hx

differ_assoc : (x y z : ℕ) → x < 2 → y < 2 → z < 2 → differ (differ x y) z ≡ differ x (differ y z)
differ_assoc x y z hx hy hz =
    digit (λ x. differ (differ x y) z ≡ differ x (differ y z)) refl
    (digit (λ y. differ (differ 1 y) z ≡ differ 1 (differ y z)) refl (digit (λ z. differ 0 z ≡ differ 1 (differ 1 z)) refl refl z hz) y hy) x hx

pub xor_half : (a b : ℕ) → bit_xor a b / 2 ≡ bit_xor (a / 2) (b / 2)
xor_half a b = xor_shr a b 1

pub xor_odd : (a b : ℕ) → bit_xor a b % 2 ≡ differ (a % 2) (b % 2)
xor_odd a b =
    ap (λ (x : ℕ). x % 2) (xor_step a b) ∙ digits_mod (bit_xor (a / 2) (b / 2)) (differ_lt (a % 2) (b % 2) (odd_lt a) (odd_lt b))

pub xor_assoc : (a b c : ℕ) → bit_xor (bit_xor a b) c ≡ bit_xor a (bit_xor b c)
xor_assoc a =
    bin_ind (λ (n : ℕ). (b c : ℕ) → bit_xor (bit_xor n b) c ≡ bit_xor n (bit_xor b c)) (λ b c. refl)
    (λ n ih b c.
    xor_step (bit_xor n b) c
    ∙ ap₂ (λ (x y : ℕ). x * 2 + y)
    (ap (λ (x : ℕ). bit_xor x (c / 2)) (xor_half n b) ∙ ih (b / 2) (c / 2) ∙ ap (bit_xor (n / 2)) (sym (xor_half b c)))
    (ap (λ (x : ℕ). differ x (c % 2)) (xor_odd n b) ∙ differ_assoc (n % 2) (b % 2) (c % 2) (odd_lt n) (odd_lt b) (odd_lt c)
    ∙ ap (differ (n % 2)) (sym (xor_odd b c)))
    ∙ sym (xor_step n (bit_xor b c))) a

-- the last of three before the second
pub xor_past : (a b c : ℕ) → bit_xor (bit_xor a b) c ≡ bit_xor (bit_xor a c) b
xor_past a b c = xor_assoc a b c ∙ ap (bit_xor a) (xor_comm b c) ∙ sym (xor_assoc a c b)

pub xor_swap : (a b c d : ℕ) → bit_xor (bit_xor a b) (bit_xor c d) ≡ bit_xor (bit_xor a c) (bit_xor b d)
xor_swap a b c d =
    sym (xor_assoc (bit_xor a b) c d) ∙ ap (λ (x : ℕ). bit_xor x d) (xor_past a b c) ∙ xor_assoc (bit_xor a c) b d
